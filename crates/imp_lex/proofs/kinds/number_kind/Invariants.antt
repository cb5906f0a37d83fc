use Rattle.std.proofs.Common.{◌≡◌, ◌≤◌, drop}
use Rattle.base_values.specs.Numbers.{greatest}
use Rattle.imp_lex.specs.Numbers.{value_on}
use Rattle.imp_lex.proofs.kinds.number_kind.Given as goal

-- the digits so far write the value
abbrev pub invariant-loop-digit : goal.invariant-loop-digit
invariant-loop-digit l = (l.value ≤ greatest) × (value_on l.value (drop l.digit-index l.digits) ≡ value_on 0 l.digits)
