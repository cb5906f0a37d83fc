use Rattle.std.proofs.Common.{◌≡◌, drop}
use Rattle.imp_check.specs.Slots.{names_array}
use Rattle.imp_check.proofs.slots.names_array.Given as goal

abbrev pub invariant-loop-number : goal.invariant-loop-number
invariant-loop-number l = names_array (drop l.number-index l.numbers) l.name ≡ names_array l.numbers l.name
