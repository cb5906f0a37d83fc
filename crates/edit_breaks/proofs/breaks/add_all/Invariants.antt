use Rattle.std.proofs.Common.{◌≡◌, ◌++◌, drop}
use Rattle.edit_breaks.proofs.breaks.add_all.Given as goal

-- the numbers so far, and those to come
abbrev pub invariant-loop-number : goal.invariant-loop-number
invariant-loop-number l = l.all ++ drop l.number-index l.numbers ≡ l.initial.all ++ l.numbers
