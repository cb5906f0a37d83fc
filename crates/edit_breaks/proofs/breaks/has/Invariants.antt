use Rattle.std.proofs.Common.{◌≡◌, drop}
use Rattle.imp_check.specs.Programs.{has}
use Rattle.edit_breaks.proofs.breaks.has.Given as goal

-- the numbers from here on decide
abbrev pub invariant-loop-other : goal.invariant-loop-other
invariant-loop-other l = has (drop l.other-index l.numbers) l.number ≡ has l.numbers l.number
