use Rattle.std.proofs.Common.{◌≡◌, ◌++◌, drop}
use Rattle.edit_entries.specs.Spliced.{left_of}
use Rattle.edit_breaks.proofs.breaks.left_of.Given as goal

-- those so far, and those of the breaks to come
abbrev pub invariant-loop-number : goal.invariant-loop-number
invariant-loop-number l = l.left ++ left_of l.gone (drop l.number-index l.breaks) ≡ left_of l.gone l.breaks
