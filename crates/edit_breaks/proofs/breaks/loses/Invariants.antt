use Rattle.std.proofs.Common.{◌≡◌, drop}
use Rattle.edit_entries.specs.Spliced.{left_of}
use Rattle.edit_breaks.proofs.breaks.loses.Given as goal

-- where those from here on stay, all do
abbrev pub invariant-loop-number : goal.invariant-loop-number
invariant-loop-number l = left_of l.gone (drop l.number-index l.entry.breaks) ≡ drop l.number-index l.entry.breaks → left_of l.gone l.entry.breaks ≡ l.entry.breaks
