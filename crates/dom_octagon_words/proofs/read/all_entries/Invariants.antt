use Rattle.std.proofs.Common.{◌≡◌, ◌*◌, true}
use Rattle.dom_octagon_words.specs.Words.{all_below, at_place, is_entry}
use Rattle.dom_octagon_words.proofs.read.all_entries.Given as goal

-- so far all are entries of a state
abbrev pub invariant-loop-place : goal.invariant-loop-place
invariant-loop-place l = all_below l.place (at_place (2 * l.slots) (is_entry l.words (2 * l.slots))) ≡ true
