use Rattle.std.proofs.Common.{◌≡◌, true}
use Rattle.dbm_core.specs.Half.{entry, nodes}
use Rattle.dom_octagon_words.specs.Words.{all_below, at_place, bound_leq}
use Rattle.dom_octagon_words.proofs.order.entries_leq.Given as goal

-- so far no entry exceeds the other's
abbrev pub invariant-loop-place : goal.invariant-loop-place
invariant-loop-place l = all_below l.place (at_place (nodes l.left) (λ i j. bound_leq (entry l.left i j) (entry l.right i j))) ≡ true
