use Rattle.std.proofs.Common.{◌≤◌, ◌+◌, ◌-◌, length}
use Rattle.dom_listseg_sets.proofs.Added.{IsKept}
use Rattle.dom_listseg_sets.proofs.merging.has_all.Given as goal

abbrev pub invariant-loop-left_place : goal.invariant-loop-left_place
invariant-loop-left_place l = record {
  left_in : l.left_place ≤ length l.left;
  right_in : l.right_place ≤ length l.right;
  kept : IsKept l.left l.right l.left_place l.right_place;
}

abbrev pub decreases-loop-left_place : goal.decreases-loop-left_place
decreases-loop-left_place l = (length l.left - l.left_place) + (length l.right - l.right_place)
