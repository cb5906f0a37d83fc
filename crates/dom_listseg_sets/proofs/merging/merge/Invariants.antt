use Rattle.std.proofs.Common.{◌≡◌, ◌≤◌, ◌+◌, ◌-◌, ◌++◌, drop, length}
use Rattle.dom_listseg_meaning.specs.Sets as sets
use Rattle.dom_listseg_sets.proofs.merging.merge.Given as goal

-- the union of what is left of both goes after the graphs that are there
abbrev pub invariant-loop-left_place : goal.invariant-loop-left_place
invariant-loop-left_place l = record {
  left_in : l.left_place ≤ length l.left;
  right_in : l.right_place ≤ length l.right;
  merged : l.graphs.items ++ sets.union (drop l.left_place l.left) (drop l.right_place l.right) ≡ l.fn.graphs.items ++ sets.union l.left l.right;
}

abbrev pub decreases-loop-left_place : goal.decreases-loop-left_place
decreases-loop-left_place l = (length l.left - l.left_place) + (length l.right - l.right_place)
