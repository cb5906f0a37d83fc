use Rattle.std.proofs.Common.{◌≡◌, ℕ, ◌≤◌, ◌-◌, max, suc, length, count_by, is_some}
use Rattle.daig_graph.specs.Agrees.{value_at}
use Rattle.daig_graph.proofs.filling.make_places.Given as goal

abbrev pub invariant-loop-values : goal.invariant-loop-values
invariant-loop-values g l = record {
  same : (n : ℕ) → value_at l.values.items n ≡ value_at l.initial.values.items n;
  kept : length l.initial.values.items ≤ length l.values.items;
  most : length l.values.items ≤ max (length l.initial.values.items) (suc l.cell);
  counted : count_by is_some l.values.items ≡ count_by is_some l.initial.values.items;
}

abbrev pub decreases-loop-values : goal.decreases-loop-values
decreases-loop-values g l = suc l.cell - length l.values.items
