use Rattle.std.proofs.Common.{◌≡◌, ◌<◌, length, get_or, None, ℕ}
use Rattle.dbm_core.specs.Weights.{greatest}
use Rattle.dbm_core.proofs.kept.greater_each.Given as goal

abbrev pub invariant-loop-p : goal.invariant-loop-p
invariant-loop-p l = record {
  size : length l.joined.items ≡ l.p;
  greater : (k : ℕ) → k < l.p → get_or l.joined.items k None ≡ greatest (get_or l.left k None) (get_or l.right k None);
}
