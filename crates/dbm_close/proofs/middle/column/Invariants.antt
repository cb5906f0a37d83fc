use Rattle.std.proofs.Common.{◌≡◌, ◌<◌, ◌≤◌, length, get_or, None, ℕ}
use Rattle.dbm_close.proofs.middle.column.Given as goal

abbrev pub invariant-loop-i : goal.invariant-loop-i
invariant-loop-i g l = record {
  size : length l.bounds ≡ 32;
  done : (k : ℕ) → k < l.i → goal.F-post g l.bound k (get_or l.bounds k None);
  beyond : (k : ℕ) → l.i ≤ k → get_or l.bounds k None ≡ None;
}
