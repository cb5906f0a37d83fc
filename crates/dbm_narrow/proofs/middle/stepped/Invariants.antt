use Rattle.std.proofs.Common.{◌≡◌, ◌<◌, ◌≤◌, ℕ, length}
use Rattle.std.specs.Prelude.{◌+ℤ◌}
use Rattle.dbm_narrow.specs.Entries.{at, none, settle}
use Rattle.dbm_narrow.proofs.middle.stepped.Given as goal

abbrev pub invariant-loop-j : goal.invariant-loop-j
invariant-loop-j gen l = record {
  size : length l.sums ≡ 32;
  done : (k : ℕ) → k < l.j → at gen.W.Width.unit l.sums k ≡ settle gen.W.Width.unit (l.step +ℤ at gen.W.Width.unit l.row k);
  rest : (k : ℕ) → l.j ≤ k → at gen.W.Width.unit l.sums k ≡ none gen.W.Width.unit;
}
