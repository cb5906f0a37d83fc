use Rattle.std.proofs.Common.{◌≡◌, ◌<◌, ◌≤◌, ◌+◌, ◌*◌, ℕ, length}
use Rattle.dbm_core.specs.Half.{row_start}
use Rattle.dbm_narrow.specs.Entries.{at, none, pair_at}
use Rattle.dbm_narrow.proofs.rows.whole_row.Given as goal

abbrev pub invariant-loop-j : goal.invariant-loop-j
invariant-loop-j gen l = record {
  size : length l.row ≡ 32;
  done : (k : ℕ) → k < l.j → at gen.W.Width.unit l.row k ≡ at gen.W.Width.unit l.entries (row_start l.i + k);
  rest : (k : ℕ) → l.j ≤ k → at gen.W.Width.unit l.row k ≡ none gen.W.Width.unit;
}

abbrev pub invariant-loop-slot : goal.invariant-loop-slot
invariant-loop-slot gen l = record {
  size : length l.row ≡ 32;
  done : (k : ℕ) → k < 2 * l.slot → at gen.W.Width.unit l.row k ≡ pair_at gen.W.Width.unit l.entries l.i k;
  rest : (k : ℕ) → 2 * l.slot ≤ k → at gen.W.Width.unit l.row k ≡ none gen.W.Width.unit;
}
