use Rattle.std.proofs.Common.{◌≡◌, ◌+◌, length, get_or, None}
use Rattle.dbm_core.proofs.HalfLemmas.{CellsHold, RowsHold}
use Rattle.dbm_core.proofs.UpdateLemmas.{AgreeFrom}
use Rattle.dbm_core.specs.Half.{row_start}
use Rattle.dbm_core.proofs.kept.update_kept.Given as goal

abbrev pub invariant-loop-j : goal.invariant-loop-j
invariant-loop-j g l = record {
  place : l.at ≡ row_start l.i + l.j;
  size : length l.entries ≡ length l.fn.entries;
  rest : AgreeFrom l.at l.fn.entries l.entries;
  rows : RowsHold (λ i j x. goal.F-post g l.value i j (get_or l.fn.entries (row_start i + j) None) x) l.entries l.i;
  cells : CellsHold (λ i j x. goal.F-post g l.value i j (get_or l.fn.entries (row_start i + j) None) x) l.entries l.i l.j;
}

abbrev pub invariant-loop-i : goal.invariant-loop-i
invariant-loop-i g l = record {
  place : l.at ≡ row_start l.i;
  size : length l.entries ≡ length l.fn.entries;
  rest : AgreeFrom l.at l.fn.entries l.entries;
  rows : RowsHold (λ i j x. goal.F-post g l.value i j (get_or l.fn.entries (row_start i + j) None) x) l.entries l.i;
}
