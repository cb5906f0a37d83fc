use Rattle.std.proofs.Common.{◌≡◌, ◌+◌, length}
use Rattle.dbm_core.proofs.HalfLemmas.{CellsHold, RowsHold}
use Rattle.dbm_core.specs.Half.{row_start}
use Rattle.dbm_core.proofs.matrix.Matrix.from_fn.Given as goal

abbrev pub invariant-loop-j : goal.invariant-loop-j
invariant-loop-j g l = record {
  size : length l.entries.items ≡ row_start l.i + l.j;
  rows : RowsHold (λ i j x. goal.F-post g l.value i j x) l.entries.items l.i;
  cells : CellsHold (λ i j x. goal.F-post g l.value i j x) l.entries.items l.i l.j;
}

abbrev pub invariant-loop-i : goal.invariant-loop-i
invariant-loop-i g l = record {
  size : length l.entries.items ≡ row_start l.i;
  rows : RowsHold (λ i j x. goal.F-post g l.value i j x) l.entries.items l.i;
}
