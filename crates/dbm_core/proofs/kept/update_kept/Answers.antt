use Rattle.std.proofs.Common.{add-one, arith, ◌≡◌, ◌<◌, ◌+◌, ◌∙◌, ap, subst, sym, length, slice_set, length-set, get_or, None}
use Rattle.dbm_core.proofs.HalfLemmas.{CellsHold, RowsHold, RowsHold-more, place-small, place-within, row_start-double}
use Rattle.dbm_core.proofs.UpdateLemmas.{AgreeFrom-set, CellsHold-set, RowsHold-set}
use Rattle.dbm_core.specs.Half.{row_start, row_width}
use Rattle.dbm_core.proofs.kept.update_kept.Goals as goal

pub offset_bounds-entries-at : goal.offset_bounds-entries-at
offset_bounds-entries-at g c = omega (arith, c.loop-j.invariant.place, place-small c.loop-i.i c.loop-j.j (omega arith) (omega arith))

pub slice_copy_out-bound : goal.slice_copy_out-bound
slice_copy_out-bound g c = omega (
  arith,
  c.loop-j.invariant.size,
  c.loop-j.invariant.place,
  c.requires.size,
  row_start-double c.args.slots,
  place-within c.args.slots c.loop-i.i c.loop-j.j (omega arith) (omega arith),
)

pub offset_bounds-entries-at-in-loop-j : goal.offset_bounds-entries-at-in-loop-j
offset_bounds-entries-at-in-loop-j g c = omega (arith, c.loop-j.invariant.place, place-small c.loop-i.i c.loop-j.j (omega arith) (omega arith))

pub bounds-entries-at : goal.bounds-entries-at
bounds-entries-at g c = omega (
  arith,
  c.loop-j.invariant.size,
  c.loop-j.invariant.place,
  c.requires.size,
  row_start-double c.args.slots,
  place-within c.args.slots c.loop-i.i c.loop-j.j (omega arith) (omega arith),
)

pub overflow_add-at : goal.overflow_add-at
overflow_add-at g c = omega (arith, c.loop-j.invariant.place, place-small c.loop-i.i c.loop-j.j (omega arith) (omega arith))

pub loop-j-preserved : goal.loop-j-preserved
loop-j-preserved g c =
    let place : c.loop-j.at ≡ row_start c.loop-i.i + c.loop-j.j = c.loop-j.invariant.place in
    let within : row_start c.loop-i.i + c.loop-j.j < length c.loop-j.entries =
    omega (arith, c.loop-j.invariant.size, c.requires.size, row_start-double c.args.slots, place-within c.args.slots c.loop-i.i c.loop-j.j (omega arith) (omega arith)) in
    record {
      place = omega (arith, place);
      size = length-set c.loop-j.entries c.loop-j.at c.value.result ∙ c.loop-j.invariant.size;
      rest = AgreeFrom-set c.loop-j.at c.args.entries.now c.loop-j.entries c.value.result c.loop-j.invariant.rest;
      rows = subst (λ p. RowsHold (λ i j x. goal.F-post g c.args.value i j (get_or c.args.entries.now (row_start i + j) None) x) (slice_set c.loop-j.entries p c.value.result) c.loop-i.i) (sym place)
          (RowsHold-set (λ i j x. goal.F-post g c.args.value i j (get_or c.args.entries.now (row_start i + j) None) x) c.loop-j.entries c.loop-i.i c.loop-j.j c.value.result c.loop-j.invariant.rows);
      cells = subst (λ p. CellsHold (λ i j x. goal.F-post g c.args.value i j (get_or c.args.entries.now (row_start i + j) None) x) (slice_set c.loop-j.entries p c.value.result) c.loop-i.i (c.loop-j.j + 1)) (sym place)
          (CellsHold-set (λ i j x. goal.F-post g c.args.value i j (get_or c.args.entries.now (row_start i + j) None) x) c.loop-j.entries c.loop-i.i c.loop-j.j c.value.result within c.loop-j.invariant.cells
          (subst (λ b. goal.F-post g c.args.value c.loop-i.i c.loop-j.j b c.value.result)
          (c.loop-j.invariant.rest c.loop-j.at (omega arith) ∙ ap (λ p. get_or c.args.entries.now p None) place) c.value.ensures));
    }

pub loop-i-preserved : goal.loop-i-preserved
loop-i-preserved g c =
    let k : c.loop-j.j ≡ row_width c.loop-i.i = omega arith in
    let next : row_start (c.loop-i.i + 1) ≡ row_start c.loop-i.i + row_width c.loop-i.i = ap row_start (add-one c.loop-i.i) in
    record {
      place = omega (arith, c.loop-j.invariant.place, k, next);
      size = c.loop-j.invariant.size;
      rest = c.loop-j.invariant.rest;
      rows = RowsHold-more (λ i j x. goal.F-post g c.args.value i j (get_or c.args.entries.now (row_start i + j) None) x) c.loop-j.entries c.loop-i.i c.loop-j.invariant.rows
          (subst (λ n. CellsHold (λ i j x. goal.F-post g c.args.value i j (get_or c.args.entries.now (row_start i + j) None) x) c.loop-j.entries c.loop-i.i n) k c.loop-j.invariant.cells);
    }
