use Rattle.std.proofs.Common.{arith, ◌≡◌, ◌<◌, ◌≤◌, ◌+◌, ◌∙◌, ap, subst, sym, length, slice_set, length-set, get_or, None}
use Rattle.dbm_core.proofs.HalfLemmas.{place-within, row_start-double}
use Rattle.dbm_core.proofs.SlotLemmas.{IsDone, IsDoneIn, IsRestIn, column-kept, done-set, first, here-set, rest-set}
use Rattle.dbm_core.specs.Half.{row_start, row_width}
use Rattle.dbm_core.proofs.kept.update_slot_kept.Goals as goal

pub slice_copy_out-bound : goal.slice_copy_out-bound
slice_copy_out-bound g c = omega (
  arith,
  c.loop-j.invariant.size,
  c.place-at.ensures.place,
  c.requires.size,
  row_start-double c.args.slots,
  place-within c.args.slots c.loop-i.i c.loop-j.j (omega arith) (column-kept c.args.slot c.loop-i.i c.loop-j.j (omega arith) (omega arith)),
)

pub bounds-entries-at : goal.bounds-entries-at
bounds-entries-at g c = omega (
  arith,
  c.loop-j.invariant.size,
  c.place-at.ensures.place,
  c.requires.size,
  row_start-double c.args.slots,
  place-within c.args.slots c.loop-i.i c.loop-j.j (omega arith) (column-kept c.args.slot c.loop-i.i c.loop-j.j (omega arith) (omega arith)),
)

pub loop-j-preserved : goal.loop-j-preserved
loop-j-preserved g c =
    let place : c.place-at.result ≡ row_start c.loop-i.i + c.loop-j.j = c.place-at.ensures.place in
    let w : c.loop-j.j < row_width c.loop-i.i = column-kept c.args.slot c.loop-i.i c.loop-j.j (omega arith) (omega arith) in
    let within : row_start c.loop-i.i + c.loop-j.j < length c.loop-j.entries =
    omega (arith, c.loop-j.invariant.size, c.requires.size, row_start-double c.args.slots, place-within c.args.slots c.loop-i.i c.loop-j.j (omega arith) w) in
    let f : first c.args.slot c.loop-i.i ≤ c.loop-j.j = omega (arith, c.first_column-j.ensures.first) in
    let old : get_or c.loop-j.entries c.place-at.result None ≡ get_or c.args.entries.now (row_start c.loop-i.i + c.loop-j.j) None =
    ap (λ p. get_or c.loop-j.entries p None) place
    ∙ c.loop-j.invariant.rest c.loop-i.i c.loop-j.j w (λ e. absurd (omega (arith, e.0))) (λ e. absurd (omega (arith, e.1.1))) in
    record {
      size = length-set c.loop-j.entries c.place-at.result c.value.result ∙ c.loop-j.invariant.size;
      done = subst (λ p. IsDone (λ i j x y. goal.F-post g c.args.value i j x y) c.args.slot c.loop-i.i c.args.entries.now (slice_set c.loop-j.entries p c.value.result)) (sym place)
          (done-set (λ i j x y. goal.F-post g c.args.value i j x y) c.args.slot c.loop-i.i c.loop-j.j c.args.entries.now c.loop-j.entries c.value.result w c.loop-j.invariant.done);
      here = subst (λ p. IsDoneIn (λ i j x y. goal.F-post g c.args.value i j x y) c.args.slot c.loop-i.i (c.loop-j.j + 1) c.args.entries.now (slice_set c.loop-j.entries p c.value.result)) (sym place)
          (here-set (λ i j x y. goal.F-post g c.args.value i j x y) c.args.slot c.loop-i.i c.loop-j.j c.args.entries.now c.loop-j.entries c.value.result w within c.loop-j.invariant.here
          (subst (λ b. goal.F-post g c.args.value c.loop-i.i c.loop-j.j b c.value.result) old c.value.ensures));
      rest = subst (λ p. IsRestIn c.args.slot c.loop-i.i (c.loop-j.j + 1) c.args.entries.now (slice_set c.loop-j.entries p c.value.result)) (sym place)
          (rest-set c.args.slot c.loop-i.i c.loop-j.j c.args.entries.now c.loop-j.entries c.value.result w f c.loop-j.invariant.rest);
    }
