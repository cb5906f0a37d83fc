use Rattle.std.proofs.Common.{arith, ◌≡◌, ◌*◌, ◌∙◌, ap, subst, length, ◌∷◌, [], length-append}
use Rattle.dbm_core.proofs.HalfLemmas.{CellsHold-push, IsMatrix-from_rows, RowsHold, RowsHold-push, entry-holds}
use Rattle.dbm_core.specs.Half.{HalfMatrix, row_start}
use Rattle.dbm_core.proofs.matrix.Matrix.from_fn.Goals as goal

pub loop-j-preserved : goal.loop-j-preserved
loop-j-preserved g c = rw c.in_ok-push.ensures.items (record {
  size = omega (arith, c.loop-j.invariant.size, length-append c.loop-j.entries.items (c.value.result ∷ []));
  rows = RowsHold-push (λ i j x. goal.F-post g c.args.value i j x) c.loop-j.entries.items c.loop-i.i c.loop-j.j c.value.result c.loop-j.invariant.size c.loop-j.invariant.rows;
  cells = CellsHold-push (λ i j x. goal.F-post g c.args.value i j x) c.loop-j.entries.items c.loop-i.i c.loop-j.j c.value.result c.loop-j.invariant.size c.loop-j.invariant.cells c.value.ensures;
})

pub invariant_of-result : goal.invariant_of-result
invariant_of-result g c =
    let m : HalfMatrix = record { kinds = c.in_ok-own.own.items; kept = c.loop-i.entries.items } in
    let e : c.in_ok-own.own.items ≡ c.args.kinds.now = c.in_ok-own.ensures.items in
    let n : length c.in_ok-own.own.items ≡ length c.args.kinds.now = ap length e in
    let k : c.loop-i.i ≡ 2 * length c.in_ok-own.own.items = omega arith in
    IsMatrix-from_rows (λ i j x. goal.F-post g c.args.value i j x) m (omega arith)
    (c.loop-i.invariant.size ∙ ap row_start k)
    (subst (λ r. RowsHold (λ i j x. goal.F-post g c.args.value i j x) c.loop-i.entries.items r) k c.loop-i.invariant.rows)
    (λ h a b l p q. c.requires.diagonal h a b (omega arith) p q)

pub returns-clause-kept : goal.returns-clause-kept
returns-clause-kept g c = λ i j l w.
    let m : HalfMatrix = record { kinds = c.in_ok-own.own.items; kept = c.loop-i.entries.items } in
    entry-holds (λ i j x. goal.F-post g c.args.value i j x) m c.loop-i.i c.loop-i.invariant.rows i j (omega arith) w

pub returns-clause-matrix : goal.returns-clause-matrix
returns-clause-matrix g c =
    let m : HalfMatrix = record { kinds = c.in_ok-own.own.items; kept = c.loop-i.entries.items } in
    let e : c.in_ok-own.own.items ≡ c.args.kinds.now = c.in_ok-own.ensures.items in
    let n : length c.in_ok-own.own.items ≡ length c.args.kinds.now = ap length e in
    let k : c.loop-i.i ≡ 2 * length c.in_ok-own.own.items = omega arith in
    IsMatrix-from_rows (λ i j x. goal.F-post g c.args.value i j x) m (omega arith)
    (c.loop-i.invariant.size ∙ ap row_start k)
    (subst (λ r. RowsHold (λ i j x. goal.F-post g c.args.value i j x) c.loop-i.entries.items r) k c.loop-i.invariant.rows)
    (λ h a b l p q. c.requires.diagonal h a b (omega arith) p q)
