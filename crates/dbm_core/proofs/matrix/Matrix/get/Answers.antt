use Rattle.std.proofs.Common.{arith, ◌≡◌, ◌+◌, ◌∙◌, ap, subst, length}
use Rattle.dbm_core.proofs.HalfLemmas.{entry-kept, entry-other, flip-kept, place-within}
use Rattle.dbm_core.proofs.NodeLemmas.{flip_below}
use Rattle.dbm_core.specs.Half.{HalfMatrix, IsMatrix, row_start}
use Rattle.dbm_core.specs.Nodes.{flip}
use Rattle.dbm_core.proofs.matrix.Matrix.get.Goals as goal

pub bounds-entries-place : goal.bounds-entries-place
bounds-entries-place c =
    let h : IsMatrix c.args.self.now = subst IsMatrix c.self.view_is c.self.invariant in
    let e : c.as_slice-entries.result.now ≡ c.args.self.now.kept = c.as_slice-entries.ensures.value ∙ ap (λ (m : HalfMatrix). m.kept) c.self.view_is in
    rw e (omega (arith, h.fits, place-within (length c.args.self.now.kinds) c.args.i c.args.j (omega arith) (omega arith)))

pub bounds-entries-place-else-j-width : goal.bounds-entries-place-else-j-width
bounds-entries-place-else-j-width c =
    let h : IsMatrix c.args.self.now = subst IsMatrix c.self.view_is c.self.invariant in
    let e : c.as_slice-entries.result.now ≡ c.args.self.now.kept = c.as_slice-entries.ensures.value ∙ ap (λ (m : HalfMatrix). m.kept) c.self.view_is in
    let p : row_start (flip c.args.j) + flip c.args.i ≡ c.place-else-j-width.result = cc in
    rw e (omega (arith, h.fits, p, place-within (length c.args.self.now.kinds) (flip c.args.j) (flip c.args.i) (flip_below c.args.j (length c.args.self.now.kinds) (omega arith)) (flip-kept c.args.i c.args.j (omega arith))))

pub returns-then-j-width : goal.returns-then-j-width
returns-then-j-width c =
    let e : c.as_slice-entries.result.now ≡ c.args.self.now.kept = c.as_slice-entries.ensures.value ∙ ap (λ (m : HalfMatrix). m.kept) c.self.view_is in
    record { bound = rw (entry-kept c.args.self.now c.args.i c.args.j (omega arith)) (cc) }

pub returns-else-j-width : goal.returns-else-j-width
returns-else-j-width c =
    let e : c.as_slice-entries.result.now ≡ c.args.self.now.kept = c.as_slice-entries.ensures.value ∙ ap (λ (m : HalfMatrix). m.kept) c.self.view_is in
    record { bound = rw (entry-other c.args.self.now c.args.i c.args.j (omega arith)) (cc) }
