use Rattle.std.specs.Prelude.{◌≡◌, IfOk}
use Rattle.std.proofs.Common.{ap, sym, subst, ◌∙◌}
use Rattle.std.proofs.lemmas.Int.{to_z-of_z}
use mir.Syntax.{w128}
use Rattle.dbm_close.specs.CloseOf.{close_of}
use Rattle.dbm_core.specs.Half.{HalfMatrix, HasEntries, entry}
use Rattle.dbm_incremental.specs.Equations.{stood_entry}
use Rattle.dom_octagon_meaning.specs.Matrices.{carried}
use Rattle.dom_octagon.proofs.Stood.{stood_carried}
use Rattle.dom_octagon.proofs.Triangles.{carried_obeys}
use Rattle.dom_octagon_states.specs.Limits.{ObeysTriangles}
use Rattle.dom_octagon.proofs.assign.close_carried.Goals as goal

pub close_kept-requires-clause-keeps : goal.close_kept-requires-clause-keeps
close_kept-requires-clause-keeps c =
    let e : c.in_ok-set.set ≡ carried c.args.m.now c.args.x c.args.i c.args.c = c.in_ok-set.ensures.same ∙ (rw (to_z-of_z w128 c.args.c c.ranges.c) at c.in_ok-plain.ensures.value) in
    λ w. subst ObeysTriangles (sym e) (carried_obeys c.args.m.now c.args.x c.args.i c.args.c c.requires.tight.closed w)

pub returns-in-Some : goal.returns-in-Some
returns-in-Some c =
    let h : (n : HalfMatrix) × (HasEntries c.args.m.now.kinds (stood_entry (entry c.args.m.now) c.args.x c.args.i c.args.c) n × (c.in-Some.state ≡ close_of n)) = rw (to_z-of_z w128 c.args.c c.ranges.c, c.in-Some.is) at c.in_ok-state.ensures.stood in
    record { exact = h.1.1 ∙ ap close_of (stood_carried c.args.m.now h.0 c.args.x c.args.i c.args.c c.kinds-slots.ensures.matrix c.if-i-x.true h.1.0) }

pub returns : goal.returns
returns c =
    let e : c.in_ok-set.set ≡ carried c.args.m.now c.args.x c.args.i c.args.c = c.in_ok-set.ensures.same ∙ (rw (to_z-of_z w128 c.args.c c.ranges.c) at c.in_ok-plain.ensures.value) in
    record { exact = subst (λ (n : HalfMatrix). IfOk c.close_kept.result (λ s. s ≡ close_of n)) e c.close_kept.ensures.exact }
