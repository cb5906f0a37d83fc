use Rattle.std.specs.Prelude.{◌≡◌}
use Rattle.std.proofs.Common.{◌∙◌, ap, sym, subst}
use Rattle.dbm_core.specs.Tables.{matrix_of}
use Rattle.dom_octagon_meaning.specs.Operations.{entered, meet_sources}
use Rattle.dom_octagon.proofs.Entering.{enter_obeys}
use Rattle.dom_octagon_states.specs.Limits.{ObeysTriangles}
use Rattle.dom_octagon.proofs.calls.close_entered.Goals as goal

pub close_kept-requires-clause-keeps : goal.close_kept-requires-clause-keeps
close_kept-requires-clause-keeps c = λ w.
    let e : c.in_ok-callee-2.callee ≡ meet_sources (matrix_of c.args.kinds.now (entered c.args.m.now c.args.sources.now)) 0 c.args.sources.now =
    c.in_ok-callee-2.ensures.same ∙ c.meet_sources.ensures.value ∙ ap (λ n. meet_sources n 0 c.args.sources.now) c.in_ok-callee.ensures.value in
    subst ObeysTriangles (sym e) (enter_obeys c.args.m.now c.args.kinds.now c.args.sources.now c.requires.tight.closed w c.requires.few c.ordered.ensures.ordered)
