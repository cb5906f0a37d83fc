use Rattle.std.specs.Prelude.{◌≡◌, IfOk}
use Rattle.std.proofs.Common.{ap, subst, sym, ◌∙◌}
use Rattle.dbm_core.specs.Half.{HalfMatrix}
use Rattle.dom_octagon_states.specs.Held.{matrix_held}
use Rattle.dom_octagon_states.specs.Tasks.{CanDo, Does}
use Rattle.dom_octagon_states.proofs.closing.close.Goals as goal

pub close_small-requires : goal.close_small-requires
close_small-requires c =
    let e : c.as_ref.result.now ≡ c.args.m.now = c.as_ref.ensures ∙ sym (ap matrix_held c.in-Small.is) ∙ c.m.view_is in
    record { can = subst (λ (m : HalfMatrix). CanDo m c.args.task) (sym e) c.requires.can }

pub returns-in-Small : goal.returns-in-Small
returns-in-Small c =
    let e : c.as_ref.result.now ≡ c.args.m.now = c.as_ref.ensures ∙ sym (ap matrix_held c.in-Small.is) ∙ c.m.view_is in
    record { does = subst (λ (m : HalfMatrix). IfOk c.close_small.result (Does m c.args.task)) e c.close_small.ensures.does }

pub close_large-requires : goal.close_large-requires
close_large-requires c =
    let e : c.as_ref-in-Large.result.now ≡ c.args.m.now = c.as_ref-in-Large.ensures ∙ sym (ap matrix_held c.in-Large.is) ∙ c.m.view_is in
    record { can = subst (λ (m : HalfMatrix). CanDo m c.args.task) (sym e) c.requires.can }

pub returns-in-Large : goal.returns-in-Large
returns-in-Large c =
    let e : c.as_ref-in-Large.result.now ≡ c.args.m.now = c.as_ref-in-Large.ensures ∙ sym (ap matrix_held c.in-Large.is) ∙ c.m.view_is in
    record { does = subst (λ (m : HalfMatrix). IfOk c.close_large.result (Does m c.args.task)) e c.close_large.ensures.does }
