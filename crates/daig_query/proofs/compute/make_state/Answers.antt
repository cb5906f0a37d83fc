use Rattle.std.proofs.Common.{refl, sym, ap₂, ◌∙◌}
use Rattle.daig_query.specs.Made.{row_result}
use Rattle.daig_query.proofs.Filling.{if_ok}
use Rattle.daig_query.proofs.Growing.{keeps_refl}
use Rattle.daig_query.proofs.Remembered.{once_by}
use Rattle.daig_query.proofs.compute.make_state.Goals as goal

pub returns-in_err-state-clause-kept : goal.returns-in_err-state-clause-kept
returns-in_err-state-clause-kept g c =
    keeps_refl c.args.states.now

pub returns-clause-is : goal.returns-clause-is
returns-clause-is g c =
    let same = (g.met.D.Domain.laws c.args.dom.now).same in
    let tests = g.met.D.Domain.tests_equality c.args.dom.now in
    let dom = g.D.Domain.operations c.args.dom.now in
    let made = sym c.in_ok-state.ensures.is ∙ ap₂ (row_result dom c.args.row.now) c.operand.ensures.is c.operand-2.ensures.is in
    if_ok c.intern.result (c.intern.ensures.same (λ x y h. (same x y).0 (tests x y ∙ h))) (λ n e. e ∙ made)

pub returns-clause-once : goal.returns-clause-once
returns-clause-once g c =
    let same = (g.met.D.Domain.laws c.args.dom.now).same in
    let tests = g.met.D.Domain.tests_equality c.args.dom.now in
    λ _. once_by g.D.State.PartialEq.eq c.intern.new.self (λ s. sym (tests s s) ∙ (same s s).1 refl) c.intern.ensures.once
