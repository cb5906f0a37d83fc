use Rattle.std.proofs.Common.{List, map, sym, subst}
use Rattle.imp_flow.specs.Plans.{Plan}
use Rattle.imp_flow.specs.Reached.{target_of}
use Rattle.imp_flow.specs.declared.steps.Target.{Target}
use Rattle.daig_query.specs.Right.{IsRight}
use Rattle.daig_query.specs.Walked.{AreTargets, IsGood}
use Rattle.daig_query.proofs.Sweeps.{fills-few}
use Rattle.daig_session.proofs.Filled.{asks_targets}
use Rattle.daig_session.proofs.stepping.fill_some.Goals as goal

pub advance-requires-clause-right : goal.advance-requires-clause-right
advance-requires-clause-right g c =
    subst (λ (p : Plan). IsRight (g.D.Domain.operations c.args.engine.now.domain) p c.args.engine.now.store) (sym c.flow-flow.ensures.is) c.requires.ready.right

pub advance-requires-clause-targets : goal.advance-requires-clause-targets
advance-requires-clause-targets g c =
    let dom = g.D.Domain.operations c.args.engine.now.domain in
    let store = c.args.engine.now.store in
    let a = c.requires.going.2.asked in
    subst (λ (xs : List Target). AreTargets c.flow-flow.result (map target_of xs)) (sym c.as_slice.ensures.same) (
    subst (λ (p : Plan). AreTargets p (map target_of c.args.going.now.targets)) (sym c.flow-flow.ensures.is) (asks_targets dom c.args.book.now store store c.requires.going.0 c.requires.going.1 (map target_of c.args.going.now.targets) a))

pub advance-requires-clause-walk : goal.advance-requires-clause-walk
advance-requires-clause-walk g c =
    let dom = g.D.Domain.operations c.args.engine.now.domain in
    let store = c.args.engine.now.store in
    subst (λ (xs : List Target). IsGood dom c.flow-flow.result (map target_of xs) store c.args.going.now.walk) (sym c.as_slice.ensures.same) (
    subst (λ (p : Plan). IsGood dom p (map target_of c.args.going.now.targets) store c.args.going.now.walk) (sym c.flow-flow.ensures.is) c.requires.going.2.good)

pub returns-clause-adds_few : goal.returns-clause-adds_few
returns-clause-adds_few g c = fills-few _ _ _ _ _ c.advance.ensures.fills
