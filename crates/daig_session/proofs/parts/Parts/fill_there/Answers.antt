use Rattle.std.proofs.Common.{[], ◌∷◌, map, refl, sym, subst}
use Rattle.std.specs.Prelude.{IfSome}
use Rattle.imp_flow.specs.Reached.{target_of}
use Rattle.daig_query.specs.Filled.{cells_added}
use Rattle.daig_session.specs.Books.{flow_in}
use Rattle.daig_session.specs.Going.{IsGoing}
use Rattle.daig_session.specs.Holds.{IsReady}
use Rattle.daig_session.specs.Tours.{RefusesNone}
use Rattle.daig_session.proofs.Filled.{fills_ready}
use Rattle.daig_session.proofs.Placing.{place_part, place_some, refused_full, refused_some}
use Rattle.daig_session.proofs.parts.Parts.fill_there.Goals as goal

pub returns-in_default-clause-fills : goal.returns-in_default-clause-fills
returns-in_default-clause-fills g c = λ m h.
    let s = c.args.self.now in
    let none = subst (RefusesNone g.D.Domain.operations s c.args.at.now) c.in_default.is c.in_ok-going.ensures.none in
    refused_some (g.D.Domain.operations s.engine.domain) s.book s.engine.store c.args.at.now c.requires.ready.right.checked none.0 none.1 m h c.args.most

pub returns-in_default-clause-full : goal.returns-in_default-clause-full
returns-in_default-clause-full g c = λ t.
    let s = c.args.self.now in
    let none = subst (RefusesNone g.D.Domain.operations s c.args.at.now) c.in_default.is c.in_ok-going.ensures.none in
    refused_full (g.D.Domain.operations s.engine.domain) s.book s.engine.store c.args.at.now c.requires.ready.right.checked none.0 none.1

pub returns-in_err-progress-clause-ready : goal.returns-in_err-progress-clause-ready
returns-in_err-progress-clause-ready g c =
    let s = c.args.self.now in
    let ops = g.D.Domain.operations in
    let dom = ops s.engine.domain in
    let new = c.fill_some.new.engine.store in
    subst (λ d. IsReady (ops d) new s.book) (sym c.fill_some.ensures.setup.0) (fills_ready dom s.book s.engine.store new (map target_of c.in-Some.going.targets) (cells_added s.engine.store new) c.requires.ready c.fill_some.ensures.fills)

pub returns-in_err-progress-clause-keeps_part : goal.returns-in_err-progress-clause-keeps_part
returns-in_err-progress-clause-keeps_part g c = λ m h.
    let s = c.args.self.now in
    let ops = g.D.Domain.operations in
    let dom = ops s.engine.domain in
    let new = c.fill_some.new.engine.store in
    let l = c.args.at.now in
    let come = subst (λ o. IfSome o (IsGoing dom (flow_in s.book) s.engine.store l [])) c.in-Some.is c.in_ok-going.ensures.going in
    (place_part dom s.book s.engine.store new l (map target_of c.in-Some.going.targets) c.requires.ready.right.checked come.asked c.fill_some.ensures.fills (c.questions_keep_cells.ensures.question s.engine.domain) m h)

pub returns-then-progress-clause-ready : goal.returns-then-progress-clause-ready
returns-then-progress-clause-ready g c =
    let s = c.args.self.now in
    let ops = g.D.Domain.operations in
    let dom = ops s.engine.domain in
    let new = c.fill_some.new.engine.store in
    subst (λ d. IsReady (ops d) new s.book) (sym c.fill_some.ensures.setup.0) (fills_ready dom s.book s.engine.store new (map target_of c.in-Some.going.targets) (cells_added s.engine.store new) c.requires.ready c.fill_some.ensures.fills)

pub returns-then-progress-clause-keeps_part : goal.returns-then-progress-clause-keeps_part
returns-then-progress-clause-keeps_part g c = λ m h.
    let s = c.args.self.now in
    let ops = g.D.Domain.operations in
    let dom = ops s.engine.domain in
    let new = c.fill_some.new.engine.store in
    let l = c.args.at.now in
    let come = subst (λ o. IfSome o (IsGoing dom (flow_in s.book) s.engine.store l [])) c.in-Some.is c.in_ok-going.ensures.going in
    (place_part dom s.book s.engine.store new l (map target_of c.in-Some.going.targets) c.requires.ready.right.checked come.asked c.fill_some.ensures.fills (c.questions_keep_cells.ensures.question s.engine.domain) m h)

pub returns-then-progress-clause-fills : goal.returns-then-progress-clause-fills
returns-then-progress-clause-fills g c = λ m h.
    let s = c.args.self.now in
    let ops = g.D.Domain.operations in
    let dom = ops s.engine.domain in
    let new = c.fill_some.new.engine.store in
    let l = c.args.at.now in
    let come = subst (λ o. IfSome o (IsGoing dom (flow_in s.book) s.engine.store l [])) c.in-Some.is c.in_ok-going.ensures.going in
    place_some dom s.book s.engine.store new l (map target_of c.in-Some.going.targets) c.requires.ready.right.checked come.asked c.fill_some.ensures.fills (c.questions_keep_cells.ensures.question s.engine.domain) m h c.args.most c.in_ok-progress.progress.filled c.in_ok-progress.progress.done c.in_ok-progress.ensures.counted c.in_ok-progress.ensures.first c.in_ok-progress.ensures.done

pub returns-clause-ready : goal.returns-clause-ready
returns-clause-ready g c =
    let s = c.args.self.now in
    let ops = g.D.Domain.operations in
    let dom = ops s.engine.domain in
    let new = c.fill_some.new.engine.store in
    subst (λ d. IsReady (ops d) new s.book) (sym c.fill_some.ensures.setup.0) (fills_ready dom s.book s.engine.store new (map target_of c.in-Some.going.targets) (cells_added s.engine.store new) c.requires.ready c.fill_some.ensures.fills)

pub returns-clause-next : goal.returns-clause-next
returns-clause-next g c =
    let s = c.args.self.now in
    let ops = g.D.Domain.operations in
    let new = c.fill_some.new.engine.store in
    let dom = ops s.engine.domain in
    let l = c.args.at.now in
    let come = subst (λ o. IfSome o (IsGoing dom (flow_in s.book) s.engine.store l [])) c.in-Some.is c.in_ok-going.ensures.going in
    subst (λ d. IsGoing (ops d) (flow_in s.book) new l [] c.fill_some.new.going) (sym c.fill_some.ensures.setup.0) (c.fill_some.ensures.going l [] come)

pub returns-clause-keeps_part : goal.returns-clause-keeps_part
returns-clause-keeps_part g c = λ m h.
    let s = c.args.self.now in
    let ops = g.D.Domain.operations in
    let dom = ops s.engine.domain in
    let new = c.fill_some.new.engine.store in
    let l = c.args.at.now in
    let come = subst (λ o. IfSome o (IsGoing dom (flow_in s.book) s.engine.store l [])) c.in-Some.is c.in_ok-going.ensures.going in
    (place_part dom s.book s.engine.store new l (map target_of c.in-Some.going.targets) c.requires.ready.right.checked come.asked c.fill_some.ensures.fills (c.questions_keep_cells.ensures.question s.engine.domain) m h)

pub returns-clause-fills : goal.returns-clause-fills
returns-clause-fills g c = λ m h.
    let s = c.args.self.now in
    let ops = g.D.Domain.operations in
    let dom = ops s.engine.domain in
    let new = c.fill_some.new.engine.store in
    let l = c.args.at.now in
    let come = subst (λ o. IfSome o (IsGoing dom (flow_in s.book) s.engine.store l [])) c.in-Some.is c.in_ok-going.ensures.going in
    place_some dom s.book s.engine.store new l (map target_of c.in-Some.going.targets) c.requires.ready.right.checked come.asked c.fill_some.ensures.fills (c.questions_keep_cells.ensures.question s.engine.domain) m h c.args.most c.in_ok-progress.progress.filled c.in_ok-progress.progress.done c.in_ok-progress.ensures.counted c.in_ok-progress.ensures.first c.in_ok-progress.ensures.done
