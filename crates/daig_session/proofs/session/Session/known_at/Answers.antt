use Rattle.std.proofs.Common.{◌+◌, ◌*◌, ◌≤◌, suc, [], ◌∷◌, Err, subst, arith}
use Rattle.daig_machine.specs.Turns.{after_question}
use Rattle.daig_query.specs.Filled.{cells_added}
use Rattle.daig_session.specs.declared.error.QueryError.{QueryError}
use Rattle.daig_session.specs.Holds.{Holds}
use Rattle.daig_session.specs.Places.{IsUnticked}
use Rattle.daig_session.specs.Turns.{Questions}
use Rattle.daig_session.proofs.Placed.{one_answered, one_asked, one_chains, one_refused, one_work}
use Rattle.daig_session.proofs.Reporting.{checked_here, same_program}
use Rattle.daig_session.proofs.session.Session.known_at.Goals as goal

pub returns-in-Ok-clause-program : goal.returns-in-Ok-clause-program
returns-in-Ok-clause-program g c =
    let s = c.args.self.now in
    let ops = g.D.Domain.operations in
    let dom = ops s.engine.domain in
    let new = c.query.new.self in
    let l = c.args.at.now in
    same_program dom s.engine.store new.engine.store s.book new.book (λ _. l ∷ []) c.ready.ensures.ready (λ m h. (
    one_asked dom m l new.engine.store new.book (checked_here dom s.engine.store s.book m h c.ready.ensures.ready.order.fine.fit) c.query.result (
    subst (λ d. Questions dom m (Holds (ops d) new.engine.store new.book) l [] c.query.result) c.query.ensures.setup.0 (c.query.ensures.answers m h))))

pub returns-in-Ok-clause-keeps_part : goal.returns-in-Ok-clause-keeps_part
returns-in-Ok-clause-keeps_part g c = λ m h.
    let s = c.args.self.now in
    let ops = g.D.Domain.operations in
    let dom = ops s.engine.domain in
    let new = c.query.new.self in
    let l = c.args.at.now in
    one_asked dom m l new.engine.store new.book (checked_here dom s.engine.store s.book m h c.ready.ensures.ready.order.fine.fit) c.query.result (
    subst (λ d. Questions dom m (Holds (ops d) new.engine.store new.book) l [] c.query.result) c.query.ensures.setup.0 (c.query.ensures.answers m h))

pub returns-in-Err-Refused-clause-program : goal.returns-in-Err-Refused-clause-program
returns-in-Err-Refused-clause-program g c =
    let s = c.args.self.now in
    let ops = g.D.Domain.operations in
    let dom = ops s.engine.domain in
    let new = c.query.new.self in
    let l = c.args.at.now in
    same_program dom s.engine.store new.engine.store s.book new.book (λ _. l ∷ []) c.ready.ensures.ready (λ m h. (
    one_asked dom m l new.engine.store new.book (checked_here dom s.engine.store s.book m h c.ready.ensures.ready.order.fine.fit) c.query.result (
    subst (λ d. Questions dom m (Holds (ops d) new.engine.store new.book) l [] c.query.result) c.query.ensures.setup.0 (c.query.ensures.answers m h))))

pub returns-in-Err-Refused-clause-keeps_part : goal.returns-in-Err-Refused-clause-keeps_part
returns-in-Err-Refused-clause-keeps_part g c = λ m h.
    let s = c.args.self.now in
    let ops = g.D.Domain.operations in
    let dom = ops s.engine.domain in
    let new = c.query.new.self in
    let l = c.args.at.now in
    one_asked dom m l new.engine.store new.book (checked_here dom s.engine.store s.book m h c.ready.ensures.ready.order.fine.fit) c.query.result (
    subst (λ d. Questions dom m (Holds (ops d) new.engine.store new.book) l [] c.query.result) c.query.ensures.setup.0 (c.query.ensures.answers m h))

pub returns-in-Err-Memory-clause-program : goal.returns-in-Err-Memory-clause-program
returns-in-Err-Memory-clause-program g c =
    let s = c.args.self.now in
    let ops = g.D.Domain.operations in
    let dom = ops s.engine.domain in
    let new = c.query.new.self in
    let l = c.args.at.now in
    same_program dom s.engine.store new.engine.store s.book new.book (λ _. l ∷ []) c.ready.ensures.ready (λ m h. (
    one_asked dom m l new.engine.store new.book (checked_here dom s.engine.store s.book m h c.ready.ensures.ready.order.fine.fit) c.query.result (
    subst (λ d. Questions dom m (Holds (ops d) new.engine.store new.book) l [] c.query.result) c.query.ensures.setup.0 (c.query.ensures.answers m h))))

pub returns-in-Err-Memory-clause-keeps_part : goal.returns-in-Err-Memory-clause-keeps_part
returns-in-Err-Memory-clause-keeps_part g c = λ m h.
    let s = c.args.self.now in
    let ops = g.D.Domain.operations in
    let dom = ops s.engine.domain in
    let new = c.query.new.self in
    let l = c.args.at.now in
    one_asked dom m l new.engine.store new.book (checked_here dom s.engine.store s.book m h c.ready.ensures.ready.order.fine.fit) c.query.result (
    subst (λ d. Questions dom m (Holds (ops d) new.engine.store new.book) l [] c.query.result) c.query.ensures.setup.0 (c.query.ensures.answers m h))

pub returns-in-Ok-clause-keeps_all : goal.returns-in-Ok-clause-keeps_all
returns-in-Ok-clause-keeps_all g c = λ m h.
    let s = c.args.self.now in
    let ops = g.D.Domain.operations in
    let dom = ops s.engine.domain in
    let new = c.query.new.self in
    let l = c.args.at.now in
    one_answered dom m l new.engine.store new.book (subst (λ d. Holds (ops d) new.engine.store new.book (after_question dom l [] m)) c.query.ensures.setup.0 (c.in-Ok.ensures.answers m h).1)

pub returns-in-Ok-clause-tells : goal.returns-in-Ok-clause-tells
returns-in-Ok-clause-tells g c = λ m h. (c.in-Ok.ensures.answers m h).0

pub returns-in-Ok-clause-ticked : goal.returns-in-Ok-clause-ticked
returns-in-Ok-clause-ticked g c = λ m h.
    let s = c.args.self.now in
    let dom = g.D.Domain.operations s.engine.domain in
    subst (λ w. c.query.new.steps ≤ c.args.steps.now + g.D.Domain.counted s.engine.domain * w) (one_work dom m c.args.at.now) (c.in-Ok.ensures.ticked m h)

pub returns-in-Err-Refused-clause-keeps_all : goal.returns-in-Err-Refused-clause-keeps_all
returns-in-Err-Refused-clause-keeps_all g c = λ m h.
    let s = c.args.self.now in
    let ops = g.D.Domain.operations in
    let dom = ops s.engine.domain in
    let new = c.query.new.self in
    let l = c.args.at.now in
    let q = subst (λ (r : QueryError). Questions dom m (Holds (ops new.engine.domain) new.engine.store new.book) l [] (Err r)) c.in-Err-Refused.field-0-is (c.in-Err-Refused.ensures.answers m h) in
    one_refused dom m l new.engine.store new.book c.in-Err-Refused.why (checked_here dom s.engine.store s.book m h c.ready.ensures.ready.order.fine.fit) q.0 (subst (λ d. Holds (ops d) new.engine.store new.book m) c.query.ensures.setup.0 q.1)

pub returns-in-Err-Refused-clause-tells : goal.returns-in-Err-Refused-clause-tells
returns-in-Err-Refused-clause-tells g c = λ m h.
    let s = c.args.self.now in
    let ops = g.D.Domain.operations in
    let dom = ops s.engine.domain in
    let new = c.query.new.self in
    let l = c.args.at.now in
    let q = subst (λ (r : QueryError). Questions dom m (Holds (ops new.engine.domain) new.engine.store new.book) l [] (Err r)) c.in-Err-Refused.field-0-is (c.in-Err-Refused.ensures.answers m h) in
    q.0

pub returns-in-Err-Refused-clause-ticked : goal.returns-in-Err-Refused-clause-ticked
returns-in-Err-Refused-clause-ticked g c = λ m h.
    let q = subst (λ (r : QueryError). IsUnticked c.args.steps.now c.query.new.steps r) c.in-Err-Refused.field-0-is c.in-Err-Refused.ensures.unticked_refusal in
    omega (arith, q)

pub returns-in-Ok-clause-ticked_filled : goal.returns-in-Ok-clause-ticked_filled
returns-in-Ok-clause-ticked_filled g c = λ m h.
    let s = c.args.self.now in
    subst (λ w. c.query.new.steps ≤ c.args.steps.now + g.D.Domain.counted s.engine.domain * suc (cells_added s.engine.store c.query.new.self.engine.store + 2 * w)) (one_chains (g.D.Domain.operations s.engine.domain) m c.args.at.now) (c.query.ensures.ticked_filled m h)

pub returns-in-Err-Refused-clause-ticked_filled : goal.returns-in-Err-Refused-clause-ticked_filled
returns-in-Err-Refused-clause-ticked_filled g c = λ m h.
    let s = c.args.self.now in
    subst (λ w. c.query.new.steps ≤ c.args.steps.now + g.D.Domain.counted s.engine.domain * suc (cells_added s.engine.store c.query.new.self.engine.store + 2 * w)) (one_chains (g.D.Domain.operations s.engine.domain) m c.args.at.now) (c.query.ensures.ticked_filled m h)

pub returns-in-Err-Memory-clause-ticked_filled : goal.returns-in-Err-Memory-clause-ticked_filled
returns-in-Err-Memory-clause-ticked_filled g c = λ m h.
    let s = c.args.self.now in
    subst (λ w. c.query.new.steps ≤ c.args.steps.now + g.D.Domain.counted s.engine.domain * suc (cells_added s.engine.store c.query.new.self.engine.store + 2 * w)) (one_chains (g.D.Domain.operations s.engine.domain) m c.args.at.now) (c.query.ensures.ticked_filled m h)
