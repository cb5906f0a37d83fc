use Rattle.std.proofs.Common.{suc, ◌+◌, ◌*◌, ◌≤◌, ◌≡◌, sym, ap, subst}
use Rattle.std.specs.Prelude.{IfOk, IfSome, MatchOption}
use Rattle.daig_query.specs.Filled.{cells_added}
use Rattle.daig_query.specs.Swept.{most_held, IsWithin}
use Rattle.daig_query.proofs.Sweeps.{right-in-tables}
use Rattle.daig_machine.specs.Machine.{ticket_of}
use Rattle.daig_session.specs.Books.{flow_in}
use Rattle.daig_session.specs.Holds.{Holds}
use Rattle.daig_session.specs.Turns.{chains_read, work_of, IsStepOf, SoundDone}
use Rattle.daig_session.proofs.Swept.{behind-holds, behind-ready, swept-added}
use Rattle.daig_session.proofs.session.Session.step.Goals as goal

pub sweep-requires : goal.sweep-requires
sweep-requires g c =
    let s = c.self.inside.parts in
    record { held = right-in-tables (g.D.Domain.operations s.engine.domain) (flow_in s.book) s.engine.store c.self.invariant.right }

pub invariant_of-self : goal.invariant_of-self
invariant_of-self g c =
    let s = c.self.inside.parts in
    let ops = g.D.Domain.operations in
    let mid = c.sweep.new.self in
    behind-ready (ops s.engine.domain) (ops mid.domain) (ap ops c.sweep.ensures.domain) s.engine.store mid.store c.sweep.ensures.swept s.book c.sweep.ensures.right c.self.invariant

pub returns-clause-bounded : goal.returns-clause-bounded
returns-clause-bounded g c =
    let mid = c.sweep.new.self in
    c.step_now.ensures.bounded (subst (λ n. IsWithin (most_held n mid.store) mid.store) (sym c.sweep.ensures.spare) c.sweep.ensures.bounded)

pub returns-clause-steps : goal.returns-clause-steps
returns-clause-steps g c = rw (← c.self.view_is) (λ m h.
    let s = c.self.inside.parts in
    let ops = g.D.Domain.operations in
    let mid = c.sweep.new.self in
    let stood = behind-holds (ops s.engine.domain) (ops mid.domain) (ap ops c.sweep.ensures.domain) s.engine.store mid.store c.sweep.ensures.swept s.book in
    let new = c.step_now.new.self in
    subst (λ d. IsStepOf (ops d) m (Holds (ops new.engine.domain) new.engine.store new.book) c.args.most (ticket_of c.args.ticket m.tickets) c.step_now.result) c.sweep.ensures.domain
    (c.step_now.ensures.steps m (stood m h)))

pub returns-clause-sound : goal.returns-clause-sound
returns-clause-sound g c = rw (← c.self.view_is) (λ m h.
    let s = c.self.inside.parts in
    let ops = g.D.Domain.operations in
    let mid = c.sweep.new.self in
    let stood = behind-holds (ops s.engine.domain) (ops mid.domain) (ap ops c.sweep.ensures.domain) s.engine.store mid.store c.sweep.ensures.swept s.book in
    subst (λ d. IfOk c.step_now.result (λ turn. IfSome (ticket_of c.args.ticket m.tickets) (λ t. SoundDone (ops d) (g.D.Domain.covers d) m.engine m.program t.question turn))) c.sweep.ensures.domain
    (c.step_now.ensures.sound m (stood m h)))

pub returns-clause-ticked : goal.returns-clause-ticked
returns-clause-ticked g c = rw (← c.self.view_is) (λ m h.
    let s = c.self.inside.parts in
    let ops = g.D.Domain.operations in
    let mid = c.sweep.new.self in
    let stood = behind-holds (ops s.engine.domain) (ops mid.domain) (ap ops c.sweep.ensures.domain) s.engine.store mid.store c.sweep.ensures.swept s.book in
    subst (λ d. IfOk c.step_now.result (λ turn. IfSome (ticket_of c.args.ticket m.tickets) (λ t. c.step_now.new.steps ≤ c.args.steps.now + g.D.Domain.counted d * work_of (ops d) m t.question turn))) c.sweep.ensures.domain
    (c.step_now.ensures.ticked m (stood m h)))

pub returns-clause-ticked_filled : goal.returns-clause-ticked_filled
returns-clause-ticked_filled g c = rw (← c.self.view_is) (λ m h.
    let s = c.self.inside.parts in
    let ops = g.D.Domain.operations in
    let mid = c.sweep.new.self in
    let stood = behind-holds (ops s.engine.domain) (ops mid.domain) (ap ops c.sweep.ensures.domain) s.engine.store mid.store c.sweep.ensures.swept s.book in
    let new = c.step_now.new.self.engine.store in
    let old = c.self.inside.parts.engine.store in
    let same = swept-added old c.sweep.new.self.store new c.sweep.ensures.swept in
    subst (λ d. MatchOption (ticket_of c.args.ticket m.tickets) (c.step_now.new.steps ≡ c.args.steps.now) (λ t. c.step_now.new.steps ≤ c.args.steps.now + g.D.Domain.counted d * suc (cells_added old new + 2 * chains_read m t.question))) c.sweep.ensures.domain
    (subst (λ n. MatchOption (ticket_of c.args.ticket m.tickets) (c.step_now.new.steps ≡ c.args.steps.now) (λ t. c.step_now.new.steps ≤ c.args.steps.now + g.D.Domain.counted c.sweep.new.self.domain * suc (n + 2 * chains_read m t.question))) same
    (c.step_now.ensures.ticked_filled m (stood m h))))
