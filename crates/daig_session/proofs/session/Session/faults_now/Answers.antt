use Rattle.std.proofs.Common.{◌≡◌, ◌-◌, ◌++◌, List, sym, subst}
use Rattle.imp_syntax.specs.Plain.{Procedure}
use Rattle.imp_check.specs.Slots.{routines_of}
use Rattle.fault_verdicts.specs.Statements.{fault_places}
use Rattle.fault_verdicts.specs.Theorem.{IsReportSound}
use Rattle.daig_machine.specs.Machine.{keeping}
use Rattle.daig_machine.specs.Turns.{IsBetween, missing_for_faults, after_faults}
use Rattle.daig_session.specs.Books.{machine_of}
use Rattle.daig_session.specs.Holds.{Holds}
use Rattle.daig_session.proofs.Filled.{ready_costing}
use Rattle.daig_session.proofs.Standing.{names, stands}
use Rattle.daig_session.proofs.Reporting.{as_filled, ended_holds, failed_holds, same_ticket}
use Rattle.daig_session.proofs.session.Session.faults_now.Goals as goal

pub overflow_sub-self : goal.overflow_sub-self
overflow_sub-self g c =
    let s = c.args.self.now in
    let ops = g.D.Domain.operations in
    let dom = ops s.engine.domain in
    let new = c.all_faults.new.self in
    let here = machine_of s.book (names dom s.engine.store s.book c.ready.ensures.ready) in
    let stood = stands dom s.engine.store s.book c.ready.ensures.ready in
    let xs = missing_for_faults dom here in
    let then = keeping (here.kept ++ xs) new.book.cost here in
    let all = c.in-Ok.ensures.keeps_all here stood in
    let count = as_filled dom here new.engine.store new.book xs c.kept_count-kept.result c.kept_count.result (c.kept_count-kept.ensures.is here stood) (c.kept_count.ensures.is then (subst (λ d. Holds (ops d) new.engine.store new.book then) (sym c.all_faults.ensures.setup.0) all)) in
    count.0

pub invariant_of-self : goal.invariant_of-self
invariant_of-self g c =
    let s = c.self.inside.parts in
    ready_costing (g.D.Domain.operations s.engine.domain) s.engine.store s.book _ c.self.invariant

pub returns-in-Ok-clause-next_ticket : goal.returns-in-Ok-clause-next_ticket
returns-in-Ok-clause-next_ticket g c =
    let s = c.args.self.now in
    let ops = g.D.Domain.operations in
    let dom = ops s.engine.domain in
    let new = c.all_faults.new.self in
    subst (λ p. p.book.tickets.next ≡ s.book.tickets.next) (sym c.self.view_is) (same_ticket dom s.engine.store new.engine.store s.book new.book (λ (ps : List Procedure). fault_places (routines_of ps)) c.ready.ensures.ready c.all_faults.ensures.keeps_part)

pub returns-in-Err-clause-next_ticket : goal.returns-in-Err-clause-next_ticket
returns-in-Err-clause-next_ticket g c =
    let s = c.args.self.now in
    let ops = g.D.Domain.operations in
    let dom = ops s.engine.domain in
    let new = c.all_faults.new.self in
    subst (λ p. p.book.tickets.next ≡ s.book.tickets.next) (sym c.self.view_is) (same_ticket dom s.engine.store new.engine.store s.book new.book (λ (ps : List Procedure). fault_places (routines_of ps)) c.ready.ensures.ready c.all_faults.ensures.keeps_part)

pub returns-in-Ok-clause-reports : goal.returns-in-Ok-clause-reports
returns-in-Ok-clause-reports g c = λ m h.
    let s = c.args.self.now in
    let ops = g.D.Domain.operations in
    let dom = ops s.engine.domain in
    let new = c.all_faults.new.self in
    let xs = missing_for_faults dom m in
    let then = keeping (m.kept ++ xs) new.book.cost m in
    let all = c.in-Ok.ensures.keeps_all m h in
    let count = as_filled dom m new.engine.store new.book xs c.kept_count-kept.result c.kept_count.result (c.kept_count-kept.ensures.is m h) (c.kept_count.ensures.is then (subst (λ d. Holds (ops d) new.engine.store new.book then) (sym c.all_faults.ensures.setup.0) all)) in
    let cost = c.kept_count.result - c.kept_count-kept.result in (
      c.in-Ok.ensures.found m h,
      subst (λ p. Holds (ops p.engine.domain) p.engine.store (record p.book { cost = cost }) (after_faults dom m)) (sym c.self.view_is)
          (subst (λ d. Holds (ops d) new.engine.store (record new.book { cost = cost }) (after_faults dom m)) (sym c.all_faults.ensures.setup.0) (ended_holds dom m new.engine.store new.book cost xs all count.1)),
    )

pub returns-in-Ok-clause-sound : goal.returns-in-Ok-clause-sound
returns-in-Ok-clause-sound g c =
    let s = c.args.self.now in
    let dom = g.D.Domain.operations s.engine.domain in
    let here = machine_of s.book (names dom s.engine.store s.book c.ready.ensures.ready) in
    let stood = stands dom s.engine.store s.book c.ready.ensures.ready in
    subst (IsReportSound (routines_of s.book.history.now)) (sym (c.in-Ok.ensures.found here stood)) (c.faults_are_sound.ensures.sound s.engine.domain s.book.setting.engine (routines_of s.book.history.now) c.ready.ensures.ready.order.fine.fit)

pub returns-in-Ok-clause-ticked : goal.returns-in-Ok-clause-ticked
returns-in-Ok-clause-ticked g c = λ m h. c.in-Ok.ensures.ticked m h

pub returns-in-Err-clause-reports : goal.returns-in-Err-clause-reports
returns-in-Err-clause-reports g c = λ m h.
    let s = c.args.self.now in
    let ops = g.D.Domain.operations in
    let dom = ops s.engine.domain in
    let new = c.all_faults.new.self in
    let cost = c.cost-cost.result in
    subst (λ p. IsBetween (missing_for_faults dom m) m (Holds (ops p.engine.domain) p.engine.store (record p.book { cost = cost }))) (sym c.self.view_is)
    (subst (λ d. IsBetween (missing_for_faults dom m) m (Holds (ops d) new.engine.store (record new.book { cost = cost }))) (sym c.all_faults.ensures.setup.0) (
    failed_holds dom m new.engine.store new.book cost (fault_places (routines_of m.program)) (c.all_faults.ensures.keeps_part m h) (c.cost-cost.ensures.is m h)))
