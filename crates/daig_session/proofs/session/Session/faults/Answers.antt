use Rattle.std.proofs.Common.{suc, ◌+◌, ◌*◌, ◌≤◌, length, sym, ap, subst}
use Rattle.std.specs.Prelude.{OnOk}
use Rattle.daig_query.specs.Filled.{cells_added}
use Rattle.daig_query.specs.Swept.{most_held, IsWithin}
use Rattle.daig_query.proofs.Sweeps.{right-in-tables, swept-bounded}
use Rattle.daig_machine.specs.Turns.{missing_for_faults}
use Rattle.daig_session.specs.Books.{flow_in}
use Rattle.daig_session.specs.Holds.{Holds}
use Rattle.daig_session.specs.Faults.{fault_chains, AnswersFaults}
use Rattle.daig_session.proofs.Swept.{behind-holds, behind-ready, swept-added}
use Rattle.daig_session.proofs.session.Session.faults.Goals as goal

pub sweep-requires : goal.sweep-requires
sweep-requires g c =
    let s = c.self.inside.parts in
    record { held = right-in-tables (g.D.Domain.operations s.engine.domain) (flow_in s.book) s.engine.store c.self.invariant.right }

pub invariant_of-self : goal.invariant_of-self
invariant_of-self g c =
    let s = c.self.inside.parts in
    let ops = g.D.Domain.operations in
    let mid = c.sweep.new.self in
    behind-ready (ops s.engine.domain) (ops mid.domain) (ap ops c.sweep.ensures.domain) s.engine.store mid.store c.sweep.ensures.swept s.book c.sweep.ensures.right c.self.invariant

pub returns-clause-bounded : goal.returns-clause-bounded
returns-clause-bounded g c =
    let mid = c.sweep.new.self in
    c.faults_now.ensures.stays_bounded (swept-bounded mid.spare mid.store (subst (λ n. IsWithin (most_held n mid.store) mid.store) (sym c.sweep.ensures.spare) c.sweep.ensures.bounded))

pub returns-clause-reports : goal.returns-clause-reports
returns-clause-reports g c = rw (← c.self.view_is) (λ m h.
    let s = c.self.inside.parts in
    let ops = g.D.Domain.operations in
    let mid = c.sweep.new.self in
    let stood = behind-holds (ops s.engine.domain) (ops mid.domain) (ap ops c.sweep.ensures.domain) s.engine.store mid.store c.sweep.ensures.swept s.book in
    let new = c.faults_now.new.self in
    subst (λ d. AnswersFaults (ops d) m (Holds (ops new.engine.domain) new.engine.store new.book) c.faults_now.result) c.sweep.ensures.domain
    (c.faults_now.ensures.reports m (stood m h)))

pub returns-clause-ticked : goal.returns-clause-ticked
returns-clause-ticked g c = rw (← c.self.view_is) (λ m h.
    let s = c.self.inside.parts in
    let ops = g.D.Domain.operations in
    let mid = c.sweep.new.self in
    let stood = behind-holds (ops s.engine.domain) (ops mid.domain) (ap ops c.sweep.ensures.domain) s.engine.store mid.store c.sweep.ensures.swept s.book in
    subst (λ d. OnOk c.faults_now.result (c.faults_now.new.steps ≤ c.args.steps.now + g.D.Domain.counted d * (length (missing_for_faults (ops d) m) + 2 * fault_chains m))) c.sweep.ensures.domain
    (c.faults_now.ensures.ticked m (stood m h)))

pub returns-clause-ticked_filled : goal.returns-clause-ticked_filled
returns-clause-ticked_filled g c = rw (← c.self.view_is) (λ m h.
    let s = c.self.inside.parts in
    let ops = g.D.Domain.operations in
    let mid = c.sweep.new.self in
    let stood = behind-holds (ops s.engine.domain) (ops mid.domain) (ap ops c.sweep.ensures.domain) s.engine.store mid.store c.sweep.ensures.swept s.book in
    let new = c.faults_now.new.self.engine.store in
    let old = c.self.inside.parts.engine.store in
    let same = swept-added old c.sweep.new.self.store new c.sweep.ensures.swept in
    subst (λ d. c.faults_now.new.steps ≤ c.args.steps.now + g.D.Domain.counted d * suc (cells_added old new + 2 * fault_chains m)) c.sweep.ensures.domain
    (subst (λ n. c.faults_now.new.steps ≤ c.args.steps.now + g.D.Domain.counted c.sweep.new.self.domain * suc (n + 2 * fault_chains m)) same (c.faults_now.ensures.ticked_filled m (stood m h))))
