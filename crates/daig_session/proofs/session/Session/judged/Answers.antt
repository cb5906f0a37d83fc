use Rattle.std.proofs.Common.{◌≡◌, ◌≤◌, ◌+◌, ◌*◌, suc, length, refl, sym, ap, subst}
use Rattle.daig_machine.specs.Machine.{keeping}
use Rattle.daig_machine.specs.Turns.{missing_for_faults, missing_for_report}
use Rattle.daig_session.specs.declared.course.Kind.{Kind}
use Rattle.daig_session.specs.declared.stepping.StepResult.TheVariants as told
use Rattle.daig_session.specs.Books.{machine_of}
use Rattle.daig_session.specs.Faults.{fault_chains}
use Rattle.daig_session.specs.Holds.{Holds}
use Rattle.daig_session.specs.Reports.{checked_chains}
use Rattle.daig_session.specs.Sessions.{cells_filled}
use Rattle.daig_session.specs.Turns.{chains_along, IsJudged}
use Rattle.daig_session.proofs.Judging.{faults_full, none_added, none_filled, nothing_between, nothing_filled, report_full, whichever, work_one_more, work_unfilled}
use Rattle.daig_session.proofs.Standing.{names, stands}
use Rattle.daig_session.proofs.session.Session.judged.Goals as goal

pub returns-in_err-found-in-Checks-clause-no_cells : goal.returns-in_err-found-in-Checks-clause-no_cells
returns-in_err-found-in-Checks-clause-no_cells g c =
    let s = c.args.self.now in
    let ops = g.D.Domain.operations in
    let dom = ops s.engine.domain in
    let new = c.report_now-found.new.self in
    let r = c.ready.ensures.ready in
    let here = machine_of s.book (names dom s.engine.store s.book r) in
    let stood = stands dom s.engine.store s.book r in
    let none = report_full dom s.engine.store s.book c.args.kind r c.requires.full here stood c.in-Checks.is in
    none_added dom (ops new.engine.domain) s.engine.store new.engine.store s.book new.book here here r stood c.ready-in-Checks.ensures.ready (nothing_between (missing_for_report dom here) here (Holds (ops new.engine.domain) new.engine.store new.book) none (c.in_err-found-in-Checks.ensures.reports here stood)) refl

pub returns-in_err-found-in-Checks-clause-unjudged : goal.returns-in_err-found-in-Checks-clause-unjudged
returns-in_err-found-in-Checks-clause-unjudged g c = λ m h.
    let s = c.args.self.now in
    let ops = g.D.Domain.operations in
    let dom = ops s.engine.domain in
    let new = c.report_now-found.new.self in
    let r = c.ready.ensures.ready in
    let none = report_full dom s.engine.store s.book c.args.kind r c.requires.full m h c.in-Checks.is in
    whichever _ _ (nothing_between (missing_for_report dom m) m (Holds (ops new.engine.domain) new.engine.store new.book) none (c.in_err-found-in-Checks.ensures.reports m h))

pub returns-in_err-found-in-Checks-clause-ticked_filled : goal.returns-in_err-found-in-Checks-clause-ticked_filled
returns-in_err-found-in-Checks-clause-ticked_filled g c = λ m h.
    let s = c.args.self.now in
    let ops = g.D.Domain.operations in
    let dom = ops s.engine.domain in
    let new = c.report_now-found.new.self in
    let r = c.ready.ensures.ready in
    let here = machine_of s.book (names dom s.engine.store s.book r) in
    let stood = stands dom s.engine.store s.book r in
    let none = report_full dom s.engine.store s.book c.args.kind r c.requires.full here stood c.in-Checks.is in
    let none_new = none_filled s.engine.store new.engine.store (none_added dom (ops new.engine.domain) s.engine.store new.engine.store s.book new.book here here r stood c.ready-in-Checks.ensures.ready (nothing_between (missing_for_report dom here) here (Holds (ops new.engine.domain) new.engine.store new.book) none (c.in_err-found-in-Checks.ensures.reports here stood)) refl) in
    subst (λ (k : Kind). c.report_now-found.new.steps ≤ c.args.steps.now + g.D.Domain.counted s.engine.domain * suc (2 * chains_along m k)) (sym c.in-Checks.is) (
    work_one_more c.args.steps.now c.report_now-found.new.steps (g.D.Domain.counted s.engine.domain) (cells_filled s new) (2 * checked_chains m) none_new (c.report_now-found.ensures.ticked_filled m h))

pub returns-in_ok-found-in-Checks-clause-no_cells : goal.returns-in_ok-found-in-Checks-clause-no_cells
returns-in_ok-found-in-Checks-clause-no_cells g c =
    let s = c.args.self.now in
    let ops = g.D.Domain.operations in
    let dom = ops s.engine.domain in
    let new = c.report_now-found.new.self in
    let r = c.ready.ensures.ready in
    let here = machine_of s.book (names dom s.engine.store s.book r) in
    let stood = stands dom s.engine.store s.book r in
    let none = report_full dom s.engine.store s.book c.args.kind r c.requires.full here stood c.in-Checks.is in
    none_added dom (ops new.engine.domain) s.engine.store new.engine.store s.book new.book here (keeping here.kept 0 here) r stood c.ready-in-Checks.ensures.ready (nothing_filled (missing_for_report dom here) here (Holds (ops new.engine.domain) new.engine.store new.book) none (c.in_ok-found-in-Checks.ensures.reports here stood).1) refl

pub returns-in_ok-found-in-Checks-clause-judges : goal.returns-in_ok-found-in-Checks-clause-judges
returns-in_ok-found-in-Checks-clause-judges g c = λ m h.
    let s = c.args.self.now in
    let ops = g.D.Domain.operations in
    let dom = ops s.engine.domain in
    let new = c.report_now-found.new.self in
    let r = c.ready.ensures.ready in
    let none = report_full dom s.engine.store s.book c.args.kind r c.requires.full m h c.in-Checks.is in
    let all = c.in_ok-found-in-Checks.ensures.reports m h in
    (subst (λ (k : Kind). IsJudged dom m k (told.Report c.in_ok-found-in-Checks.field-0)) (sym c.in-Checks.is) all.0, nothing_filled (missing_for_report dom m) m (Holds (ops new.engine.domain) new.engine.store new.book) none all.1)

pub returns-in_ok-found-in-Checks-clause-ticked : goal.returns-in_ok-found-in-Checks-clause-ticked
returns-in_ok-found-in-Checks-clause-ticked g c = λ m h.
    let s = c.args.self.now in
    let ops = g.D.Domain.operations in
    let dom = ops s.engine.domain in
    let new = c.report_now-found.new.self in
    let r = c.ready.ensures.ready in
    let none = report_full dom s.engine.store s.book c.args.kind r c.requires.full m h c.in-Checks.is in
    subst (λ (k : Kind). c.report_now-found.new.steps ≤ c.args.steps.now + g.D.Domain.counted s.engine.domain * (2 * chains_along m k)) (sym c.in-Checks.is) (
    work_unfilled c.args.steps.now c.report_now-found.new.steps (g.D.Domain.counted s.engine.domain) (length (missing_for_report dom m)) (2 * checked_chains m) (ap length none) (c.in_ok-found-in-Checks.ensures.ticked m h))

pub returns-in_ok-found-in-Checks-clause-ticked_filled : goal.returns-in_ok-found-in-Checks-clause-ticked_filled
returns-in_ok-found-in-Checks-clause-ticked_filled g c = λ m h.
    let s = c.args.self.now in
    let ops = g.D.Domain.operations in
    let dom = ops s.engine.domain in
    let new = c.report_now-found.new.self in
    let r = c.ready.ensures.ready in
    let here = machine_of s.book (names dom s.engine.store s.book r) in
    let stood = stands dom s.engine.store s.book r in
    let none = report_full dom s.engine.store s.book c.args.kind r c.requires.full here stood c.in-Checks.is in
    let none_new = none_filled s.engine.store new.engine.store (none_added dom (ops new.engine.domain) s.engine.store new.engine.store s.book new.book here (keeping here.kept 0 here) r stood c.ready-in-Checks.ensures.ready (nothing_filled (missing_for_report dom here) here (Holds (ops new.engine.domain) new.engine.store new.book) none (c.in_ok-found-in-Checks.ensures.reports here stood).1) refl) in
    subst (λ (k : Kind). c.report_now-found.new.steps ≤ c.args.steps.now + g.D.Domain.counted s.engine.domain * suc (2 * chains_along m k)) (sym c.in-Checks.is) (
    work_one_more c.args.steps.now c.report_now-found.new.steps (g.D.Domain.counted s.engine.domain) (cells_filled s new) (2 * checked_chains m) none_new (c.report_now-found.ensures.ticked_filled m h))

pub returns-in_err-found-in-Faults-clause-no_cells : goal.returns-in_err-found-in-Faults-clause-no_cells
returns-in_err-found-in-Faults-clause-no_cells g c =
    let s = c.args.self.now in
    let ops = g.D.Domain.operations in
    let dom = ops s.engine.domain in
    let new = c.faults_now-found.new.self in
    let r = c.ready.ensures.ready in
    let here = machine_of s.book (names dom s.engine.store s.book r) in
    let stood = stands dom s.engine.store s.book r in
    let none = faults_full dom s.engine.store s.book c.args.kind r c.requires.full here stood c.in-Faults.is in
    none_added dom (ops new.engine.domain) s.engine.store new.engine.store s.book new.book here here r stood c.ready-in-Faults.ensures.ready (nothing_between (missing_for_faults dom here) here (Holds (ops new.engine.domain) new.engine.store new.book) none (c.in_err-found-in-Faults.ensures.reports here stood)) refl

pub returns-in_err-found-in-Faults-clause-unjudged : goal.returns-in_err-found-in-Faults-clause-unjudged
returns-in_err-found-in-Faults-clause-unjudged g c = λ m h.
    let s = c.args.self.now in
    let ops = g.D.Domain.operations in
    let dom = ops s.engine.domain in
    let new = c.faults_now-found.new.self in
    let r = c.ready.ensures.ready in
    let none = faults_full dom s.engine.store s.book c.args.kind r c.requires.full m h c.in-Faults.is in
    whichever _ _ (nothing_between (missing_for_faults dom m) m (Holds (ops new.engine.domain) new.engine.store new.book) none (c.in_err-found-in-Faults.ensures.reports m h))

pub returns-in_err-found-in-Faults-clause-ticked_filled : goal.returns-in_err-found-in-Faults-clause-ticked_filled
returns-in_err-found-in-Faults-clause-ticked_filled g c = λ m h.
    let s = c.args.self.now in
    let ops = g.D.Domain.operations in
    let dom = ops s.engine.domain in
    let new = c.faults_now-found.new.self in
    let r = c.ready.ensures.ready in
    let here = machine_of s.book (names dom s.engine.store s.book r) in
    let stood = stands dom s.engine.store s.book r in
    let none = faults_full dom s.engine.store s.book c.args.kind r c.requires.full here stood c.in-Faults.is in
    let none_new = none_filled s.engine.store new.engine.store (none_added dom (ops new.engine.domain) s.engine.store new.engine.store s.book new.book here here r stood c.ready-in-Faults.ensures.ready (nothing_between (missing_for_faults dom here) here (Holds (ops new.engine.domain) new.engine.store new.book) none (c.in_err-found-in-Faults.ensures.reports here stood)) refl) in
    subst (λ (k : Kind). c.faults_now-found.new.steps ≤ c.args.steps.now + g.D.Domain.counted s.engine.domain * suc (2 * chains_along m k)) (sym c.in-Faults.is) (
    work_one_more c.args.steps.now c.faults_now-found.new.steps (g.D.Domain.counted s.engine.domain) (cells_filled s new) (2 * fault_chains m) none_new (c.faults_now-found.ensures.ticked_filled m h))

pub returns-in_ok-found-in-Faults-clause-no_cells : goal.returns-in_ok-found-in-Faults-clause-no_cells
returns-in_ok-found-in-Faults-clause-no_cells g c =
    let s = c.args.self.now in
    let ops = g.D.Domain.operations in
    let dom = ops s.engine.domain in
    let new = c.faults_now-found.new.self in
    let r = c.ready.ensures.ready in
    let here = machine_of s.book (names dom s.engine.store s.book r) in
    let stood = stands dom s.engine.store s.book r in
    let none = faults_full dom s.engine.store s.book c.args.kind r c.requires.full here stood c.in-Faults.is in
    none_added dom (ops new.engine.domain) s.engine.store new.engine.store s.book new.book here (keeping here.kept 0 here) r stood c.ready-in-Faults.ensures.ready (nothing_filled (missing_for_faults dom here) here (Holds (ops new.engine.domain) new.engine.store new.book) none (c.in_ok-found-in-Faults.ensures.reports here stood).1) refl

pub returns-in_ok-found-in-Faults-clause-judges : goal.returns-in_ok-found-in-Faults-clause-judges
returns-in_ok-found-in-Faults-clause-judges g c = λ m h.
    let s = c.args.self.now in
    let ops = g.D.Domain.operations in
    let dom = ops s.engine.domain in
    let new = c.faults_now-found.new.self in
    let r = c.ready.ensures.ready in
    let none = faults_full dom s.engine.store s.book c.args.kind r c.requires.full m h c.in-Faults.is in
    let all = c.in_ok-found-in-Faults.ensures.reports m h in
    (subst (λ (k : Kind). IsJudged dom m k (told.Faults c.in_ok-found-in-Faults.field-0)) (sym c.in-Faults.is) all.0, nothing_filled (missing_for_faults dom m) m (Holds (ops new.engine.domain) new.engine.store new.book) none all.1)

pub returns-in_ok-found-in-Faults-clause-ticked : goal.returns-in_ok-found-in-Faults-clause-ticked
returns-in_ok-found-in-Faults-clause-ticked g c = λ m h.
    let s = c.args.self.now in
    let ops = g.D.Domain.operations in
    let dom = ops s.engine.domain in
    let new = c.faults_now-found.new.self in
    let r = c.ready.ensures.ready in
    let none = faults_full dom s.engine.store s.book c.args.kind r c.requires.full m h c.in-Faults.is in
    subst (λ (k : Kind). c.faults_now-found.new.steps ≤ c.args.steps.now + g.D.Domain.counted s.engine.domain * (2 * chains_along m k)) (sym c.in-Faults.is) (
    work_unfilled c.args.steps.now c.faults_now-found.new.steps (g.D.Domain.counted s.engine.domain) (length (missing_for_faults dom m)) (2 * fault_chains m) (ap length none) (c.in_ok-found-in-Faults.ensures.ticked m h))

pub returns-in_ok-found-in-Faults-clause-ticked_filled : goal.returns-in_ok-found-in-Faults-clause-ticked_filled
returns-in_ok-found-in-Faults-clause-ticked_filled g c = λ m h.
    let s = c.args.self.now in
    let ops = g.D.Domain.operations in
    let dom = ops s.engine.domain in
    let new = c.faults_now-found.new.self in
    let r = c.ready.ensures.ready in
    let here = machine_of s.book (names dom s.engine.store s.book r) in
    let stood = stands dom s.engine.store s.book r in
    let none = faults_full dom s.engine.store s.book c.args.kind r c.requires.full here stood c.in-Faults.is in
    let none_new = none_filled s.engine.store new.engine.store (none_added dom (ops new.engine.domain) s.engine.store new.engine.store s.book new.book here (keeping here.kept 0 here) r stood c.ready-in-Faults.ensures.ready (nothing_filled (missing_for_faults dom here) here (Holds (ops new.engine.domain) new.engine.store new.book) none (c.in_ok-found-in-Faults.ensures.reports here stood).1) refl) in
    subst (λ (k : Kind). c.faults_now-found.new.steps ≤ c.args.steps.now + g.D.Domain.counted s.engine.domain * suc (2 * chains_along m k)) (sym c.in-Faults.is) (
    work_one_more c.args.steps.now c.faults_now-found.new.steps (g.D.Domain.counted s.engine.domain) (cells_filled s new) (2 * fault_chains m) none_new (c.faults_now-found.ensures.ticked_filled m h))
