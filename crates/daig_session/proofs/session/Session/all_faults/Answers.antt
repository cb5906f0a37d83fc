use Rattle.std.proofs.Common.{sym, ◌≤◌, suc, ◌+◌, ◌*◌, ◌++◌, List, map, ap, subst, ◌∙◌, arith}
use Rattle.imp_syntax.specs.Plain.{Procedure}
use Rattle.imp_check.specs.Slots.{routines_of}
use Rattle.fault_words.specs.declared.finding.FaultFinding.{FaultFinding}
use Rattle.fault_verdicts.specs.declared.statement.Evaluated.{Evaluated}
use Rattle.fault_verdicts.specs.Report.{findings_of}
use Rattle.fault_verdicts.specs.Statements.{evaluated_statements, fault_places, place_of, with_points}
use Rattle.fault_verdicts.proofs.Pointed.{pointed_faults}
use Rattle.daig_query.specs.Filled.{cells_added}
use Rattle.daig_session.specs.Places.{chain_count, work_on, HoldsAll, HoldsPart}
use Rattle.daig_session.proofs.Placed.{part_none}
use Rattle.daig_session.proofs.FaultLemmas.{pointed_here}
use Rattle.daig_session.proofs.session.Session.all_faults.Goals as goal

pub returns-in_err-xs-clause-keeps_part : goal.returns-in_err-xs-clause-keeps_part
returns-in_err-xs-clause-keeps_part g c = λ m h.
    let s = c.args.self.now in
    let ops = g.D.Domain.operations in
    let dom = ops s.engine.domain in
    part_none dom m s.engine.store s.book (fault_places (routines_of m.program)) h

pub returns-in_err-add_all_faults-clause-keeps_part : goal.returns-in_err-add_all_faults-clause-keeps_part
returns-in_err-add_all_faults-clause-keeps_part g c = λ m h.
    let s = c.args.self.now in
    let ops = g.D.Domain.operations in
    let dom = ops s.engine.domain in
    let new = c.add_all_faults.new.self in
    let same = pointed_here dom s.engine.store s.book m c.as_slice.result.now h (c.as_slice.ensures.same ∙ (c.in_ok-xs.ensures.are ∙ ap (λ (ps : List Procedure). with_points (evaluated_statements (routines_of ps))) (c.view.ensures.is ∙ (c.table.ensures.is ∙ ap (λ p. p.book.history.now) c.self.view_is)))) in
    subst (λ (xs : List Evaluated). HoldsPart dom m new.engine.store new.book (map place_of xs)) same (c.add_all_faults.ensures.keeps_part m h)

pub returns-clause-keeps_part : goal.returns-clause-keeps_part
returns-clause-keeps_part g c = λ m h.
    let s = c.args.self.now in
    let ops = g.D.Domain.operations in
    let dom = ops s.engine.domain in
    let new = c.add_all_faults.new.self in
    let same = pointed_here dom s.engine.store s.book m c.as_slice.result.now h (c.as_slice.ensures.same ∙ (c.in_ok-xs.ensures.are ∙ ap (λ (ps : List Procedure). with_points (evaluated_statements (routines_of ps))) (c.view.ensures.is ∙ (c.table.ensures.is ∙ ap (λ p. p.book.history.now) c.self.view_is)))) in
    subst (λ (xs : List Evaluated). HoldsPart dom m new.engine.store new.book (map place_of xs)) same (c.add_all_faults.ensures.keeps_part m h)

pub returns-clause-keeps_all : goal.returns-clause-keeps_all
returns-clause-keeps_all g c = λ m h.
    let s = c.args.self.now in
    let ops = g.D.Domain.operations in
    let dom = ops s.engine.domain in
    let new = c.add_all_faults.new.self in
    let same = pointed_here dom s.engine.store s.book m c.as_slice.result.now h (c.as_slice.ensures.same ∙ (c.in_ok-xs.ensures.are ∙ ap (λ (ps : List Procedure). with_points (evaluated_statements (routines_of ps))) (c.view.ensures.is ∙ (c.table.ensures.is ∙ ap (λ p. p.book.history.now) c.self.view_is)))) in
    subst (λ (xs : List Evaluated). HoldsAll dom m new.engine.store new.book (map place_of xs)) same (c.in_ok-add_all_faults.ensures.keeps_all m h)

pub returns-clause-found : goal.returns-clause-found
returns-clause-found g c = λ m h.
    let s = c.args.self.now in
    let ops = g.D.Domain.operations in
    let dom = ops s.engine.domain in
    let new = c.add_all_faults.new.self in
    let same = pointed_here dom s.engine.store s.book m c.as_slice.result.now h (c.as_slice.ensures.same ∙ (c.in_ok-xs.ensures.are ∙ ap (λ (ps : List Procedure). with_points (evaluated_statements (routines_of ps))) (c.view.ensures.is ∙ (c.table.ensures.is ∙ ap (λ p. p.book.history.now) c.self.view_is)))) in
    c.in_ok-add_all_faults.ensures.found m h ∙ (ap (λ (fs : List FaultFinding). fs ++ findings_of dom m.engine (routines_of m.program) c.as_slice.result.now) c.new-found.ensures.empty ∙ (ap (findings_of dom m.engine (routines_of m.program)) same ∙ pointed_faults dom m.engine (routines_of m.program)))

pub returns-clause-ticked : goal.returns-clause-ticked
returns-clause-ticked g c = λ m h.
    let s = c.args.self.now in
    let ops = g.D.Domain.operations in
    let dom = ops s.engine.domain in
    let new = c.add_all_faults.new.self in
    let same = pointed_here dom s.engine.store s.book m c.as_slice.result.now h (c.as_slice.ensures.same ∙ (c.in_ok-xs.ensures.are ∙ ap (λ (ps : List Procedure). with_points (evaluated_statements (routines_of ps))) (c.view.ensures.is ∙ (c.table.ensures.is ∙ ap (λ p. p.book.history.now) c.self.view_is)))) in
    subst (λ (xs : List Evaluated). c.add_all_faults.new.steps ≤ c.args.steps.now + g.D.Domain.counted s.engine.domain * work_on dom m (map place_of xs)) same (c.in_ok-add_all_faults.ensures.ticked m h)

pub returns-in_err-add_all_faults-clause-ticked_filled : goal.returns-in_err-add_all_faults-clause-ticked_filled
returns-in_err-add_all_faults-clause-ticked_filled g c = λ m h.
    let s = c.args.self.now in
    let ops = g.D.Domain.operations in
    let dom = ops s.engine.domain in
    let new = c.add_all_faults.new.self in
    let same = pointed_here dom s.engine.store s.book m c.as_slice.result.now h (c.as_slice.ensures.same ∙ (c.in_ok-xs.ensures.are ∙ ap (λ (ps : List Procedure). with_points (evaluated_statements (routines_of ps))) (c.view.ensures.is ∙ (c.table.ensures.is ∙ ap (λ p. p.book.history.now) c.self.view_is)))) in
    subst (λ (xs : List Evaluated). c.add_all_faults.new.steps ≤ c.args.steps.now + g.D.Domain.counted s.engine.domain * suc (cells_added s.engine.store new.engine.store + 2 * chain_count (routines_of m.program) (map place_of xs))) same (c.add_all_faults.ensures.ticked_filled m h)

pub returns-clause-ticked_filled : goal.returns-clause-ticked_filled
returns-clause-ticked_filled g c = λ m h.
    let s = c.args.self.now in
    let ops = g.D.Domain.operations in
    let dom = ops s.engine.domain in
    let new = c.add_all_faults.new.self in
    let same = pointed_here dom s.engine.store s.book m c.as_slice.result.now h (c.as_slice.ensures.same ∙ (c.in_ok-xs.ensures.are ∙ ap (λ (ps : List Procedure). with_points (evaluated_statements (routines_of ps))) (c.view.ensures.is ∙ (c.table.ensures.is ∙ ap (λ p. p.book.history.now) c.self.view_is)))) in
    subst (λ (xs : List Evaluated). c.add_all_faults.new.steps ≤ c.args.steps.now + g.D.Domain.counted s.engine.domain * suc (cells_added s.engine.store new.engine.store + 2 * chain_count (routines_of m.program) (map place_of xs))) same (c.add_all_faults.ensures.ticked_filled m h)

pub returns-in_err-xs-clause-ticked_filled : goal.returns-in_err-xs-clause-ticked_filled
returns-in_err-xs-clause-ticked_filled g c = λ m h. omega arith
