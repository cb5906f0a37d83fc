use Rattle.std.proofs.Common.{sym, ◌≤◌, suc, ◌+◌, ◌*◌, ◌++◌, List, ap, subst, ◌∙◌, arith}
use Rattle.imp_syntax.specs.Plain.{program_numbers}
use Rattle.imp_check.specs.Slots.{routines_of}
use Rattle.imp_words.specs.declared.findings.Finding.{Finding}
use Rattle.batch_meaning.specs.Report.{CheckedStatement, checked_statements}
use Rattle.daig_query.specs.Filled.{cells_added}
use Rattle.daig_session.specs.Places.{chain_count, work_on, HoldsAll, HoldsPart}
use Rattle.daig_session.specs.Reports.{checked_among, findings, places_of}
use Rattle.daig_session.proofs.Placed.{part_none}
use Rattle.daig_session.proofs.Reporting.{all_among}
use Rattle.daig_session.proofs.session.Session.all_findings.Goals as goal

pub returns-in_err-stmts-clause-keeps_part : goal.returns-in_err-stmts-clause-keeps_part
returns-in_err-stmts-clause-keeps_part g c = λ m h.
    let s = c.args.self.now in
    let ops = g.D.Domain.operations in
    let dom = ops s.engine.domain in
    part_none dom m s.engine.store s.book (places_of (checked_statements (routines_of m.program))) h

pub returns-in_err-add_findings-clause-keeps_part : goal.returns-in_err-add_findings-clause-keeps_part
returns-in_err-add_findings-clause-keeps_part g c = λ m h.
    let s = c.args.self.now in
    let ops = g.D.Domain.operations in
    let dom = ops s.engine.domain in
    let new = c.add_findings.new.self in
    let same = all_among dom s.engine.store s.book m c.as_slice.result.now h c.ready.ensures.ready.order.fine.numbered (c.as_slice.ensures.same ∙ (c.in_ok-stmts.ensures.are ∙ ap program_numbers (c.view.ensures.is ∙ (c.table.ensures.is ∙ ap (λ p. p.book.history.now) c.self.view_is)))) in
    subst (λ (cs : List CheckedStatement). HoldsPart dom m new.engine.store new.book (places_of cs)) same (c.add_findings.ensures.keeps_part m h)

pub returns-clause-keeps_part : goal.returns-clause-keeps_part
returns-clause-keeps_part g c = λ m h.
    let s = c.args.self.now in
    let ops = g.D.Domain.operations in
    let dom = ops s.engine.domain in
    let new = c.add_findings.new.self in
    let same = all_among dom s.engine.store s.book m c.as_slice.result.now h c.ready.ensures.ready.order.fine.numbered (c.as_slice.ensures.same ∙ (c.in_ok-stmts.ensures.are ∙ ap program_numbers (c.view.ensures.is ∙ (c.table.ensures.is ∙ ap (λ p. p.book.history.now) c.self.view_is)))) in
    subst (λ (cs : List CheckedStatement). HoldsPart dom m new.engine.store new.book (places_of cs)) same (c.add_findings.ensures.keeps_part m h)

pub returns-clause-keeps_all : goal.returns-clause-keeps_all
returns-clause-keeps_all g c = λ m h.
    let s = c.args.self.now in
    let ops = g.D.Domain.operations in
    let dom = ops s.engine.domain in
    let new = c.add_findings.new.self in
    let same = all_among dom s.engine.store s.book m c.as_slice.result.now h c.ready.ensures.ready.order.fine.numbered (c.as_slice.ensures.same ∙ (c.in_ok-stmts.ensures.are ∙ ap program_numbers (c.view.ensures.is ∙ (c.table.ensures.is ∙ ap (λ p. p.book.history.now) c.self.view_is)))) in
    subst (λ (cs : List CheckedStatement). HoldsAll dom m new.engine.store new.book (places_of cs)) same (c.in_ok-add_findings.ensures.keeps_all m h)

pub returns-clause-found : goal.returns-clause-found
returns-clause-found g c = λ m h.
    let s = c.args.self.now in
    let ops = g.D.Domain.operations in
    let dom = ops s.engine.domain in
    let new = c.add_findings.new.self in
    let same = all_among dom s.engine.store s.book m c.as_slice.result.now h c.ready.ensures.ready.order.fine.numbered (c.as_slice.ensures.same ∙ (c.in_ok-stmts.ensures.are ∙ ap program_numbers (c.view.ensures.is ∙ (c.table.ensures.is ∙ ap (λ p. p.book.history.now) c.self.view_is)))) in
    c.in_ok-add_findings.ensures.found m h ∙ (ap (λ (fs : List Finding). fs ++ findings dom m (checked_among m.program c.as_slice.result.now)) c.new-found.ensures.empty ∙ ap (findings dom m) same)

pub returns-clause-ticked : goal.returns-clause-ticked
returns-clause-ticked g c = λ m h.
    let s = c.args.self.now in
    let ops = g.D.Domain.operations in
    let dom = ops s.engine.domain in
    let new = c.add_findings.new.self in
    let same = all_among dom s.engine.store s.book m c.as_slice.result.now h c.ready.ensures.ready.order.fine.numbered (c.as_slice.ensures.same ∙ (c.in_ok-stmts.ensures.are ∙ ap program_numbers (c.view.ensures.is ∙ (c.table.ensures.is ∙ ap (λ p. p.book.history.now) c.self.view_is)))) in
    subst (λ (cs : List CheckedStatement). c.add_findings.new.steps ≤ c.args.steps.now + g.D.Domain.counted s.engine.domain * work_on dom m (places_of cs)) same (c.in_ok-add_findings.ensures.ticked m h)

pub returns-in_err-add_findings-clause-ticked_filled : goal.returns-in_err-add_findings-clause-ticked_filled
returns-in_err-add_findings-clause-ticked_filled g c = λ m h.
    let s = c.args.self.now in
    let ops = g.D.Domain.operations in
    let dom = ops s.engine.domain in
    let new = c.add_findings.new.self in
    let same = all_among dom s.engine.store s.book m c.as_slice.result.now h c.ready.ensures.ready.order.fine.numbered (c.as_slice.ensures.same ∙ (c.in_ok-stmts.ensures.are ∙ ap program_numbers (c.view.ensures.is ∙ (c.table.ensures.is ∙ ap (λ p. p.book.history.now) c.self.view_is)))) in
    subst (λ (cs : List CheckedStatement). c.add_findings.new.steps ≤ c.args.steps.now + g.D.Domain.counted s.engine.domain * suc (cells_added s.engine.store new.engine.store + 2 * chain_count (routines_of m.program) (places_of cs))) same (c.add_findings.ensures.ticked_filled m h)

pub returns-clause-ticked_filled : goal.returns-clause-ticked_filled
returns-clause-ticked_filled g c = λ m h.
    let s = c.args.self.now in
    let ops = g.D.Domain.operations in
    let dom = ops s.engine.domain in
    let new = c.add_findings.new.self in
    let same = all_among dom s.engine.store s.book m c.as_slice.result.now h c.ready.ensures.ready.order.fine.numbered (c.as_slice.ensures.same ∙ (c.in_ok-stmts.ensures.are ∙ ap program_numbers (c.view.ensures.is ∙ (c.table.ensures.is ∙ ap (λ p. p.book.history.now) c.self.view_is)))) in
    subst (λ (cs : List CheckedStatement). c.add_findings.new.steps ≤ c.args.steps.now + g.D.Domain.counted s.engine.domain * suc (cells_added s.engine.store new.engine.store + 2 * chain_count (routines_of m.program) (places_of cs))) same (c.add_findings.ensures.ticked_filled m h)

pub returns-in_err-stmts-clause-ticked_filled : goal.returns-in_err-stmts-clause-ticked_filled
returns-in_err-stmts-clause-ticked_filled g c = λ m h. omega arith
