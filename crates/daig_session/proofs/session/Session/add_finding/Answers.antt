use Rattle.std.proofs.Common.{◌≡◌, ◌≤◌, suc, ◌+◌, ◌*◌, [], List, refl, sym, ap, subst, ◌∙◌, arith}
use Rattle.imp_syntax.specs.Plain.{Procedure}
use Rattle.imp_syntax.specs.declared.edit.Location.TheVariants.{Before}
use Rattle.domain_laws.specs.Checks.{kind_of}
use Rattle.batch_meaning.specs.Report.{CheckedStatement, verdict_on}
use Rattle.imp_check.specs.Slots.{routines_of}
use Rattle.daig_query.specs.Filled.{cells_added}
use Rattle.daig_machine.specs.Turns.{answer_at}
use Rattle.daig_session.specs.Places.{chain_count, work_on, HoldsAll, HoldsPart}
use Rattle.daig_session.specs.Reports.{checked_at, places_of, HasCheck}
use Rattle.daig_session.proofs.Reporting.{at_is, checked_is, found_none, found_one, none_all, none_part}
use Rattle.daig_session.proofs.session.Session.add_finding.Goals as goal
use Rattle.daig_query.proofs.Filling.{on_ok, ok_always}

pub returns-then-not-has_check-clause-keeps_part : goal.returns-then-not-has_check-clause-keeps_part
returns-then-not-has_check-clause-keeps_part g c = λ m h.
    let s = c.args.self.now in
    let ops = g.D.Domain.operations in
    let dom = ops s.engine.domain in
    let n = c.args.id in
    none_part dom s.engine.store s.book m n h (c.if-not-has_check.ensures.none refl)

pub returns-then-not-has_check-clause-keeps_all : goal.returns-then-not-has_check-clause-keeps_all
returns-then-not-has_check-clause-keeps_all g c = λ m h.
    let s = c.args.self.now in
    let ops = g.D.Domain.operations in
    let dom = ops s.engine.domain in
    let n = c.args.id in
    none_all dom s.engine.store s.book m n h (c.if-not-has_check.ensures.none refl)

pub returns-then-not-has_check-clause-found : goal.returns-then-not-has_check-clause-found
returns-then-not-has_check-clause-found g c = λ m h.
    let s = c.args.self.now in
    let ops = g.D.Domain.operations in
    let dom = ops s.engine.domain in
    let n = c.args.id in
    found_none dom m (checked_at m.program n) c.args.found.now (at_is dom s.engine.store s.book m n h ∙ (c.if-not-has_check.ensures.none refl))

pub returns-then-not-has_check-clause-ticked : goal.returns-then-not-has_check-clause-ticked
returns-then-not-has_check-clause-ticked g c = λ m h.
    omega arith

pub found_at-requires : goal.found_at-requires
found_at-requires g c =
    let s = c.args.self.now in
    let ops = g.D.Domain.operations in
    let dom = ops s.engine.domain in
    let n = c.args.id in
    let new = c.known_at.new.self in
    let there = c.if-not-has_check.ensures.there refl in
    record { there = subst (λ (ps : List Procedure). HasCheck ps n) (sym c.known_at.ensures.program) there }

pub returns-in_err-known-clause-keeps_part : goal.returns-in_err-known-clause-keeps_part
returns-in_err-known-clause-keeps_part g c = λ m h.
    let s = c.args.self.now in
    let ops = g.D.Domain.operations in
    let dom = ops s.engine.domain in
    let n = c.args.id in
    let new = c.known_at.new.self in
    let there = c.if-not-has_check.ensures.there refl in
    subst (λ cs. HoldsPart dom m new.engine.store new.book (places_of cs)) (sym (checked_is dom s.engine.store s.book m n h there)) (c.known_at.ensures.keeps_part m h)

pub returns-in_err-finding-clause-keeps_part : goal.returns-in_err-finding-clause-keeps_part
returns-in_err-finding-clause-keeps_part g c = λ m h.
    let s = c.args.self.now in
    let ops = g.D.Domain.operations in
    let dom = ops s.engine.domain in
    let n = c.args.id in
    let new = c.known_at.new.self in
    let there = c.if-not-has_check.ensures.there refl in
    subst (λ cs. HoldsPart dom m new.engine.store new.book (places_of cs)) (sym (checked_is dom s.engine.store s.book m n h there)) (c.known_at.ensures.keeps_part m h)

pub returns-clause-keeps_part : goal.returns-clause-keeps_part
returns-clause-keeps_part g c = λ m h.
    let s = c.args.self.now in
    let ops = g.D.Domain.operations in
    let dom = ops s.engine.domain in
    let n = c.args.id in
    let new = c.known_at.new.self in
    let there = c.if-not-has_check.ensures.there refl in
    subst (λ cs. HoldsPart dom m new.engine.store new.book (places_of cs)) (sym (checked_is dom s.engine.store s.book m n h there)) (c.known_at.ensures.keeps_part m h)

pub returns-clause-keeps_all : goal.returns-clause-keeps_all
returns-clause-keeps_all g c =
    let s = c.args.self.now in
    let ops = g.D.Domain.operations in
    let dom = ops s.engine.domain in
    let n = c.args.id in
    let new = c.known_at.new.self in
    let there = c.if-not-has_check.ensures.there refl in
    ok_always c.push.result (λ m h. subst (λ cs. HoldsAll dom m new.engine.store new.book (places_of cs)) (sym (checked_is dom s.engine.store s.book m n h there)) (c.in_ok-known.ensures.keeps_all m h))

pub returns-clause-found : goal.returns-clause-found
returns-clause-found g c =
    let s = c.args.self.now in
    let ops = g.D.Domain.operations in
    let dom = ops s.engine.domain in
    let n = c.args.id in
    let new = c.known_at.new.self in
    let there = c.if-not-has_check.ensures.there refl in
    let f = c.in_ok-finding.finding in
    on_ok c.push.result c.push.ensures.added (λ a m h. (
    found_one dom m n there.0 there.1 (checked_at m.program n) c.args.found.now c.push.new.self f (checked_is dom s.engine.store s.book m n h there) a (
    subst (λ d. f ≡ record { id = n; check = kind_of there.1; verdict = verdict_on (ops d) m.engine there.0 (answer_at dom (Before n) [] m) }) c.known_at.ensures.setup.0 (
    c.in_ok-finding.ensures.is m.engine (answer_at dom (Before n) [] m) there.0 there.1 (c.in_ok-known.ensures.tells m h) (ap (λ (ps : List Procedure). checked_at ps n) c.known_at.ensures.program ∙ there.2)))))

pub returns-clause-ticked : goal.returns-clause-ticked
returns-clause-ticked g c =
    let s = c.args.self.now in
    let ops = g.D.Domain.operations in
    let dom = ops s.engine.domain in
    let n = c.args.id in
    let new = c.known_at.new.self in
    let there = c.if-not-has_check.ensures.there refl in
    ok_always c.push.result (λ m h. subst (λ (cs : List CheckedStatement). c.known_at.new.steps ≤ c.args.steps.now + g.D.Domain.counted s.engine.domain * work_on dom m (places_of cs)) (sym (checked_is dom s.engine.store s.book m n h there)) (c.in_ok-known.ensures.ticked m h))

pub returns-then-not-has_check-clause-ticked_filled : goal.returns-then-not-has_check-clause-ticked_filled
returns-then-not-has_check-clause-ticked_filled g c = λ m h. omega arith

pub returns-in_err-known-clause-ticked_filled : goal.returns-in_err-known-clause-ticked_filled
returns-in_err-known-clause-ticked_filled g c = λ m h.
    let s = c.args.self.now in
    let dom = g.D.Domain.operations s.engine.domain in
    let n = c.args.id in
    let there = c.if-not-has_check.ensures.there refl in
    subst (λ (cs : List CheckedStatement). c.known_at.new.steps ≤ c.args.steps.now + g.D.Domain.counted s.engine.domain * suc (cells_added s.engine.store c.known_at.new.self.engine.store + 2 * chain_count (routines_of m.program) (places_of cs))) (sym (checked_is dom s.engine.store s.book m n h there)) (c.known_at.ensures.ticked_filled m h)

pub returns-in_err-finding-clause-ticked_filled : goal.returns-in_err-finding-clause-ticked_filled
returns-in_err-finding-clause-ticked_filled g c = λ m h.
    let s = c.args.self.now in
    let dom = g.D.Domain.operations s.engine.domain in
    let n = c.args.id in
    let there = c.if-not-has_check.ensures.there refl in
    subst (λ (cs : List CheckedStatement). c.known_at.new.steps ≤ c.args.steps.now + g.D.Domain.counted s.engine.domain * suc (cells_added s.engine.store c.known_at.new.self.engine.store + 2 * chain_count (routines_of m.program) (places_of cs))) (sym (checked_is dom s.engine.store s.book m n h there)) (c.known_at.ensures.ticked_filled m h)

pub returns-clause-ticked_filled : goal.returns-clause-ticked_filled
returns-clause-ticked_filled g c = λ m h.
    let s = c.args.self.now in
    let dom = g.D.Domain.operations s.engine.domain in
    let n = c.args.id in
    let there = c.if-not-has_check.ensures.there refl in
    subst (λ (cs : List CheckedStatement). c.known_at.new.steps ≤ c.args.steps.now + g.D.Domain.counted s.engine.domain * suc (cells_added s.engine.store c.known_at.new.self.engine.store + 2 * chain_count (routines_of m.program) (places_of cs))) (sym (checked_is dom s.engine.store s.book m n h there)) (c.known_at.ensures.ticked_filled m h)
