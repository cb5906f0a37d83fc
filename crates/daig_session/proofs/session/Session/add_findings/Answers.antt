use Rattle.std.proofs.Common.{◌≡◌, ◌≤◌, suc, ◌+◌, ◌*◌, ◌++◌, List, drop, length, take, Some, sym, ap, subst, ◌∙◌, arith}
use Rattle.std.proofs.lemmas.Option.{slice_get-get_or}
use Rattle.imp_syntax.specs.declared.edit.Location.{Location}
use Rattle.imp_check.specs.Slots.{routines_of}
use Rattle.daig_query.specs.Filled.{cells_added}
use Rattle.daig_machine.specs.Machine.{Machine}
use Rattle.daig_machine.specs.Turns.{missing_in_places}
use Rattle.daig_session.specs.Holds.{Holds, IsReady}
use Rattle.daig_session.specs.Places.{chain_count, work_on, HoldsAll, HoldsPart}
use Rattle.daig_session.specs.Reports.{checked_among, checked_at, findings, places_of}
use Rattle.daig_session.proofs.Placed.{all_part, behind}
use Rattle.daig_session.proofs.Reporting.{all_added, among_end, failed_most, next_all, next_found, next_part, next_places, next_ticked, rest_places, work_within}
use Rattle.daig_session.proofs.session.Session.add_findings.Goals as goal

pub loop-stmt-preserved : goal.loop-stmt-preserved
loop-stmt-preserved g c =
    let old = c.args.self.now in
    let mid = c.loop-stmt.self in
    let new = c.add_finding-added.new.self in
    let ops = g.D.Domain.operations in
    let dom = ops old.engine.domain in
    let ns = c.args.stmts.now in
    let i = c.loop-stmt.stmt-index in
    let n = c.stmt-item.result in
    let inv = c.loop-stmt.invariant in
    let there = slice_get-get_or ns i n c.loop-stmt-test.true ∙ ap Some (sym c.stmt-item.is) in
    let sofar = λ (m : Machine). places_of (checked_among m.program (take i ns)) in
    let one = λ (m : Machine). places_of (checked_at m.program n) in
    let next = λ (m : Machine). places_of (checked_among m.program (take (i + 1) ns)) in
    let rest = λ (m : Machine). places_of (checked_among m.program (drop (i + 1) ns)) in
    let all = λ (m : Machine). places_of (checked_among m.program ns) in
    let then = λ (m : Machine). behind dom m (sofar m) mid.book.cost in
    let stands = λ (m : Machine) (h : Holds dom old.engine.store old.book m). subst (λ d. Holds (ops d) mid.engine.store mid.book (then m)) (sym inv.domain) (inv.all m h) in
    record {
      ready = c.ready-in-loop-stmt.ensures.ready;
      domain = c.add_finding-added.ensures.setup.0 ∙ inv.domain;
      spare = c.add_finding-added.ensures.setup.1 ∙ inv.spare;
      stays_bounded = λ b. c.add_finding-added.ensures.stays_bounded (inv.stays_bounded b);
      all = λ m h. next_all dom m (sofar m) (one m) (next m) (rest m) (all m) (next_places m.program ns i n there) (rest_places m.program ns i n there) mid.book.cost new.engine.store new.book (subst (λ d. HoldsAll (ops d) (then m) new.engine.store new.book (one m)) inv.domain (c.in_ok-added.ensures.keeps_all (then m) (stands m h)));
      found = λ m h. next_found dom m ns i n there c.args.found.now c.loop-stmt.found c.add_finding-added.new.found (inv.found m h) (subst (λ d. c.add_finding-added.new.found ≡ c.loop-stmt.found ++ findings (ops d) (then m) (checked_at m.program n)) inv.domain (c.in_ok-added.ensures.found (then m) (stands m h)));
      least = let a = c.add_finding-added.ensures.least in let b = inv.least in omega arith;
      ticked = λ m h. next_ticked dom m (sofar m) (one m) (next m) (rest m) (all m) (next_places m.program ns i n there) (rest_places m.program ns i n there) mid.book.cost c.args.steps.now c.loop-stmt.steps c.add_finding-added.new.steps (g.D.Domain.counted old.engine.domain) (inv.ticked m h) (subst (λ d. c.add_finding-added.new.steps ≤ c.loop-stmt.steps + g.D.Domain.counted d * work_on (ops d) (then m) (one m)) inv.domain (c.in_ok-added.ensures.ticked (then m) (stands m h)));
    }

pub returns-in_err-added-clause-stays_bounded : goal.returns-in_err-added-clause-stays_bounded
returns-in_err-added-clause-stays_bounded g c = λ b. c.add_finding-added.ensures.stays_bounded (c.loop-stmt.invariant.stays_bounded b)

pub returns-in_err-added-clause-keeps_part : goal.returns-in_err-added-clause-keeps_part
returns-in_err-added-clause-keeps_part g c = λ m h.
    let old = c.args.self.now in
    let mid = c.loop-stmt.self in
    let new = c.add_finding-added.new.self in
    let ops = g.D.Domain.operations in
    let dom = ops old.engine.domain in
    let ns = c.args.stmts.now in
    let i = c.loop-stmt.stmt-index in
    let n = c.stmt-item.result in
    let inv = c.loop-stmt.invariant in
    let there = slice_get-get_or ns i n c.loop-stmt-test.true ∙ ap Some (sym c.stmt-item.is) in
    let sofar = λ (m : Machine). places_of (checked_among m.program (take i ns)) in
    let one = λ (m : Machine). places_of (checked_at m.program n) in
    let next = λ (m : Machine). places_of (checked_among m.program (take (i + 1) ns)) in
    let rest = λ (m : Machine). places_of (checked_among m.program (drop (i + 1) ns)) in
    let all = λ (m : Machine). places_of (checked_among m.program ns) in
    let then = λ (m : Machine). behind dom m (sofar m) mid.book.cost in
    let stands = λ (m : Machine) (h : Holds dom old.engine.store old.book m). subst (λ d. Holds (ops d) mid.engine.store mid.book (then m)) (sym inv.domain) (inv.all m h) in
    next_part dom m (sofar m) (one m) (next m) (rest m) (all m) (next_places m.program ns i n there) (rest_places m.program ns i n there) mid.book.cost new.engine.store new.book (subst (λ d. HoldsPart (ops d) (then m) new.engine.store new.book (one m)) inv.domain (c.add_finding-added.ensures.keeps_part (then m) (stands m h)))

pub returns-clause-keeps_part : goal.returns-clause-keeps_part
returns-clause-keeps_part g c = λ m h.
    let old = c.args.self.now in
    let last = c.loop-stmt.self in
    let dom = g.D.Domain.operations old.engine.domain in
    let ns = c.args.stmts.now in
    let i = c.loop-stmt.stmt-index in
    let e = ap places_of (among_end m.program ns i (omega (arith, c.loop-stmt-test.false))) in
    all_part dom m last.engine.store last.book (places_of (checked_among m.program ns)) (subst (HoldsAll dom m last.engine.store last.book) e (c.loop-stmt.invariant.all m h))

pub returns-clause-keeps_all : goal.returns-clause-keeps_all
returns-clause-keeps_all g c = λ m h.
    let old = c.args.self.now in
    let last = c.loop-stmt.self in
    let dom = g.D.Domain.operations old.engine.domain in
    let ns = c.args.stmts.now in
    let i = c.loop-stmt.stmt-index in
    let e = ap places_of (among_end m.program ns i (omega (arith, c.loop-stmt-test.false))) in
    subst (HoldsAll dom m last.engine.store last.book) e (c.loop-stmt.invariant.all m h)

pub returns-clause-found : goal.returns-clause-found
returns-clause-found g c = λ m h.
    let old = c.args.self.now in
    let last = c.loop-stmt.self in
    let dom = g.D.Domain.operations old.engine.domain in
    let ns = c.args.stmts.now in
    let i = c.loop-stmt.stmt-index in
    let e = among_end m.program ns i (omega (arith, c.loop-stmt-test.false)) in
    c.loop-stmt.invariant.found m h ∙ ap (λ cs. c.args.found.now ++ findings dom m cs) e

pub returns-clause-ticked : goal.returns-clause-ticked
returns-clause-ticked g c = λ m h.
    let old = c.args.self.now in
    let last = c.loop-stmt.self in
    let dom = g.D.Domain.operations old.engine.domain in
    let ns = c.args.stmts.now in
    let i = c.loop-stmt.stmt-index in
    let e = ap places_of (among_end m.program ns i (omega (arith, c.loop-stmt-test.false))) in
    subst (λ (ls : List Location). c.loop-stmt.steps ≤ c.args.steps.now + g.D.Domain.counted old.engine.domain * work_on dom m ls) e (c.loop-stmt.invariant.ticked m h)

pub returns-in_err-added-clause-ticked_filled : goal.returns-in_err-added-clause-ticked_filled
returns-in_err-added-clause-ticked_filled g c = λ m h.
    let old = c.args.self.now in
    let mid = c.loop-stmt.self in
    let new = c.add_finding-added.new.self in
    let ops = g.D.Domain.operations in
    let dom = ops old.engine.domain in
    let ns = c.args.stmts.now in
    let i = c.loop-stmt.stmt-index in
    let n = c.stmt-item.result in
    let inv = c.loop-stmt.invariant in
    let there = slice_get-get_or ns i n c.loop-stmt-test.true ∙ ap Some (sym c.stmt-item.is) in
    let sofar = λ (m : Machine). places_of (checked_among m.program (take i ns)) in
    let one = λ (m : Machine). places_of (checked_at m.program n) in
    let next = λ (m : Machine). places_of (checked_among m.program (take (i + 1) ns)) in
    let rest = λ (m : Machine). places_of (checked_among m.program (drop (i + 1) ns)) in
    let all = λ (m : Machine). places_of (checked_among m.program ns) in
    let then = λ (m : Machine). behind dom m (sofar m) mid.book.cost in
    let stands = λ (m : Machine) (h : Holds dom old.engine.store old.book m). subst (λ d. Holds (ops d) mid.engine.store mid.book (then m)) (sym inv.domain) (inv.all m h) in
    failed_most dom m (sofar m) (one m) (next m) (rest m) (all m) (next_places m.program ns i n there) (rest_places m.program ns i n there) old.engine.store mid.engine.store new.engine.store old.book mid.book new.book c.args.steps.now c.loop-stmt.steps c.add_finding-added.new.steps (g.D.Domain.counted old.engine.domain) c.ready.ensures.ready h
    (subst (λ d. IsReady (ops d) mid.engine.store mid.book) inv.domain inv.ready) (inv.all m h)
    (subst (λ d. IsReady (ops d) new.engine.store new.book) (c.add_finding-added.ensures.setup.0 ∙ inv.domain) c.ready-in-loop-stmt.ensures.ready)
    (subst (λ d. HoldsPart (ops d) (then m) new.engine.store new.book (one m)) inv.domain (c.add_finding-added.ensures.keeps_part (then m) (stands m h)))
    (inv.ticked m h)
    (subst (λ d. c.add_finding-added.new.steps ≤ c.loop-stmt.steps + g.D.Domain.counted d * suc (cells_added mid.engine.store new.engine.store + 2 * chain_count (routines_of m.program) (one m))) inv.domain (c.add_finding-added.ensures.ticked_filled (then m) (stands m h)))

pub returns-clause-ticked_filled : goal.returns-clause-ticked_filled
returns-clause-ticked_filled g c = λ m h.
    let old = c.args.self.now in
    let last = c.loop-stmt.self in
    let ops = g.D.Domain.operations in
    let dom = ops old.engine.domain in
    let ns = c.args.stmts.now in
    let i = c.loop-stmt.stmt-index in
    let inv = c.loop-stmt.invariant in
    let e = ap places_of (among_end m.program ns i (omega (arith, c.loop-stmt-test.false))) in
    let all = subst (HoldsAll dom m last.engine.store last.book) e (inv.all m h) in
    let ticks = subst (λ (ls : List Location). c.loop-stmt.steps ≤ c.args.steps.now + g.D.Domain.counted old.engine.domain * work_on dom m ls) e (inv.ticked m h) in
    work_within c.args.steps.now c.loop-stmt.steps (g.D.Domain.counted old.engine.domain) (length (missing_in_places dom (places_of (checked_among m.program ns)) m)) (cells_added old.engine.store last.engine.store) (chain_count (routines_of m.program) (places_of (checked_among m.program ns)))
    (all_added dom old.engine.store last.engine.store old.book last.book m (places_of (checked_among m.program ns)) c.ready.ensures.ready h (subst (λ d. IsReady (ops d) last.engine.store last.book) inv.domain inv.ready) all) ticks
