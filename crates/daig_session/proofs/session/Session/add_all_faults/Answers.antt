use Rattle.std.proofs.Common.{◌≡◌, ◌≤◌, suc, ◌+◌, ◌*◌, [], ◌∷◌, ◌++◌, List, drop, length, map, take, Some, sym, ap, subst, ◌∙◌, arith}
use Rattle.std.proofs.lemmas.Option.{slice_get-get_or}
use Rattle.imp_syntax.specs.declared.edit.Location.{Location}
use Rattle.imp_check.specs.Slots.{routines_of}
use Rattle.fault_verdicts.specs.Report.{findings_of}
use Rattle.fault_verdicts.specs.Statements.{place_of}
use Rattle.daig_query.specs.Filled.{cells_added}
use Rattle.daig_machine.specs.Machine.{Machine}
use Rattle.daig_machine.specs.Turns.{missing_in_places}
use Rattle.daig_session.specs.Holds.{Holds, IsReady}
use Rattle.daig_session.specs.Places.{chain_count, work_on, HoldsAll, HoldsPart}
use Rattle.daig_session.proofs.Placed.{all_part, behind}
use Rattle.daig_session.proofs.Reporting.{all_added, failed_most, next_all, next_part, next_ticked, work_within}
use Rattle.daig_session.proofs.FaultLemmas.{all_taken, next_faults, next_places, rest_places}
use Rattle.daig_session.proofs.session.Session.add_all_faults.Goals as goal

pub loop-x-preserved : goal.loop-x-preserved
loop-x-preserved g c =
    let old = c.args.self.now in
    let mid = c.loop-x.self in
    let new = c.add_faults-added.new.self in
    let ops = g.D.Domain.operations in
    let dom = ops old.engine.domain in
    let xs = c.args.xs.now in
    let i = c.loop-x.x-index in
    let x = c.x-item.result in
    let inv = c.loop-x.invariant in
    let there = slice_get-get_or xs i x c.loop-x-test.true ∙ ap Some (sym c.x-item.is) in
    let sofar = map place_of (take i xs) in
    let one = place_of x ∷ [] in
    let next = map place_of (take (i + 1) xs) in
    let rest = map place_of (drop (i + 1) xs) in
    let all = map place_of xs in
    let then = λ (m : Machine). behind dom m sofar mid.book.cost in
    let stands = λ (m : Machine) (h : Holds dom old.engine.store old.book m). subst (λ d. Holds (ops d) mid.engine.store mid.book (then m)) (sym inv.domain) (inv.all m h) in
    record {
      ready = c.ready-in-loop-x.ensures.ready;
      domain = c.add_faults-added.ensures.setup.0 ∙ inv.domain;
      spare = c.add_faults-added.ensures.setup.1 ∙ inv.spare;
      stays_bounded = λ b. c.add_faults-added.ensures.bounded;
      all = λ m h. next_all dom m sofar one next rest all (next_places xs i x there) (rest_places xs i x there) mid.book.cost new.engine.store new.book (subst (λ d. HoldsAll (ops d) (then m) new.engine.store new.book one) inv.domain (c.in_ok-added.ensures.keeps_all (then m) (stands m h)));
      found = λ m h. next_faults xs i x there dom m c.args.found.now c.loop-x.found c.add_faults-added.new.found (inv.found m h) (subst (λ d. c.add_faults-added.new.found ≡ c.loop-x.found ++ findings_of (ops d) (then m).engine (routines_of (then m).program) (x ∷ [])) inv.domain (c.in_ok-added.ensures.found (then m) (stands m h)));
      least = let a = c.add_faults-added.ensures.least in let b = inv.least in omega arith;
      ticked = λ m h. next_ticked dom m sofar one next rest all (next_places xs i x there) (rest_places xs i x there) mid.book.cost c.args.steps.now c.loop-x.steps c.add_faults-added.new.steps (g.D.Domain.counted old.engine.domain) (inv.ticked m h) (subst (λ d. c.add_faults-added.new.steps ≤ c.loop-x.steps + g.D.Domain.counted d * work_on (ops d) (then m) one) inv.domain (c.in_ok-added.ensures.ticked (then m) (stands m h)));
    }

pub returns-in_err-added-clause-stays_bounded : goal.returns-in_err-added-clause-stays_bounded
returns-in_err-added-clause-stays_bounded g c = λ b. c.add_faults-added.ensures.bounded

pub returns-in_err-added-clause-keeps_part : goal.returns-in_err-added-clause-keeps_part
returns-in_err-added-clause-keeps_part g c = λ m h.
    let old = c.args.self.now in
    let mid = c.loop-x.self in
    let new = c.add_faults-added.new.self in
    let ops = g.D.Domain.operations in
    let dom = ops old.engine.domain in
    let xs = c.args.xs.now in
    let i = c.loop-x.x-index in
    let x = c.x-item.result in
    let inv = c.loop-x.invariant in
    let there = slice_get-get_or xs i x c.loop-x-test.true ∙ ap Some (sym c.x-item.is) in
    let sofar = map place_of (take i xs) in
    let one = place_of x ∷ [] in
    let next = map place_of (take (i + 1) xs) in
    let rest = map place_of (drop (i + 1) xs) in
    let all = map place_of xs in
    let then = λ (m : Machine). behind dom m sofar mid.book.cost in
    let stands = λ (m : Machine) (h : Holds dom old.engine.store old.book m). subst (λ d. Holds (ops d) mid.engine.store mid.book (then m)) (sym inv.domain) (inv.all m h) in
    next_part dom m sofar one next rest all (next_places xs i x there) (rest_places xs i x there) mid.book.cost new.engine.store new.book (subst (λ d. HoldsPart (ops d) (then m) new.engine.store new.book one) inv.domain (c.add_faults-added.ensures.keeps_part (then m) (stands m h)))

pub returns-clause-keeps_part : goal.returns-clause-keeps_part
returns-clause-keeps_part g c = λ m h.
    let old = c.args.self.now in
    let last = c.loop-x.self in
    let dom = g.D.Domain.operations old.engine.domain in
    let xs = c.args.xs.now in
    let i = c.loop-x.x-index in
    let e = ap (map place_of) (all_taken xs i (omega (arith, c.loop-x-test.false))) in
    all_part dom m last.engine.store last.book (map place_of xs) (subst (HoldsAll dom m last.engine.store last.book) e (c.loop-x.invariant.all m h))

pub returns-clause-keeps_all : goal.returns-clause-keeps_all
returns-clause-keeps_all g c = λ m h.
    let old = c.args.self.now in
    let last = c.loop-x.self in
    let dom = g.D.Domain.operations old.engine.domain in
    let xs = c.args.xs.now in
    let i = c.loop-x.x-index in
    let e = ap (map place_of) (all_taken xs i (omega (arith, c.loop-x-test.false))) in
    subst (HoldsAll dom m last.engine.store last.book) e (c.loop-x.invariant.all m h)

pub returns-clause-found : goal.returns-clause-found
returns-clause-found g c = λ m h.
    let old = c.args.self.now in
    let last = c.loop-x.self in
    let dom = g.D.Domain.operations old.engine.domain in
    let xs = c.args.xs.now in
    let i = c.loop-x.x-index in
    let e = all_taken xs i (omega (arith, c.loop-x-test.false)) in
    c.loop-x.invariant.found m h ∙ ap (λ ys. c.args.found.now ++ findings_of dom m.engine (routines_of m.program) ys) e

pub returns-clause-ticked : goal.returns-clause-ticked
returns-clause-ticked g c = λ m h.
    let old = c.args.self.now in
    let last = c.loop-x.self in
    let dom = g.D.Domain.operations old.engine.domain in
    let xs = c.args.xs.now in
    let i = c.loop-x.x-index in
    let e = ap (map place_of) (all_taken xs i (omega (arith, c.loop-x-test.false))) in
    subst (λ (ls : List Location). c.loop-x.steps ≤ c.args.steps.now + g.D.Domain.counted old.engine.domain * work_on dom m ls) e (c.loop-x.invariant.ticked m h)

pub returns-in_err-added-clause-ticked_filled : goal.returns-in_err-added-clause-ticked_filled
returns-in_err-added-clause-ticked_filled g c = λ m h.
    let old = c.args.self.now in
    let mid = c.loop-x.self in
    let new = c.add_faults-added.new.self in
    let ops = g.D.Domain.operations in
    let dom = ops old.engine.domain in
    let xs = c.args.xs.now in
    let i = c.loop-x.x-index in
    let x = c.x-item.result in
    let inv = c.loop-x.invariant in
    let there = slice_get-get_or xs i x c.loop-x-test.true ∙ ap Some (sym c.x-item.is) in
    let sofar = map place_of (take i xs) in
    let one = place_of x ∷ [] in
    let next = map place_of (take (i + 1) xs) in
    let rest = map place_of (drop (i + 1) xs) in
    let all = map place_of xs in
    let then = λ (m : Machine). behind dom m sofar mid.book.cost in
    let stands = λ (m : Machine) (h : Holds dom old.engine.store old.book m). subst (λ d. Holds (ops d) mid.engine.store mid.book (then m)) (sym inv.domain) (inv.all m h) in
    failed_most dom m sofar one next rest all (next_places xs i x there) (rest_places xs i x there) old.engine.store mid.engine.store new.engine.store old.book mid.book new.book c.args.steps.now c.loop-x.steps c.add_faults-added.new.steps (g.D.Domain.counted old.engine.domain) c.ready.ensures.ready h
    (subst (λ d. IsReady (ops d) mid.engine.store mid.book) inv.domain inv.ready) (inv.all m h)
    (subst (λ d. IsReady (ops d) new.engine.store new.book) (c.add_faults-added.ensures.setup.0 ∙ inv.domain) c.ready-in-loop-x.ensures.ready)
    (subst (λ d. HoldsPart (ops d) (then m) new.engine.store new.book one) inv.domain (c.add_faults-added.ensures.keeps_part (then m) (stands m h)))
    (inv.ticked m h)
    (subst (λ d. c.add_faults-added.new.steps ≤ c.loop-x.steps + g.D.Domain.counted d * suc (cells_added mid.engine.store new.engine.store + 2 * chain_count (routines_of m.program) one)) inv.domain (c.add_faults-added.ensures.ticked_filled (then m) (stands m h)))

pub returns-clause-ticked_filled : goal.returns-clause-ticked_filled
returns-clause-ticked_filled g c = λ m h.
    let old = c.args.self.now in
    let last = c.loop-x.self in
    let ops = g.D.Domain.operations in
    let dom = ops old.engine.domain in
    let xs = c.args.xs.now in
    let i = c.loop-x.x-index in
    let inv = c.loop-x.invariant in
    let e = ap (map place_of) (all_taken xs i (omega (arith, c.loop-x-test.false))) in
    let all = subst (HoldsAll dom m last.engine.store last.book) e (inv.all m h) in
    let ticks = subst (λ (ls : List Location). c.loop-x.steps ≤ c.args.steps.now + g.D.Domain.counted old.engine.domain * work_on dom m ls) e (inv.ticked m h) in
    work_within c.args.steps.now c.loop-x.steps (g.D.Domain.counted old.engine.domain) (length (missing_in_places dom (map place_of xs) m)) (cells_added old.engine.store last.engine.store) (chain_count (routines_of m.program) (map place_of xs))
    (all_added dom old.engine.store last.engine.store old.book last.book m (map place_of xs) c.ready.ensures.ready h (subst (λ d. IsReady (ops d) last.engine.store last.book) inv.domain inv.ready) all) ticks
