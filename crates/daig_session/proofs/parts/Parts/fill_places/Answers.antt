use Rattle.std.proofs.Common.{◌≡◌, ◌≤◌, ◌-◌, suc, ◌+◌, ◌*◌, ◌++◌, ◌∷◌, [], List, true, false, drop, length, take, Some, refl, sym, ap, subst, ◌∙◌, arith}
use Rattle.std.specs.Prelude.{IfSome, slice_get}
use Rattle.std.proofs.lemmas.Option.{slice_get-get_or}
use Rattle.std.proofs.lemmas.List.{take_all}
use Rattle.imp_syntax.specs.declared.edit.Location.{Location}
use Rattle.daig_query.specs.Filled.{cells_added}
use Rattle.daig_machine.specs.Machine.{Machine}
use Rattle.daig_machine.specs.Turns.{missing_in_places}
use Rattle.daig_session.specs.declared.book.Book.{Book}
use Rattle.daig_session.specs.Books.{flow_in, machine_of}
use Rattle.daig_session.specs.Going.{IsFull, IsGoing}
use Rattle.daig_session.specs.Holds.{Holds, IsReady}
use Rattle.daig_session.specs.Places.{HoldsAll, HoldsPart}
use Rattle.daig_session.specs.Tours.{IsSomeFilled}
use Rattle.daig_session.proofs.Placed.{all_part, behind}
use Rattle.daig_session.proofs.Reporting.{all_added, next_all, next_part}
use Rattle.daig_session.proofs.Answering.{work_both}
use Rattle.daig_session.proofs.Standing.{names, stands as stood}
use Rattle.daig_session.proofs.Toured.{all_count, all_reached, all_some, all_taken, failed_fill, full_next, next_count, next_named, next_taken, some_reached, work_none}
use Rattle.daig_session.proofs.parts.Parts.fill_places.Goals as goal

pub returns-in_err-progress-clause-keeps_part : goal.returns-in_err-progress-clause-keeps_part
returns-in_err-progress-clause-keeps_part g c = λ m h.
    let old = c.args.self.now in
    let mid = c.loop-at.self in
    let new = c.fill_place.new.self in
    let ops = g.D.Domain.operations in
    let dom = ops old.engine.domain in
    let ls = c.args.places.now in
    let i = c.loop-at.at-index in
    let l = c.at-item.result in
    let inv = c.loop-at.invariant in
    let there = slice_get-get_or ls i l c.loop-at-test.true ∙ ap Some (sym c.at-item.is) in
    let sofar = take i ls in
    let one = l ∷ [] in
    let rest = drop (i + 1) ls in
    let next : take (i + 1) ls ≡ sofar ++ one = next_taken ls i l there in
    let all : ls ≡ (sofar ++ one) ++ rest = all_taken ls i l there in
    let then = λ (m : Machine). behind dom m sofar mid.book.cost in
    let stands = λ (m : Machine) (h : Holds dom old.engine.store old.book m). subst (λ d. Holds (ops d) mid.engine.store mid.book (then m)) (sym inv.domain) (inv.all m h) in
    next_part dom m sofar one (take (i + 1) ls) rest ls next (all ∙ ap (λ us. us ++ rest) (sym next)) mid.book.cost new.engine.store new.book (subst (λ d. HoldsPart (ops d) (then m) new.engine.store new.book one) inv.domain (c.fill_place.ensures.keeps_part (then m) (stands m h)))

pub returns-then-not-progress-clause-keeps_part : goal.returns-then-not-progress-clause-keeps_part
returns-then-not-progress-clause-keeps_part g c = λ m h.
    let old = c.args.self.now in
    let mid = c.loop-at.self in
    let new = c.fill_place.new.self in
    let ops = g.D.Domain.operations in
    let dom = ops old.engine.domain in
    let ls = c.args.places.now in
    let i = c.loop-at.at-index in
    let l = c.at-item.result in
    let inv = c.loop-at.invariant in
    let there = slice_get-get_or ls i l c.loop-at-test.true ∙ ap Some (sym c.at-item.is) in
    let sofar = take i ls in
    let one = l ∷ [] in
    let rest = drop (i + 1) ls in
    let next : take (i + 1) ls ≡ sofar ++ one = next_taken ls i l there in
    let all : ls ≡ (sofar ++ one) ++ rest = all_taken ls i l there in
    let then = λ (m : Machine). behind dom m sofar mid.book.cost in
    let stands = λ (m : Machine) (h : Holds dom old.engine.store old.book m). subst (λ d. Holds (ops d) mid.engine.store mid.book (then m)) (sym inv.domain) (inv.all m h) in
    next_part dom m sofar one (take (i + 1) ls) rest ls next (all ∙ ap (λ us. us ++ rest) (sym next)) mid.book.cost new.engine.store new.book (subst (λ d. HoldsPart (ops d) (then m) new.engine.store new.book one) inv.domain (c.fill_place.ensures.keeps_part (then m) (stands m h)))

pub returns-then-not-progress-clause-fills : goal.returns-then-not-progress-clause-fills
returns-then-not-progress-clause-fills g c = λ m h.
    let old = c.args.self.now in
    let mid = c.loop-at.self in
    let new = c.fill_place.new.self in
    let ops = g.D.Domain.operations in
    let dom = ops old.engine.domain in
    let ls = c.args.places.now in
    let i = c.loop-at.at-index in
    let l = c.at-item.result in
    let inv = c.loop-at.invariant in
    let there = slice_get-get_or ls i l c.loop-at-test.true ∙ ap Some (sym c.at-item.is) in
    let sofar = take i ls in
    let one = l ∷ [] in
    let rest = drop (i + 1) ls in
    let next : take (i + 1) ls ≡ sofar ++ one = next_taken ls i l there in
    let all : ls ≡ (sofar ++ one) ++ rest = all_taken ls i l there in
    let then = λ (m : Machine). behind dom m sofar mid.book.cost in
    let stands = λ (m : Machine) (h : Holds dom old.engine.store old.book m). subst (λ d. Holds (ops d) mid.engine.store mid.book (then m)) (sym inv.domain) (inv.all m h) in
    let p = c.in_ok-progress.progress in
    let undone : p.done ≡ false = grind (arith, c.if-not-progress.true) in
    let some = subst (λ d. IsSomeFilled (ops d) (then m) new.engine.store new.book one (c.args.most - c.loop-at.filled) p.filled p.done) inv.domain (c.in_ok-progress.ensures.fills (then m) (stands m h)) in
    some_reached dom m new.engine.store new.book mid.book.cost sofar one rest ls all c.args.most c.loop-at.filled p.filled (inv.filled m h) inv.low (
    subst (λ b. IsSomeFilled dom (then m) new.engine.store new.book one (c.args.most - c.loop-at.filled) p.filled b) undone some)

pub returns-clause-keeps_part : goal.returns-clause-keeps_part
returns-clause-keeps_part g c = λ m h.
    let dom = g.D.Domain.operations c.args.self.now.engine.domain in
    let last = c.loop-at.self in
    let ls = c.args.places.now in
    all_part dom m last.engine.store last.book ls (subst (HoldsAll dom m last.engine.store last.book) (take_all c.loop-at.at-index ls (omega (arith, c.loop-at-test.false))) (c.loop-at.invariant.all m h))

pub returns-clause-fills : goal.returns-clause-fills
returns-clause-fills g c = λ m h.
    let dom = g.D.Domain.operations c.args.self.now.engine.domain in
    let last = c.loop-at.self in
    let ls = c.args.places.now in
    let inv = c.loop-at.invariant in
    let end = take_all c.loop-at.at-index ls (omega (arith, c.loop-at-test.false)) in
    all_reached dom m last.engine.store last.book ls c.args.most c.loop-at.filled (inv.filled m h ∙ ap (λ us. length (missing_in_places dom us m)) end) inv.low (subst (HoldsAll dom m last.engine.store last.book) end (inv.all m h))

pub returns-in_err-progress-clause-ticked_filled : goal.returns-in_err-progress-clause-ticked_filled
returns-in_err-progress-clause-ticked_filled g c =
    let old = c.args.self.now in
    let mid = c.loop-at.self in
    let new = c.fill_place.new.self in
    let ops = g.D.Domain.operations in
    let dom = ops old.engine.domain in
    let ls = c.args.places.now in
    let i = c.loop-at.at-index in
    let l = c.at-item.result in
    let inv = c.loop-at.invariant in
    let there = slice_get-get_or ls i l c.loop-at-test.true ∙ ap Some (sym c.at-item.is) in
    let sofar = take i ls in
    let one = l ∷ [] in
    let rest = drop (i + 1) ls in
    let next : take (i + 1) ls ≡ sofar ++ one = next_taken ls i l there in
    let all : ls ≡ (sofar ++ one) ++ rest = all_taken ls i l there in
    let then = λ (m : Machine). behind dom m sofar mid.book.cost in
    let stands = λ (m : Machine) (h : Holds dom old.engine.store old.book m). subst (λ d. Holds (ops d) mid.engine.store mid.book (then m)) (sym inv.domain) (inv.all m h) in
    let m0 = machine_of old.book (names dom old.engine.store old.book c.requires.ready) in
    let h0 = stood dom old.engine.store old.book c.requires.ready in
    let each = g.D.Domain.counted old.engine.domain in
    failed_fill dom m0 sofar one old.engine.store mid.engine.store new.engine.store old.book mid.book new.book c.args.steps.now c.loop-at.steps c.fill_place.new.steps each c.loop-at.filled
    c.requires.ready h0 inv.ready (inv.all m0 h0) (subst (λ d. IsReady (ops d) new.engine.store new.book) (c.fill_place.ensures.setup.0 ∙ inv.domain) c.fill_place.ensures.ready)
    (subst (λ d. HoldsPart (ops d) (then m0) new.engine.store new.book one) inv.domain (c.fill_place.ensures.keeps_part (then m0) (stands m0 h0)))
    (inv.filled m0 h0) inv.ticked (subst (λ d. c.fill_place.new.steps ≤ c.loop-at.steps + g.D.Domain.counted d * suc (cells_added mid.engine.store new.engine.store)) inv.domain c.fill_place.ensures.ticked_filled)

pub returns-then-not-progress-clause-ticked_filled : goal.returns-then-not-progress-clause-ticked_filled
returns-then-not-progress-clause-ticked_filled g c =
    let old = c.args.self.now in
    let mid = c.loop-at.self in
    let new = c.fill_place.new.self in
    let ops = g.D.Domain.operations in
    let dom = ops old.engine.domain in
    let ls = c.args.places.now in
    let i = c.loop-at.at-index in
    let l = c.at-item.result in
    let inv = c.loop-at.invariant in
    let there = slice_get-get_or ls i l c.loop-at-test.true ∙ ap Some (sym c.at-item.is) in
    let sofar = take i ls in
    let one = l ∷ [] in
    let rest = drop (i + 1) ls in
    let next : take (i + 1) ls ≡ sofar ++ one = next_taken ls i l there in
    let all : ls ≡ (sofar ++ one) ++ rest = all_taken ls i l there in
    let then = λ (m : Machine). behind dom m sofar mid.book.cost in
    let stands = λ (m : Machine) (h : Holds dom old.engine.store old.book m). subst (λ d. Holds (ops d) mid.engine.store mid.book (then m)) (sym inv.domain) (inv.all m h) in
    let m0 = machine_of old.book (names dom old.engine.store old.book c.requires.ready) in
    let h0 = stood dom old.engine.store old.book c.requires.ready in
    let each = g.D.Domain.counted old.engine.domain in
    failed_fill dom m0 sofar one old.engine.store mid.engine.store new.engine.store old.book mid.book new.book c.args.steps.now c.loop-at.steps c.fill_place.new.steps each c.loop-at.filled
    c.requires.ready h0 inv.ready (inv.all m0 h0) (subst (λ d. IsReady (ops d) new.engine.store new.book) (c.fill_place.ensures.setup.0 ∙ inv.domain) c.fill_place.ensures.ready)
    (subst (λ d. HoldsPart (ops d) (then m0) new.engine.store new.book one) inv.domain (c.fill_place.ensures.keeps_part (then m0) (stands m0 h0)))
    (inv.filled m0 h0) inv.ticked (subst (λ d. c.fill_place.new.steps ≤ c.loop-at.steps + g.D.Domain.counted d * suc (cells_added mid.engine.store new.engine.store)) inv.domain c.fill_place.ensures.ticked_filled)

pub overflow_add-filled : goal.overflow_add-filled
overflow_add-filled g c =
    let old = c.args.self.now in
    let mid = c.loop-at.self in
    let new = c.fill_place.new.self in
    let ops = g.D.Domain.operations in
    let dom = ops old.engine.domain in
    let ls = c.args.places.now in
    let i = c.loop-at.at-index in
    let l = c.at-item.result in
    let inv = c.loop-at.invariant in
    let there = slice_get-get_or ls i l c.loop-at-test.true ∙ ap Some (sym c.at-item.is) in
    let sofar = take i ls in
    let one = l ∷ [] in
    let rest = drop (i + 1) ls in
    let next : take (i + 1) ls ≡ sofar ++ one = next_taken ls i l there in
    let all : ls ≡ (sofar ++ one) ++ rest = all_taken ls i l there in
    let then = λ (m : Machine). behind dom m sofar mid.book.cost in
    let stands = λ (m : Machine) (h : Holds dom old.engine.store old.book m). subst (λ d. Holds (ops d) mid.engine.store mid.book (then m)) (sym inv.domain) (inv.all m h) in
    let p = c.in_ok-progress.progress in
    let m0 = machine_of old.book (names dom old.engine.store old.book c.requires.ready) in
    let h0 = stood dom old.engine.store old.book c.requires.ready in
    let few = (c.in_ok-progress.ensures.fills (then m0) (stands m0 h0)).as_many in
    omega (arith, few, inv.low, c.ranges.most.fits)

pub returns-then-not-progress-clause-reached : goal.returns-then-not-progress-clause-reached
returns-then-not-progress-clause-reached g c =
    let old = c.args.self.now in
    let mid = c.loop-at.self in
    let new = c.fill_place.new.self in
    let ops = g.D.Domain.operations in
    let dom = ops old.engine.domain in
    let ls = c.args.places.now in
    let i = c.loop-at.at-index in
    let l = c.at-item.result in
    let inv = c.loop-at.invariant in
    let there = slice_get-get_or ls i l c.loop-at-test.true ∙ ap Some (sym c.at-item.is) in
    let sofar = take i ls in
    let one = l ∷ [] in
    let rest = drop (i + 1) ls in
    let next : take (i + 1) ls ≡ sofar ++ one = next_taken ls i l there in
    let all : ls ≡ (sofar ++ one) ++ rest = all_taken ls i l there in
    let then = λ (m : Machine). behind dom m sofar mid.book.cost in
    let stands = λ (m : Machine) (h : Holds dom old.engine.store old.book m). subst (λ d. Holds (ops d) mid.engine.store mid.book (then m)) (sym inv.domain) (inv.all m h) in
    let domain = c.fill_place.ensures.setup.0 ∙ inv.domain in
    let book = c.fill_place.ensures.book ∙ inv.book in
    record {
      within = omega (arith, inv.count, inv.within);
      full = λ j p less e.
          subst (λ (b : Book). IsFull (ops new.engine.domain) (flow_in b) new.engine.store p) (sym book) (
          subst (λ d. IsFull (ops d) (flow_in old.book) new.engine.store p) (sym domain) (λ x mem. c.fill_place.ensures.stays_kept x (inv.full j p less e x mem)));
      next_is = next_named (ops new.engine.domain) (flow_in new.book) new.engine.store ls c.loop-at.full i l inv.count there c.fill_place.new.next c.in_ok-progress.ensures.next;
      ends = λ t. absurd (let u : false ≡ true = t in cc);
    }

pub loop-at-preserved : goal.loop-at-preserved
loop-at-preserved g c =
    let old = c.args.self.now in
    let mid = c.loop-at.self in
    let new = c.fill_place.new.self in
    let ops = g.D.Domain.operations in
    let dom = ops old.engine.domain in
    let ls = c.args.places.now in
    let i = c.loop-at.at-index in
    let l = c.at-item.result in
    let inv = c.loop-at.invariant in
    let there = slice_get-get_or ls i l c.loop-at-test.true ∙ ap Some (sym c.at-item.is) in
    let sofar = take i ls in
    let one = l ∷ [] in
    let rest = drop (i + 1) ls in
    let next : take (i + 1) ls ≡ sofar ++ one = next_taken ls i l there in
    let all : ls ≡ (sofar ++ one) ++ rest = all_taken ls i l there in
    let then = λ (m : Machine). behind dom m sofar mid.book.cost in
    let stands = λ (m : Machine) (h : Holds dom old.engine.store old.book m). subst (λ d. Holds (ops d) mid.engine.store mid.book (then m)) (sym inv.domain) (inv.all m h) in
    let domain = c.fill_place.ensures.setup.0 ∙ inv.domain in
    let book = c.fill_place.ensures.book ∙ inv.book in
    let p = c.in_ok-progress.progress in
    let m0 = machine_of old.book (names dom old.engine.store old.book c.requires.ready) in
    let h0 = stood dom old.engine.store old.book c.requires.ready in
    let few = (c.in_ok-progress.ensures.fills (then m0) (stands m0 h0)).as_many in
    let each = g.D.Domain.counted old.engine.domain in
    let done : p.done ≡ true = grind (arith, c.if-not-progress.false) in
    let some = λ (m : Machine) (h : Holds dom old.engine.store old.book m). subst (λ b. IsSomeFilled dom (then m) new.engine.store new.book one (c.args.most - c.loop-at.filled) p.filled b) done (
    subst (λ d. IsSomeFilled (ops d) (then m) new.engine.store new.book one (c.args.most - c.loop-at.filled) p.filled p.done) inv.domain (c.in_ok-progress.ensures.fills (then m) (stands m h))) in
    let here = subst (λ d. IsFull (ops d) (flow_in old.book) new.engine.store l) domain (subst (λ (b : Book). IsFull (ops new.engine.domain) (flow_in b) new.engine.store l) book (c.in_ok-progress.ensures.full done)) in
    record {
      ready = subst (λ d. IsReady (ops d) new.engine.store new.book) domain c.fill_place.ensures.ready;
      domain = domain;
      spare = c.fill_place.ensures.setup.1 ∙ inv.spare;
      book = book;
      stays_bounded = λ b. c.fill_place.ensures.bounded;
      stays_kept = λ x h. c.fill_place.ensures.stays_kept x (inv.stays_kept x h);
      count = ap (λ k. k + 1) inv.count;
      within = omega (arith, c.loop-at-test.true);
      full = full_next dom (flow_in old.book) new.engine.store ls c.loop-at.full i l inv.count there (λ j q less e x mem. c.fill_place.ensures.stays_kept x (inv.full j q less e x mem)) here;
      next = subst (λ o. IfSome o (λ t. (q : Location) → slice_get ls (c.loop-at.full + 1) ≡ Some q → IsGoing dom (flow_in old.book) new.engine.store q [] t)) (sym (c.in_ok-progress.ensures.ended done)) tt;
      all = λ m h. next_all dom m sofar one (take (i + 1) ls) rest ls next (all ∙ ap (λ us. us ++ rest) (sym next)) mid.book.cost new.engine.store new.book (all_some dom (then m) new.engine.store new.book one (c.args.most - c.loop-at.filled) p.filled (some m h));
      filled = λ m h. next_count dom m new.engine.store new.book mid.book.cost sofar one c.loop-at.filled p.filled (inv.filled m h) (all_count dom (then m) new.engine.store new.book one (c.args.most - c.loop-at.filled) p.filled (some m h)) ∙ ap (λ us. length (missing_in_places dom us m)) (sym next);
      low = omega (arith, few, inv.low);
      least = let a = c.fill_place.ensures.least in let b = inv.least in omega arith;
      ticked = work_both c.args.steps.now c.loop-at.steps c.fill_place.new.steps each c.loop-at.filled p.filled inv.ticked (subst (λ d. c.fill_place.new.steps ≤ c.loop-at.steps + g.D.Domain.counted d * p.filled) inv.domain c.in_ok-progress.ensures.ticked);
    }

pub returns-clause-reached : goal.returns-clause-reached
returns-clause-reached g c =
    let old = c.args.self.now in
    let last = c.loop-at.self in
    let ops = g.D.Domain.operations in
    let ls = c.args.places.now in
    let inv = c.loop-at.invariant in
    let end : length ls ≤ c.loop-at.at-index = omega (arith, c.loop-at-test.false) in
    record {
      within = omega (arith, inv.count, inv.within);
      full = λ j p less e. subst (λ (b : Book). IsFull (ops last.engine.domain) (flow_in b) last.engine.store p) (sym inv.book) (subst (λ d. IsFull (ops d) (flow_in old.book) last.engine.store p) (sym inv.domain) (inv.full j p less e));
      next_is =
          subst (λ (b : Book). IfSome c.loop-at.next (λ t. (q : Location) → slice_get ls c.loop-at.full ≡ Some q → IsGoing (ops last.engine.domain) (flow_in b) last.engine.store q [] t)) (sym inv.book) (
          subst (λ d. IfSome c.loop-at.next (λ t. (q : Location) → slice_get ls c.loop-at.full ≡ Some q → IsGoing (ops d) (flow_in old.book) last.engine.store q [] t)) (sym inv.domain) inv.next);
      ends = λ t. omega (arith, inv.count, inv.within, end);
    }

pub returns-clause-ticked_filled : goal.returns-clause-ticked_filled
returns-clause-ticked_filled g c =
    let old = c.args.self.now in
    let last = c.loop-at.self in
    let dom = g.D.Domain.operations old.engine.domain in
    let ls = c.args.places.now in
    let inv = c.loop-at.invariant in
    let m0 = machine_of old.book (names dom old.engine.store old.book c.requires.ready) in
    let h0 = stood dom old.engine.store old.book c.requires.ready in
    let so = take c.loop-at.at-index ls in
    let n : c.loop-at.filled ≡ cells_added old.engine.store last.engine.store = inv.filled m0 h0 ∙ all_added dom old.engine.store last.engine.store old.book last.book m0 so c.requires.ready h0 inv.ready (inv.all m0 h0) in
    work_none c.args.steps.now c.loop-at.steps (g.D.Domain.counted old.engine.domain) (cells_added old.engine.store last.engine.store) (subst (λ k. c.loop-at.steps ≤ c.args.steps.now + g.D.Domain.counted old.engine.domain * k) n inv.ticked)
