use Rattle.std.proofs.Common.{◌≡◌, ◌*◌, ◌+◌, ◌<◌, ◌≤◌, true, false, List, length, map, take, Some, Ok, refl, sym, ap, subst, ◌∙◌, arith}
use Rattle.std.proofs.lemmas.Result.{err_from_is_err_and}
use Rattle.imp_flow.specs.Reached.{target_of}
use Rattle.cell_rows.specs.Targets.{Target}
use Rattle.daig_query.specs.Answered.{AreFilled}
use Rattle.daig_query.specs.Filled.{cells_added, Fills}
use Rattle.daig_machine.specs.Turns.{after_close, after_step, missing_asked, refusal_in, with_filled, IsBetween}
use Rattle.daig_tickets.specs.declared.tickets.OpenTicket.{OpenTicket}
use Rattle.daig_tickets.specs.Tickets.{number, ticket}
use Rattle.daig_session.specs.declared.course.Course.{Course}
use Rattle.daig_session.specs.declared.course.Course.TheVariants.{Place}
use Rattle.daig_session.specs.Books.{flow_in}
use Rattle.daig_session.specs.Going.{AreWaiting, HasComeFar, IsAsked, IsAtOne}
use Rattle.daig_session.specs.Holds.{Holds, IsReady}
use Rattle.daig_session.specs.Turns.{chains_read, IsStep, IsTold, SoundDone}
use Rattle.daig_session.proofs.Asked.{asked_answered}
use Rattle.daig_session.proofs.Answering.{answer_here, between_some, work_both, work_first, work_most}
use Rattle.daig_session.proofs.Courses.{at_place, done_step, done_work, filled_there, pending_sound, IsPlaced}
use Rattle.daig_session.proofs.Filled.{fills_ready, missing_here, ready_costing}
use Rattle.daig_session.proofs.Stepped.{all_of, as_many_as, is_more}
use Rattle.daig_session.proofs.TicketLemmas.{numbers_set, still_open, tickets_set}
use Rattle.daig_session.proofs.Ticketed.{closed_ready, done_holds, pending_holds, ticketed_ready}
use Rattle.daig_session.proofs.Waiting.{waiting_set}
use Rattle.daig_session.proofs.parts.Parts.step_on.Goals as goal
use Rattle.std.proofs.lemmas.Option.{same_Some, slice_get_within}

pub fill_some-requires-clause-going : goal.fill_some-requires-clause-going
fill_some-requires-clause-going g c =
    let s = c.args.self.now in
    let a = at_place (g.D.Domain.operations s.engine.domain) (flow_in s.book) s.engine.store c.requires.there.one.question c.args.going c.requires.there.course in
    (a.location, a.string, a.going)

pub returns-in_err-progress-clause-ready : goal.returns-in_err-progress-clause-ready
returns-in_err-progress-clause-ready g c =
    let s = c.args.self.now in
    let ops = g.D.Domain.operations in
    let new = c.fill_some.new.engine.store in
    let ts = map target_of c.args.going.targets in
    subst (λ d. IsReady (ops d) new s.book) (sym c.fill_some.ensures.setup.0) (fills_ready (ops s.engine.domain) s.book s.engine.store new ts (cells_added s.engine.store new) c.requires.ready c.fill_some.ensures.fills)

pub returns-in_err-progress-clause-steps : goal.returns-in_err-progress-clause-steps
returns-in_err-progress-clause-steps g c = λ m o h e.
    let s = c.args.self.now in
    let ops = g.D.Domain.operations in
    let dom = ops s.engine.domain in
    let new = c.fill_some.new.engine.store in
    let ts = map target_of c.args.going.targets in
    let a = subst (λ (x : OpenTicket Course). IsPlaced dom (flow_in s.book) s.engine.store x.question c.args.going) (same_Some c.requires.there.one o (sym c.requires.there.there ∙ e)) (at_place dom (flow_in s.book) s.engine.store c.requires.there.one.question c.args.going c.requires.there.course) in
    let p = err_from_is_err_and c.from_residual.result c.from_residual.ensures.1 in
    rw (p.1, p.2) (subst (λ d. IsBetween (missing_asked dom o.question m) m (Holds (ops d) new s.book)) (sym c.fill_some.ensures.setup.0) (
    subst (λ xs. IsBetween xs m (Holds dom new s.book)) (sym (a.missing m)) (
    between_some dom s.book s.engine.store new a.location a.string ts (cells_added s.engine.store new) c.requires.ready.right.checked a.going.asked c.fill_some.ensures.fills (c.questions_keep_cells.ensures.question s.engine.domain) m h)))

pub put_going-requires : goal.put_going-requires
put_going-requires g c = record { there = slice_get_within c.args.self.now.book.tickets.open_ones.items c.args.place c.requires.there.one c.requires.there.there }

pub returns-then-not-progress-clause-ready : goal.returns-then-not-progress-clause-ready
returns-then-not-progress-clause-ready g c =
    let s = c.args.self.now in
    let ops = g.D.Domain.operations in
    let dom = ops s.engine.domain in
    let new = c.fill_some.new.engine.store in
    let ts = map target_of c.args.going.targets in
    let os = s.book.tickets.open_ones.items in
    let one = c.requires.there.one in
    let there = c.requires.there.there in
    let at = at_place dom (flow_in s.book) s.engine.store one.question c.args.going c.requires.there.course in
    let more : OpenTicket Course = record one { going = Some (Place c.fill_some.new.going) } in
    let items = c.put_going.ensures.put one there in
    let r = fills_ready dom s.book s.engine.store new ts (cells_added s.engine.store new) c.requires.ready c.fill_some.ensures.fills in
    let t = record s.book.tickets { open_ones = c.put_going.new.open_ones } in
    let q = ticketed_ready dom new s.book t r (still_open s.book.tickets t r.order.are_open (ap (map number) items ∙ numbers_set os c.args.place one more there refl) refl)
    (subst (AreWaiting dom (flow_in s.book) new) (sym items) (waiting_set dom (flow_in s.book) new os c.args.place more r.waiting (at.again new c.fill_some.new.going (c.fill_some.ensures.going at.location at.string at.going)))) in
    subst (λ d. IsReady (ops d) new (record s.book { tickets = t; cost = c.in_ok-progress.progress.filled })) (sym c.fill_some.ensures.setup.0) (ready_costing dom new (record s.book { tickets = t }) c.in_ok-progress.progress.filled q)

pub returns-then-not-progress-clause-steps : goal.returns-then-not-progress-clause-steps
returns-then-not-progress-clause-steps g c = λ m o h e.
    let s = c.args.self.now in
    let ops = g.D.Domain.operations in
    let dom = ops s.engine.domain in
    let new = c.fill_some.new.engine.store in
    let ts = map target_of c.args.going.targets in
    let a = subst (λ (x : OpenTicket Course). IsPlaced dom (flow_in s.book) s.engine.store x.question c.args.going) (same_Some c.requires.there.one o (sym c.requires.there.there ∙ e)) (at_place dom (flow_in s.book) s.engine.store c.requires.there.one.question c.args.going c.requires.there.course) in
    let os = s.book.tickets.open_ones.items in
    let n = c.in_ok-progress.progress.filled in
    let more : OpenTicket Course = record o { going = Some (Place c.fill_some.new.going) } in
    let items = c.put_going.ensures.put o e in
    let t = record s.book.tickets { open_ones = c.put_going.new.open_ones } in
    let missing = missing_here dom s.book s.engine.store new m a.location a.string ts h a.going.asked in
    let undone : c.in_ok-progress.progress.done ≡ false = grind (arith, c.if-not-progress.true) in
    let left = subst (λ xs. c.args.most < length xs) missing (is_more c.in_ok-progress.progress.done _ c.args.most c.in_ok-progress.ensures.done undone) in
    let full = as_many_as n c.args.most _ c.in_ok-progress.ensures.first (is_more c.in_ok-progress.progress.done _ c.args.most c.in_ok-progress.ensures.done undone) in
    record {
      filled = full;
      answers =
          a.refusal m
          ∙ ap refusal_in (sym (answer_here dom s.book s.engine.store m a.location a.string h)
          ∙ (asked_answered dom (flow_in s.book).engine (flow_in s.book).program a.location a.string ts c.requires.ready.right.checked a.going.asked).1);
      more = subst (λ xs. c.args.most < length xs) (sym (a.missing m)) left;
      after = subst (λ d. Holds (ops d) new (record s.book { tickets = t; cost = n }) (after_step dom (ticket o) c.args.most m)) (sym c.fill_some.ensures.setup.0) (
          subst (λ xs. Holds dom new (record s.book { tickets = t; cost = n }) (with_filled (take c.args.most xs) m)) (sym (a.missing m)) (
          pending_holds dom s.book s.engine.store new a.location a.string ts n c.requires.ready.right.checked a.going.asked (subst (Fills dom (flow_in s.book) ts s.engine.store new) (sym c.in_ok-progress.ensures.counted) c.fill_some.ensures.fills) (c.questions_keep_cells.ensures.question s.engine.domain) m h t c.args.most
          (ap (map ticket) items ∙ tickets_set os c.args.place o more e refl) refl full left));
    }

pub returns-then-not-progress-clause-sound : goal.returns-then-not-progress-clause-sound
returns-then-not-progress-clause-sound g c = λ m o h e.
    let s = c.args.self.now in
    pending_sound (g.D.Domain.operations s.engine.domain) (g.D.Domain.covers s.engine.domain) m.engine m.program o.question c.in_ok-progress.progress.filled

pub told-requires-clause-there : goal.told-requires-clause-there
told-requires-clause-there g c = slice_get_within c.args.self.now.book.tickets.open_ones.items c.args.place c.requires.there.one c.requires.there.there

pub told-requires-clause-ready : goal.told-requires-clause-ready
told-requires-clause-ready g c =
    let s = c.args.self.now in
    let ops = g.D.Domain.operations in
    let new = c.fill_some.new.engine.store in
    let ts = map target_of c.args.going.targets in
    subst (λ d. IsReady (ops d) new s.book) (sym c.fill_some.ensures.setup.0) (fills_ready (ops s.engine.domain) s.book s.engine.store new ts (cells_added s.engine.store new) c.requires.ready c.fill_some.ensures.fills)

pub told-requires-clause-filled : goal.told-requires-clause-filled
told-requires-clause-filled g c = λ o e.
    let s = c.args.self.now in
    let ops = g.D.Domain.operations in
    let dom = ops s.engine.domain in
    let new = c.fill_some.new.engine.store in
    let ts = map target_of c.args.going.targets in
    let done : c.in_ok-progress.progress.done ≡ true = grind (arith, c.if-not-progress.false) in
    let come = subst (λ (x : OpenTicket Course). HasComeFar dom (flow_in s.book) s.engine.store x.question (Place c.args.going)) (same_Some c.requires.there.one o (sym c.requires.there.there ∙ e)) c.requires.there.course in
    subst (λ d. IsAtOne o.question (λ l string. (us : List Target) × IsAsked (flow_in s.book).program l string us × AreFilled (ops d) new c.fill_some.new.going.walk (flow_in s.book) us)) (sym c.fill_some.ensures.setup.0) (
    filled_there dom (flow_in s.book) s.engine.store new c.fill_some.new.going.walk o.question c.args.going come (c.in_ok-progress.ensures.filled done))

pub returns-in_err-turn-clause-ready : goal.returns-in_err-turn-clause-ready
returns-in_err-turn-clause-ready g c =
    let s = c.args.self.now in
    let ops = g.D.Domain.operations in
    let new = c.fill_some.new.engine.store in
    let ts = map target_of c.args.going.targets in
    subst (λ d. IsReady (ops d) new s.book) (sym c.fill_some.ensures.setup.0) (fills_ready (ops s.engine.domain) s.book s.engine.store new ts (cells_added s.engine.store new) c.requires.ready c.fill_some.ensures.fills)

pub returns-in_err-turn-clause-steps : goal.returns-in_err-turn-clause-steps
returns-in_err-turn-clause-steps g c = λ m o h e.
    let s = c.args.self.now in
    let ops = g.D.Domain.operations in
    let dom = ops s.engine.domain in
    let new = c.fill_some.new.engine.store in
    let ts = map target_of c.args.going.targets in
    let a = subst (λ (x : OpenTicket Course). IsPlaced dom (flow_in s.book) s.engine.store x.question c.args.going) (same_Some c.requires.there.one o (sym c.requires.there.there ∙ e)) (at_place dom (flow_in s.book) s.engine.store c.requires.there.one.question c.args.going c.requires.there.course) in
    let p = err_from_is_err_and c.from_residual-in_err-turn.result c.from_residual-in_err-turn.ensures.1 in
    rw (p.1, p.2) (subst (λ d. IsBetween (missing_asked dom o.question m) m (Holds (ops d) new s.book)) (sym c.fill_some.ensures.setup.0) (
    subst (λ xs. IsBetween xs m (Holds dom new s.book)) (sym (a.missing m)) (
    between_some dom s.book s.engine.store new a.location a.string ts (cells_added s.engine.store new) c.requires.ready.right.checked a.going.asked c.fill_some.ensures.fills (c.questions_keep_cells.ensures.question s.engine.domain) m h)))

pub close-requires-clause-tickets : goal.close-requires-clause-tickets
close-requires-clause-tickets g c = c.requires.ready.order.are_open

pub close-requires-clause-there : goal.close-requires-clause-there
close-requires-clause-there g c = slice_get_within c.args.self.now.book.tickets.open_ones.items c.args.place c.requires.there.one c.requires.there.there

pub returns-clause-ready : goal.returns-clause-ready
returns-clause-ready g c =
    let s = c.args.self.now in
    let ops = g.D.Domain.operations in
    let dom = ops s.engine.domain in
    let new = c.fill_some.new.engine.store in
    let ts = map target_of c.args.going.targets in
    let r = fills_ready dom s.book s.engine.store new ts (cells_added s.engine.store new) c.requires.ready c.fill_some.ensures.fills in
    let q = closed_ready dom s.book new c.close.new.self c.args.place r c.close.ensures.tickets c.close.ensures.rest in
    subst (λ d. IsReady (ops d) new (record s.book { tickets = c.close.new.self; cost = c.in_ok-progress.progress.filled })) (sym c.fill_some.ensures.setup.0) (ready_costing dom new (record s.book { tickets = c.close.new.self }) c.in_ok-progress.progress.filled q)

pub returns-clause-steps : goal.returns-clause-steps
returns-clause-steps g c = λ m o h e.
    let s = c.args.self.now in
    let ops = g.D.Domain.operations in
    let dom = ops s.engine.domain in
    let new = c.fill_some.new.engine.store in
    let ts = map target_of c.args.going.targets in
    let a = subst (λ (x : OpenTicket Course). IsPlaced dom (flow_in s.book) s.engine.store x.question c.args.going) (same_Some c.requires.there.one o (sym c.requires.there.there ∙ e)) (at_place dom (flow_in s.book) s.engine.store c.requires.there.one.question c.args.going c.requires.there.course) in
    let n = c.in_ok-progress.progress.filled in
    let turn = c.in_ok-turn.turn in
    let done : c.in_ok-progress.progress.done ≡ true = grind (arith, c.if-not-progress.false) in
    let missing = missing_here dom s.book s.engine.store new m a.location a.string ts h a.going.asked in
    let few = c.in_ok-progress.ensures.done.0 done in
    let all = ap length missing in
    let says = subst (λ d. IsTold (ops d) m o.question turn) c.fill_some.ensures.setup.0 (c.in_ok-turn.ensures.says m h.is o e) in
    subst (λ d. IsStep dom m (Holds (ops d) new (record s.book { tickets = c.close.new.self; cost = n })) (ticket o) c.args.most (Ok turn)) (sym c.fill_some.ensures.setup.0) (
    done_step dom m (Holds dom new (record s.book { tickets = c.close.new.self; cost = n })) (ticket o) c.args.most turn (record {
      few = subst (λ xs. length xs ≤ c.args.most) (missing ∙ sym (a.missing m)) few;
      says = says;
      after = subst (λ xs. Holds dom new (record s.book { tickets = c.close.new.self; cost = n }) (after_close o.number (with_filled xs m))) (sym (a.missing m)) (
          done_holds dom s.book s.engine.store new a.location a.string ts n c.requires.ready.right.checked a.going.asked (subst (Fills dom (flow_in s.book) ts s.engine.store new) (sym c.in_ok-progress.ensures.counted) c.fill_some.ensures.fills) (c.questions_keep_cells.ensures.question s.engine.domain) m h c.close.new.self o.number
          (c.close.ensures.closed o.number (record { one = o; there = e; same = refl })) c.close.ensures.next (all_of n c.args.most _ _ c.in_ok-progress.ensures.first few all));
    }))

pub returns-clause-sound : goal.returns-clause-sound
returns-clause-sound g c = λ m o h e.
    let s = c.args.self.now in
    let ops = g.D.Domain.operations in
    subst (λ d. SoundDone (ops d) (g.D.Domain.covers d) m.engine m.program o.question c.in_ok-turn.turn) c.fill_some.ensures.setup.0 (c.in_ok-turn.ensures.sound m h.is o e)

pub returns-clause-ticked : goal.returns-clause-ticked
returns-clause-ticked g c = λ m o h e.
    let s = c.args.self.now in
    let ops = g.D.Domain.operations in
    let dom = ops s.engine.domain in
    let new = c.fill_some.new.engine.store in
    let ts = map target_of c.args.going.targets in
    let a = subst (λ (x : OpenTicket Course). IsPlaced dom (flow_in s.book) s.engine.store x.question c.args.going) (same_Some c.requires.there.one o (sym c.requires.there.there ∙ e)) (at_place dom (flow_in s.book) s.engine.store c.requires.there.one.question c.args.going c.requires.there.course) in
    let n = c.in_ok-progress.progress.filled in
    let each = g.D.Domain.counted s.engine.domain in
    let done : c.in_ok-progress.progress.done ≡ true = grind (arith, c.if-not-progress.false) in
    let missing = missing_here dom s.book s.engine.store new m a.location a.string ts h a.going.asked in
    let says = subst (λ d. IsTold (ops d) m o.question c.in_ok-turn.turn) c.fill_some.ensures.setup.0 (c.in_ok-turn.ensures.says m h.is o e) in
    let as_many = all_of n c.args.most _ _ c.in_ok-progress.ensures.first (c.in_ok-progress.ensures.done.0 done) (ap length (missing ∙ sym (a.missing m))) in
    let read = subst (λ d. c.told.new.steps ≤ c.fill_some.new.steps + g.D.Domain.counted d * (2 * chains_read m o.question)) c.fill_some.ensures.setup.0 (c.told.ensures.ticked m h.is o e) in
    done_work dom m o.question c.in_ok-turn.turn c.args.steps.now c.told.new.steps each says (
    subst (λ k. c.told.new.steps ≤ c.args.steps.now + each * (k + 2 * chains_read m o.question)) as_many (
    work_both c.args.steps.now c.fill_some.new.steps c.told.new.steps each n (2 * chains_read m o.question) c.in_ok-progress.ensures.ticked read))

pub returns-in_err-progress-clause-ticked_filled : goal.returns-in_err-progress-clause-ticked_filled
returns-in_err-progress-clause-ticked_filled g c = λ m o h e.
    let s = c.args.self.now in
    work_first c.args.steps.now c.fill_some.new.steps (g.D.Domain.counted s.engine.domain) (cells_added s.engine.store c.fill_some.new.engine.store) (2 * chains_read m o.question) c.fill_some.ensures.ticked_filled

pub returns-then-not-progress-clause-ticked_filled : goal.returns-then-not-progress-clause-ticked_filled
returns-then-not-progress-clause-ticked_filled g c = λ m o h e.
    let s = c.args.self.now in
    work_first c.args.steps.now c.fill_some.new.steps (g.D.Domain.counted s.engine.domain) (cells_added s.engine.store c.fill_some.new.engine.store) (2 * chains_read m o.question) c.fill_some.ensures.ticked_filled

pub returns-in_err-turn-clause-ticked_filled : goal.returns-in_err-turn-clause-ticked_filled
returns-in_err-turn-clause-ticked_filled g c = λ m o h e.
    let s = c.args.self.now in
    let n = cells_added s.engine.store c.fill_some.new.engine.store in
    let each = g.D.Domain.counted s.engine.domain in
    let read = subst (λ d. c.told.new.steps ≤ c.fill_some.new.steps + g.D.Domain.counted d * (2 * chains_read m o.question)) c.fill_some.ensures.setup.0 (c.told.ensures.ticked m h.is o e) in
    let fill = subst (λ k. c.fill_some.new.steps ≤ c.args.steps.now + each * k) c.in_ok-progress.ensures.counted c.in_ok-progress.ensures.ticked in
    work_most c.args.steps.now c.fill_some.new.steps c.told.new.steps each n (2 * chains_read m o.question) fill read

pub returns-clause-ticked_filled : goal.returns-clause-ticked_filled
returns-clause-ticked_filled g c = λ m o h e.
    let s = c.args.self.now in
    let n = cells_added s.engine.store c.fill_some.new.engine.store in
    let each = g.D.Domain.counted s.engine.domain in
    let read = subst (λ d. c.told.new.steps ≤ c.fill_some.new.steps + g.D.Domain.counted d * (2 * chains_read m o.question)) c.fill_some.ensures.setup.0 (c.told.ensures.ticked m h.is o e) in
    let fill = subst (λ k. c.fill_some.new.steps ≤ c.args.steps.now + each * k) c.in_ok-progress.ensures.counted c.in_ok-progress.ensures.ticked in
    work_most c.args.steps.now c.fill_some.new.steps c.told.new.steps each n (2 * chains_read m o.question) fill read
