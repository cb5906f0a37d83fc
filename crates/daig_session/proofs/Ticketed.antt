-- What is done for tickets is the machine's.
use Rattle.std.proofs.Common.{◌≡◌, ℕ, zero, suc, ◌+◌, ◌<◌, List, [], ◌∷◌, ◌++◌, map, take, drop, length, if◌then◌else◌, Some, None, Err, slice_get, refl, sym, ap, subst, ◌∙◌, inr, arith}
use Rattle.std.proofs.lemmas.List.{length-map, map_push, length-take-le}
use Rattle.base_values.proofs.Cases.{by_test}
use Rattle.imp_syntax.specs.declared.edit.Location.{Location}
use Rattle.imp_slots.specs.Fits.{Absent, Distinct, IsChecked}
use Rattle.edit_keeps.specs.Apart.{flow_of}
use Rattle.edit_history.specs.History.{Times}
use Rattle.daig_query.specs.Right.{IsRight}
use Rattle.domain_laws.specs.Operations.{Operations}
use Rattle.batch_meaning.specs.Answers.{answer}
use Rattle.cell_rows.specs.Targets.{Target}
use Rattle.daig_query.specs.declared.store.Store.{Store}
use Rattle.daig_query.specs.Filled.{Fills}
use Rattle.daig_machine.specs.Machine.{Machine, Ticket, keeping, ticket_of, with_tickets, without_ticket}
use Rattle.daig_machine.specs.Turns.{after_question, after_close, answer_at, missing_at, refusal_in, with_filled, with_ticket}
use Rattle.daig_machine.specs.declared.question.Question.{Question}
use Rattle.std.specs.Prelude.{Option, IfSome}
use Rattle.daig_machine.specs.Claims.{FillingKeeps}
use Rattle.daig_tickets.specs.declared.tickets.OpenTicket.{OpenTicket}
use Rattle.daig_tickets.specs.declared.tickets.Tickets.{Tickets}
use Rattle.daig_tickets.specs.Tickets.{anew, number, ticket, tickets, AreOpen}
use Rattle.daig_session.specs.declared.book.Book.{Book}
use Rattle.daig_session.specs.declared.course.Course.{Course}
use Rattle.daig_session.specs.declared.error.QueryError.{QueryError}
use Rattle.daig_session.specs.declared.error.QueryError.TheVariants.{Refused, Memory}
use Rattle.daig_session.specs.Books.{flow_in, machine_of, IsWithout}
use Rattle.daig_session.specs.Going.{AreWaiting, HasComeFar, IsAsked, IsRefused}
use Rattle.daig_session.specs.Holds.{Holds, IsReady}
use Rattle.daig_session.specs.Turns.{ask_error, StaysUnopened}
use Rattle.daig_session.proofs.Answering.{answer_here}
use Rattle.daig_session.proofs.Filled.{asked_holds, keeping_holds}
use Rattle.daig_session.proofs.Ordered.{order_like}
use Rattle.daig_session.proofs.TicketLemmas.{numbers_set, set_there, still_open, tickets_set}
use Rattle.daig_session.proofs.Waiting.{waiting_get, waiting_push, waiting_rest, waiting_set}
use Rattle.std.proofs.lemmas.Option.{same_Some}

module _ {S : Type 0} (dom : Operations S) (store : Store S) where
  -- so many tickets are open
  pub tickets_count : (book : Book) (m : Machine) → Holds dom store book m → length m.tickets ≡ length book.tickets.open_ones.items
  tickets_count book m h = sym (ap (λ (z : Machine). length z.tickets) h.is) ∙ length-map book.tickets.open_ones.items ticket

  -- the machine with other tickets
  pub ticketed_holds : (book : Book) (t : Tickets Course) (ts : List Ticket) (next : ℕ) (m : Machine) → Holds dom store book m → tickets t ≡ ts → t.next ≡ next → Holds dom store (record book { tickets = t }) (with_tickets ts next m)
  ticketed_holds book t ts next m h e n = record {
    is = ap (λ (z : Machine). with_tickets (tickets t) t.next z) h.is ∙ (ap (λ us. with_tickets us t.next m) e ∙ ap (λ k. with_tickets ts k m) n);
    same = h.same;
    cells = h.cells;
  }

  pub ticketed_ready : (book : Book) (t : Tickets Course) → IsReady dom store book → AreOpen t → AreWaiting dom (flow_in book) store t.open_ones.items → IsReady dom store (record book { tickets = t })
  ticketed_ready book t r are waiting = record {
    right = r.right;
    order = record {
      set = r.order.set;
      fine = r.order.fine;
      some = r.order.some;
      low = r.order.low;
      below = r.order.below;
      behind = r.order.behind;
      ahead = r.order.ahead;
      are_open = are;
    };
    waiting = waiting;
  }

  -- the same tickets, of which one may have come to something else
  pub retold_holds : (book : Book) (t : Tickets Course) (m : Machine) → Holds dom store book m → tickets t ≡ tickets book.tickets → t.next ≡ book.tickets.next → Holds dom store (record book { tickets = t }) m
  retold_holds book t m h e n = record {
    is = ap (λ us. with_tickets us t.next (machine_of book m.kept)) e ∙ (ap (λ k. with_tickets (tickets book.tickets) k (machine_of book m.kept)) n ∙ h.is);
    same = h.same;
    cells = h.cells;
  }

  -- a ticket begins anew
  pub without_flow : (place : ℕ) (old new : Book) → IsWithout place old new → flow_in new ≡ flow_in old
  without_flow place old new w = λ i. flow_of (w.setting i).engine (w.history i).now

  module _ (place : ℕ) (old new : Book) (w : IsWithout place old new) (o : OpenTicket Course) (there : slice_get old.tickets.open_ones.items place ≡ Some o) where
    pub without_holds : (m : Machine) → Holds dom store old m → Holds dom store new m
    without_holds m h =
        let te : tickets new.tickets ≡ tickets old.tickets = ap (map ticket) (w.left o there) ∙ tickets_set old.tickets.open_ones.items place o (anew o) there refl in
        record {
          is = (λ i. record { program = (w.history i).now; engine = (w.setting i).engine; next = w.next_is i; tickets = te i; next_ticket = w.next_ticket i; kept = m.kept; cost = w.cost i; past = (w.history i).past; future = (w.history i).future }) ∙ h.is;
          same = h.same;
          cells = h.cells;
        }

    pub without_ready : IsReady dom store old → IsReady dom store new
    without_ready r =
        let flow = without_flow place old new w in
        record {
          right = subst (λ p. IsRight dom p store) (sym flow) r.right;
          order = order_like old new r.order (ap (λ (t : Times). t.now) w.history) (ap (λ (t : Times). t.past) w.history) (ap (λ (t : Times). t.future) w.history) w.setting w.next_is (still_open old.tickets new.tickets r.order.are_open (ap (map number) (w.left o there) ∙ numbers_set old.tickets.open_ones.items place o (anew o) there refl) w.next_ticket);
          waiting =
              subst (λ p. AreWaiting dom p store new.tickets.open_ones.items) (sym flow) (
              subst (AreWaiting dom (flow_in old) store) (sym (w.left o there)) (waiting_set dom (flow_in old) store old.tickets.open_ones.items place (anew o) r.waiting tt));
        }

    pub without_there : slice_get new.tickets.open_ones.items place ≡ Some (anew o)
    without_there = subst (λ os. slice_get os place ≡ Some (anew o)) (sym (w.left o there)) (set_there old.tickets.open_ones.items place o (anew o) there)

-- The ticket of a number is the one that has it.
absent_at : {G : Type 0} (n k : ℕ) (os : List (OpenTicket G)) (o : OpenTicket G) → Absent n (map number os) → slice_get os k ≡ Some o → o.number ≡ n → ⊥
absent_at n k [] o a e h = absurd (let p = e in cc)
absent_at n zero (x ∷ xs) o a e h = a.0 (sym h ∙ sym (ap (λ (y : OpenTicket _). y.number) (same_Some x o e)))
absent_at n (suc k) (x ∷ xs) o a e h = absent_at n k xs o a.1 e h

pub ticket_at : {G : Type 0} (n k : ℕ) (os : List (OpenTicket G)) (o : OpenTicket G) → Distinct (map number os) → slice_get os k ≡ Some o → o.number ≡ n → ticket_of n (map ticket os) ≡ Some (ticket o)
ticket_at n k [] o d e h = absurd (let p = e in cc)
ticket_at n zero (x ∷ xs) o d e h =
    let same = same_Some x o e in
    by_test x.number n (λ b. (if b then Some (ticket x) else ticket_of n (map ticket xs)) ≡ Some (ticket o)) (λ i. ap (λ y. Some (ticket y)) same) (λ i. absurd (i (ap number same ∙ h)))
ticket_at n (suc k) (x ∷ xs) o d e h =
    by_test x.number n (λ b. (if b then Some (ticket x) else ticket_of n (map ticket xs)) ≡ Some (ticket o)) (λ i. absurd (absent_at x.number k xs o d.0 e (h ∙ sym i))) (λ i. ticket_at n k xs o d.1 e h)

pub ticket_here : {S : Type 0} (dom : Operations S) (store : Store S) (book : Book) (m : Machine) (n k : ℕ) (o : OpenTicket Course) → Holds dom store book m → AreOpen book.tickets → slice_get book.tickets.open_ones.items k ≡ Some o → o.number ≡ n → ticket_of n m.tickets ≡ Some (ticket o)
ticket_here dom store book m n k o h are e q = sym (ap (λ (z : Machine). ticket_of n z.tickets) h.is) ∙ ticket_at n k book.tickets.open_ones.items o are.once e q

pub no_ticket : {S : Type 0} (dom : Operations S) (store : Store S) (book : Book) (m : Machine) (n : ℕ) → Holds dom store book m → ticket_of n (tickets book.tickets) ≡ None → ticket_of n m.tickets ≡ None
no_ticket dom store book m n h e = sym (ap (λ (z : Machine). ticket_of n z.tickets) h.is) ∙ e

module _ {S : Type 0} (dom : Operations S) (book : Book) (store : Store S) where
  -- why no ticket is opened
  pub ask_refused : (m : Machine) (l : Location) (string : List ℕ) (e : QueryError) → Holds dom store book m → length book.tickets.open_ones.items < 16 → IsRefused (answer dom (flow_in book).engine (flow_in book).program l string) e →
      StaysUnopened dom m (Holds dom store book) string (refusal_in (answer_at dom l string m)) (ask_error e)
  ask_refused m l string (Refused r) h few is = (ap refusal_in (sym (answer_here dom book store m l string h) ∙ is), inr (let n = tickets_count dom store book m h in omega arith), h)
  ask_refused m l string Memory h few is = h

  -- one is opened
  pub opened_holds : (t : Tickets Course) (q : Question) (c : Option Course) (m : Machine) → Holds dom store book m →
      t.open_ones.items ≡ book.tickets.open_ones.items ++ record { number = book.tickets.next; question = q; going = c } ∷ [] → t.next ≡ book.tickets.next + 1 → Holds dom store (record book { tickets = t }) (with_ticket q m)
  opened_holds t q c m h items next =
      let n : book.tickets.next ≡ m.next_ticket = ap (λ (z : Machine). z.next_ticket) h.is in
      let here : tickets book.tickets ≡ m.tickets = ap (λ (z : Machine). z.tickets) h.is in
      let o : OpenTicket Course = record { number = book.tickets.next; question = q; going = c } in
      ticketed_holds dom store book t (m.tickets ++ record { number = m.next_ticket; question = q } ∷ []) (suc m.next_ticket) m h
      (ap (map ticket) items ∙ (map_push ticket book.tickets.open_ones.items o ∙ (ap (λ ts. ts ++ ticket o ∷ []) here ∙ ap (λ k. m.tickets ++ record { number = k; question = q } ∷ []) n)))
      (omega arith)

  pub opened_ready : (t : Tickets Course) (q : Question) (c : Option Course) → IsReady dom store book → AreOpen t → IfSome c (HasComeFar dom (flow_in book) store q) →
      t.open_ones.items ≡ book.tickets.open_ones.items ++ record { number = book.tickets.next; question = q; going = c } ∷ [] → IsReady dom store (record book { tickets = t })
  opened_ready t q c r are course items =
      ticketed_ready dom store book t r are (subst (AreWaiting dom (flow_in book) store) (sym items) (waiting_push dom (flow_in book) store book.tickets.open_ones.items (record { number = book.tickets.next; question = q; going = c }) r.waiting course))

  -- one is closed
  pub closed_holds : (t : Tickets Course) (n : ℕ) (m : Machine) → Holds dom store book m → tickets t ≡ without_ticket n (tickets book.tickets) → t.next ≡ book.tickets.next → Holds dom store (record book { tickets = t }) (after_close n m)
  closed_holds t n m h e next =
      ticketed_holds dom store book t (without_ticket n m.tickets) m.next_ticket m h (e ∙ ap (λ (z : Machine). without_ticket n z.tickets) h.is) (next ∙ ap (λ (z : Machine). z.next_ticket) h.is)

  pub closed_ready : (t : Tickets Course) (k : ℕ) → IsReady dom store book → AreOpen t → t.open_ones.items ≡ take k book.tickets.open_ones.items ++ drop (k + 1) book.tickets.open_ones.items → IsReady dom store (record book { tickets = t })
  closed_ready t k r are items = ticketed_ready dom store book t r are (subst (AreWaiting dom (flow_in book) store) (sym items) (waiting_rest dom (flow_in book) store k book.tickets.open_ones.items r.waiting))

-- A ticket that asks at one place is stepped.
module _ {S : Type 0} (dom : Operations S) (book : Book) (store new : Store S) (l : Location) (string : List ℕ) (ts : List Target) (count : ℕ) (checked : IsChecked (flow_in book).program) (a : IsAsked (flow_in book).program l string ts) (f : Fills dom (flow_in book) ts store new count) (law : FillingKeeps dom) (m : Machine) (h : Holds dom store book m) where
  -- more is missing
  pub pending_holds : (t : Tickets Course) (most : ℕ) → tickets t ≡ tickets book.tickets → t.next ≡ book.tickets.next → count ≡ most → most < length (missing_at dom l string m) → Holds dom new (record book { tickets = t; cost = count }) (with_filled (take most (missing_at dom l string m)) m)
  pending_holds t most e n c more =
      let ms = missing_at dom l string m in
      retold_holds dom new (record book { cost = count }) t (with_filled (take most ms) m)
      (subst (λ k. Holds dom new (record book { cost = count }) (keeping (m.kept ++ take k ms) (length (take k ms)) m)) c
      (subst (λ k. Holds dom new (record book { cost = count }) (keeping (m.kept ++ take count ms) k m)) (sym (length-take-le count ms (omega arith))) (keeping_holds dom book store new l string ts count checked a f law m count h)))
      e n

  -- nothing is
  pub done_holds : (t : Tickets Course) (n : ℕ) → tickets t ≡ without_ticket n (tickets book.tickets) → t.next ≡ book.tickets.next → count ≡ length (missing_at dom l string m) → Holds dom new (record book { tickets = t; cost = count }) (after_close n (after_question dom l string m))
  done_holds t n e next c = closed_holds dom (record book { cost = count }) new t n (after_question dom l string m) (asked_holds dom book store new l string ts count checked a f law m count h c c) e next
