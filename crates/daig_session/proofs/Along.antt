-- Tickets of reports: a step along their places.
use Rattle.std.proofs.Common.{◌≡◌, ℕ, ◌<◌, ◌≤◌, Bool, true, false, List, ◌++◌, map, take, length, Some, None, slice_get, slice_set, refl, sym, ap, subst, ◌∙◌, arith}
use Rattle.std.proofs.Math.Seq.{take-length}
use Rattle.std.proofs.lemmas.List.{length-take-le}
use Rattle.domain_laws.specs.Operations.{Operations}
use Rattle.cell_names.specs.Paths.{CellName}
use Rattle.daig_query.specs.declared.store.Store.{Store}
use Rattle.daig_machine.specs.Machine.{Machine, Ticket, keeping}
use Rattle.daig_machine.specs.Turns.{after_step, missing_asked, missing_in_places, refusal_asked, with_filled, with_names, IsBetween}
use Rattle.daig_machine.specs.declared.question.Question.{Question}
use Rattle.daig_machine.specs.declared.question.Question.TheVariants as asks
use Rattle.daig_tickets.specs.declared.tickets.OpenTicket.{OpenTicket}
use Rattle.daig_tickets.specs.declared.tickets.Tickets.{Tickets}
use Rattle.daig_tickets.specs.Tickets.{number, ticket, tickets}
use Rattle.daig_session.specs.declared.book.Book.{Book}
use Rattle.daig_session.specs.declared.course.Course.{Course}
use Rattle.daig_session.specs.declared.course.Kind.{Kind}
use Rattle.daig_session.specs.declared.course.Kind.TheVariants as kind
use Rattle.daig_session.specs.Books.{flow_in}
use Rattle.daig_session.specs.Going.{AreWaiting, HasComeFar, IsOfKind}
use Rattle.daig_session.specs.Holds.{Holds, IsReady}
use Rattle.daig_session.specs.Places.{HoldsPart}
use Rattle.daig_session.specs.Tours.{places_in, IsSomeFilled}
use Rattle.daig_session.specs.Turns.{IsPending, IsToJudge}
use Rattle.daig_session.proofs.Filled.{ready_costing}
use Rattle.daig_session.proofs.Reporting.{cost_here, ended_holds, failed_holds, report_missing}
use Rattle.daig_session.proofs.TicketLemmas.{numbers_set, still_open, tickets_set}
use Rattle.daig_session.proofs.Ticketed.{retold_holds, ticketed_ready}
use Rattle.daig_session.proofs.Toured.{all_count, all_some}
use Rattle.daig_session.proofs.Waiting.{waiting_set}

module _ {S : Type 0} (dom : Operations S) (m : Machine) where
  -- what is missing for a report is what is missing of its places
  pub kind_missing : (q : Question) (k : Kind) → IsOfKind q k → missing_in_places dom (places_in k m) m ≡ missing_asked dom q m
  kind_missing (asks.State l s) k h = absurd h
  kind_missing (asks.Why l s) k h = absurd h
  kind_missing asks.Report kind.Checks h = report_missing dom m
  kind_missing asks.Report kind.Faults h = absurd h
  kind_missing (asks.Faults only) kind.Checks h = absurd h
  kind_missing (asks.Faults only) kind.Faults h = refl

  -- the program refuses none
  none_refused : (q : Question) (k : Kind) → IsOfKind q k → refusal_asked dom q m ≡ None
  none_refused (asks.State l s) k h = absurd h
  none_refused (asks.Why l s) k h = absurd h
  none_refused asks.Report k h = refl
  none_refused (asks.Faults only) k h = refl

  module _ (store : Store S) (book : Book) (cost : book.cost ≡ m.cost) (t : Ticket) (k : Kind) (h : IsOfKind t.question k) where
    abbrev all : List CellName
    all = missing_in_places dom (places_in k m) m

    -- memory runs out
    pub between_places : HoldsPart dom m store book (places_in k m) → IsBetween (missing_asked dom t.question m) m (Holds dom store book)
    between_places p = subst (λ xs. IsBetween xs m (Holds dom store book)) (kind_missing t.question k h) (failed_holds dom m store book book.cost (places_in k m) p cost)

    -- nothing is missing any more
    pub to_judge : (most filled : ℕ) → IsSomeFilled dom m store book (places_in k m) most filled true → IsToJudge dom m (Holds dom store book) t most k filled
    to_judge most filled s = record {
      kind_is = h;
      few = subst (λ xs. length xs ≤ most) (kind_missing t.question k h) (s.ends.0 refl);
      filled_is = all_count dom m store book (places_in k m) most filled s ∙ ap length (kind_missing t.question k h);
      after =
          subst (λ xs. Holds dom store book (with_names xs m)) (kind_missing t.question k h) (
          subst (λ n. Holds dom store book (keeping (m.kept ++ all) n m)) cost (all_some dom m store book (places_in k m) most filled s));
    }

    -- more is missing
    pub still_pending : (most filled : ℕ) → IsSomeFilled dom m store book (places_in k m) most filled false → (ts : Tickets Course) → tickets ts ≡ tickets book.tickets → ts.next ≡ book.tickets.next →
        IsPending dom m (Holds dom store (record book { tickets = ts; cost = filled })) t most filled
    still_pending most filled s ts e next =
        let left : most < length all = (let no : length all ≤ most → ⊥ = λ l. (let u : false ≡ true = s.ends.1 l in absurd cc) in omega (arith, no)) in
        let full : filled ≡ most = (let a = s.as_many in omega (arith, a, left)) in
        record {
          filled = full;
          answers = none_refused t.question k h;
          more = subst (λ xs. most < length xs) (kind_missing t.question k h) left;
          after =
              subst (λ xs. Holds dom store (record book { tickets = ts; cost = filled }) (with_filled (take most xs) m)) (kind_missing t.question k h) (
              retold_holds dom store (record book { cost = filled }) ts (with_filled (take most all) m)
              (subst (λ n. Holds dom store (record book { cost = filled }) (with_filled (take n all) m)) full (
              ended_holds dom m store book filled (take filled all) s.some (sym (length-take-le filled all (omega (arith, full, left))))))
              e next);
        }

-- A ticket has come further.
module _ {S : Type 0} (dom : Operations S) (store : Store S) (book : Book) (place : ℕ) (o : OpenTicket Course) (there : slice_get book.tickets.open_ones.items place ≡ Some o) (c : Course) (ts : Tickets Course) (next : ts.next ≡ book.tickets.next)
    (items : ts.open_ones.items ≡ slice_set book.tickets.open_ones.items place (record o { going = Some c })) where
  pub further_tickets : tickets ts ≡ tickets book.tickets
  further_tickets = ap (map ticket) items ∙ tickets_set book.tickets.open_ones.items place o (record o { going = Some c }) there refl

  pub further_ready : IsReady dom store book → HasComeFar dom (flow_in book) store o.question c → (cost : ℕ) → IsReady dom store (record book { tickets = ts; cost = cost })
  further_ready r far cost =
      let os = book.tickets.open_ones.items in
      let more : OpenTicket Course = record o { going = Some c } in
      ready_costing dom store (record book { tickets = ts }) cost (
      ticketed_ready dom store book ts r (still_open book.tickets ts r.order.are_open (ap (map number) items ∙ numbers_set os place o more there refl) next)
      (subst (AreWaiting dom (flow_in book) store) (sym items) (waiting_set dom (flow_in book) store os place more r.waiting far)))
