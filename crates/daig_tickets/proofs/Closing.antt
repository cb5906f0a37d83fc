-- A ticket less.
use Rattle.std.proofs.Common.{◌≡◌, ◌≢◌, ℕ, zero, suc, ◌≤◌, List, [], ◌∷◌, ◌++◌, map, length, take, drop, Option, Some, None, if◌then◌else◌, slice_get, refl, sym, ap, subst, ◌∙◌, arith}
use Rattle.std.specs.Prelude.{MatchOption}
use Rattle.base_values.proofs.Cases.{by_test}
use Rattle.imp_slots.specs.Fits.{Absent, Distinct}
use Rattle.daig_machine.specs.Machine.{ticket_of, without_ticket}
use Rattle.daig_tickets.specs.declared.tickets.OpenTicket.{OpenTicket}
use Rattle.daig_tickets.specs.declared.tickets.Tickets.{Tickets}
use Rattle.daig_tickets.specs.Tickets.{number, ticket, AreBelow, tickets, AreOpen, IsAt, IsPlaced}
use Rattle.std.proofs.lemmas.Option.{same_Some}

module _ {G : Type 0} where
  rest_below : (n k : ℕ) (os : List (OpenTicket G)) → AreBelow n os → AreBelow n (take k os ++ drop (suc k) os)
  rest_below n zero [] a = tt
  rest_below n zero (o ∷ os) a = a.1
  rest_below n (suc k) [] a = tt
  rest_below n (suc k) (o ∷ os) a = (a.0, rest_below n k os a.1)

  rest_absent : (n k : ℕ) (os : List (OpenTicket G)) → Absent n (map number os) → Absent n (map number (take k os ++ drop (suc k) os))
  rest_absent n zero [] a = tt
  rest_absent n zero (o ∷ os) a = a.1
  rest_absent n (suc k) [] a = tt
  rest_absent n (suc k) (o ∷ os) a = (a.0, rest_absent n k os a.1)

  rest_distinct : (k : ℕ) (os : List (OpenTicket G)) → Distinct (map number os) → Distinct (map number (take k os ++ drop (suc k) os))
  rest_distinct zero [] d = tt
  rest_distinct zero (o ∷ os) d = d.1
  rest_distinct (suc k) [] d = tt
  rest_distinct (suc k) (o ∷ os) d = (rest_absent o.number k os d.0, rest_distinct k os d.1)

  rest_less : (k : ℕ) (os : List (OpenTicket G)) → length (take k os ++ drop (suc k) os) ≤ length os
  rest_less zero [] = omega arith
  rest_less zero (o ∷ os) = omega arith
  rest_less (suc k) [] = omega arith
  rest_less (suc k) (o ∷ os) = let h = rest_less k os in omega arith

  pub closes : (t u : Tickets G) (k : ℕ) → AreOpen t → u.open_ones.items ≡ take k t.open_ones.items ++ drop (suc k) t.open_ones.items → u.next ≡ t.next → AreOpen u
  closes t u k are items next =
      let less = rest_less k t.open_ones.items in
      let len : length u.open_ones.items ≡ length (take k t.open_ones.items ++ drop (suc k) t.open_ones.items) = ap length items in
      record {
        few = let f = are.few in omega arith;
        once = subst (λ (xs : List (OpenTicket G)). Distinct (map number xs)) (sym items) (rest_distinct k t.open_ones.items are.once);
        below = subst (AreBelow u.next) (sym items) (rest_below u.next k t.open_ones.items (subst (λ n. AreBelow n t.open_ones.items) (sym next) are.below));
      }

  -- a number that no ticket has
  without_absent : (n : ℕ) (os : List (OpenTicket G)) → Absent n (map number os) → without_ticket n (map ticket os) ≡ map ticket os
  without_absent n [] a = refl
  without_absent n (o ∷ os) a = by_test o.number n (λ b. (if b then without_ticket n (map ticket os) else ticket o ∷ without_ticket n (map ticket os)) ≡ ticket o ∷ map ticket os) (λ e. absurd (a.0 (sym e))) (λ e. ap (λ ts. ticket o ∷ ts) (without_absent n os a.1))

  absent_at : (n k : ℕ) (os : List (OpenTicket G)) (o : OpenTicket G) → Absent n (map number os) → slice_get os k ≡ Some o → o.number ≢ n
  absent_at n k [] o a e = absurd cc
  absent_at n zero (x ∷ xs) o a e = λ h. a.0 (sym h ∙ ap (λ (y : OpenTicket G). y.number) (sym (same_Some x o e)))
  absent_at n (suc k) (x ∷ xs) o a e = absent_at n k xs o a.1 e

  pub without_is : (n k : ℕ) (os : List (OpenTicket G)) (o : OpenTicket G) → Distinct (map number os) → slice_get os k ≡ Some o → o.number ≡ n → map ticket (take k os ++ drop (suc k) os) ≡ without_ticket n (map ticket os)
  without_is n k [] o d e h = absurd cc
  without_is n zero (x ∷ xs) o d e h =
      let q : x.number ≡ n = ap (λ (y : OpenTicket G). y.number) (same_Some x o e) ∙ h in
      by_test x.number n (λ b. map ticket xs ≡ (if b then without_ticket n (map ticket xs) else ticket x ∷ without_ticket n (map ticket xs))) (λ i. sym (without_absent n xs (subst (λ m. Absent m (map number xs)) q d.0))) (λ i. absurd (i q))
  without_is n (suc k) (x ∷ xs) o d e h =
      by_test x.number n (λ b. ticket x ∷ map ticket (take k xs ++ drop (suc k) xs) ≡ (if b then without_ticket n (map ticket xs) else ticket x ∷ without_ticket n (map ticket xs)))
      (λ i. absurd (absent_at x.number k xs o d.0 e (h ∙ sym i)))
      (λ i. ap (λ ts. ticket x ∷ ts) (without_is n k xs o d.1 e h))

  pub closed_is : (t u : Tickets G) (k n : ℕ) → AreOpen t → u.open_ones.items ≡ take k t.open_ones.items ++ drop (suc k) t.open_ones.items → IsAt t n k → tickets u ≡ without_ticket n (tickets t)
  closed_is t u k n are items at = ap (map ticket) items ∙ without_is n k t.open_ones.items at.one are.once at.there at.same

  -- the place of a number is that of its ticket
  none_of : (n : ℕ) (os : List (OpenTicket G)) → ((i : ℕ) (o : OpenTicket G) → slice_get os i ≡ Some o → o.number ≢ n) → ticket_of n (map ticket os) ≡ None
  none_of n [] h = refl
  none_of n (o ∷ os) h = by_test o.number n (λ b. (if b then Some (ticket o) else ticket_of n (map ticket os)) ≡ None) (λ e. absurd (h 0 o refl e)) (λ e. none_of n os (λ i p q. h (suc i) p q))

  pub placed_none : (t : Tickets G) (n : ℕ) → IsPlaced n t.open_ones.items None → ticket_of n (tickets t) ≡ None
  placed_none t n h = none_of n t.open_ones.items h

  pub placed_some : (t : Tickets G) (n place : ℕ) → IsPlaced n t.open_ones.items (Some place) → IsAt t n place
  placed_some t n place p = record { one = p.0; there = p.1; same = p.2 }

  pub placed : (t : Tickets G) (n : ℕ) (r : Option ℕ) → IsPlaced n t.open_ones.items r → MatchOption r (ticket_of n (tickets t) ≡ None) (IsAt t n)
  placed t n None p = placed_none t n p
  placed t n (Some k) p = placed_some t n k p
