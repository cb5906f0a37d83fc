-- Tickets that keep their numbers.
use Rattle.std.proofs.Common.{◌≡◌, ℕ, zero, suc, ◌<◌, List, [], ◌∷◌, map, length, Some, slice_get, slice_set, get_or, refl, sym, ap, subst, ◌∙◌, arith}
use Rattle.std.proofs.lemmas.List.{length-map}
use Rattle.imp_slots.specs.Fits.{Distinct}
use Rattle.daig_tickets.specs.declared.tickets.OpenTicket.{OpenTicket}
use Rattle.daig_tickets.specs.declared.tickets.Tickets.{Tickets}
use Rattle.daig_tickets.specs.Tickets.{anew, number, ticket, AreBelow, AreOpen}
use Rattle.std.proofs.lemmas.Option.{same_Some, get_or_from_slice_get}

module _ {G : Type 0} where
  numbers_below : (n : ℕ) (os us : List (OpenTicket G)) → map number us ≡ map number os → AreBelow n os → AreBelow n us
  numbers_below n [] [] e a = tt
  numbers_below n [] (u ∷ us) e a = absurd cc
  numbers_below n (o ∷ os) [] e a = absurd cc
  numbers_below n (o ∷ os) (u ∷ us) e a =
      let h : u.number ≡ o.number = cc in
      let rest : map number us ≡ map number os = cc in
      let low : o.number < n = a.0 in
      (omega arith, numbers_below n os us rest a.1)

  -- tickets with the same numbers are open
  pub still_open : (t u : Tickets G) → AreOpen t → map number u.open_ones.items ≡ map number t.open_ones.items → u.next ≡ t.next → AreOpen u
  still_open t u are e next =
      let k : length u.open_ones.items ≡ length t.open_ones.items = sym (length-map u.open_ones.items number) ∙ (ap length e ∙ length-map t.open_ones.items number) in
      record {
        few = let f = are.few in omega arith;
        once = subst Distinct (sym e) are.once;
        below = subst (λ n. AreBelow n u.open_ones.items) (sym next) (numbers_below t.next t.open_ones.items u.open_ones.items e are.below);
      }

  pub numbers_anew : (os : List (OpenTicket G)) → map number (map anew os) ≡ map number os
  numbers_anew [] = refl
  numbers_anew (o ∷ os) = ap (λ ns. o.number ∷ ns) (numbers_anew os)

  pub tickets_anew : (os : List (OpenTicket G)) → map ticket (map anew os) ≡ map ticket os
  tickets_anew [] = refl
  tickets_anew (o ∷ os) = ap (λ ts. ticket o ∷ ts) (tickets_anew os)

  -- a ticket with something else done for it
  pub numbers_set : (os : List (OpenTicket G)) (k : ℕ) (o u : OpenTicket G) → slice_get os k ≡ Some o → u.number ≡ o.number → map number (slice_set os k u) ≡ map number os
  numbers_set [] k o u e h = refl
  numbers_set (x ∷ xs) zero o u e h = ap (λ n. n ∷ map number xs) (h ∙ sym (ap number (same_Some x o e)))
  numbers_set (x ∷ xs) (suc k) o u e h = ap (λ ns. x.number ∷ ns) (numbers_set xs k o u e h)

  pub tickets_set : (os : List (OpenTicket G)) (k : ℕ) (o u : OpenTicket G) → slice_get os k ≡ Some o → ticket u ≡ ticket o → map ticket (slice_set os k u) ≡ map ticket os
  tickets_set [] k o u e h = refl
  tickets_set (x ∷ xs) zero o u e h = ap (λ t. t ∷ map ticket xs) (h ∙ sym (ap ticket (same_Some x o e)))
  tickets_set (x ∷ xs) (suc k) o u e h = ap (λ ts. ticket x ∷ ts) (tickets_set xs k o u e h)

  pub set_there : (os : List (OpenTicket G)) (k : ℕ) (o u : OpenTicket G) → slice_get os k ≡ Some o → slice_get (slice_set os k u) k ≡ Some u
  set_there [] k o u e = absurd cc
  set_there (x ∷ xs) zero o u e = refl
  set_there (x ∷ xs) (suc k) o u e = set_there xs k o u e

  -- what is read at a place
  pub read_is : (us : List (OpenTicket G)) (k : ℕ) (x y : OpenTicket G) → x ≡ get_or us k x → slice_get us k ≡ Some y → x ≡ y
  read_is us k x y e s = e ∙ get_or_from_slice_get us k y x s
