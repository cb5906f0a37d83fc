-- A ticket more.
use Rattle.std.proofs.Common.{◌≡◌, ◌≢◌, ℕ, suc, ◌+◌, ◌<◌, ◌≤◌, List, [], ◌∷◌, ◌++◌, map, length, sym, ap, subst, ◌∙◌, arith}
use Rattle.imp_slots.specs.Fits.{Absent, Distinct}
use Rattle.daig_tickets.specs.declared.tickets.OpenTicket.{OpenTicket}
use Rattle.daig_tickets.specs.declared.tickets.Tickets.{Tickets}
use Rattle.daig_tickets.specs.Tickets.{number, AreBelow, AreOpen}
use Rattle.base_values.proofs.Lists.{one_more}

module _ {G : Type 0} where
  above : (n : ℕ) (os : List (OpenTicket G)) → AreBelow n os → Absent n (map number os)
  above n [] a = tt
  above n (o ∷ os) a = ((λ e. let h : o.number < n = a.0 in absurd (omega arith)), above n os a.1)

  end_absent : (n : ℕ) (os : List (OpenTicket G)) (o : OpenTicket G) → Absent n (map number os) → n ≢ o.number → Absent n (map number (os ++ o ∷ []))
  end_absent n [] o a h = (h, tt)
  end_absent n (x ∷ xs) o a h = (a.0, end_absent n xs o a.1 h)

  end_distinct : (os : List (OpenTicket G)) (o : OpenTicket G) → Distinct (map number os) → Absent o.number (map number os) → Distinct (map number (os ++ o ∷ []))
  end_distinct [] o d a = (tt, tt)
  end_distinct (x ∷ xs) o d a = (end_absent x.number xs o d.0 (λ e. a.0 (sym e)), end_distinct xs o d.1 a.1)

  more_below : (m n : ℕ) → m ≤ n → (os : List (OpenTicket G)) → AreBelow m os → AreBelow n os
  more_below m n h [] a = tt
  more_below m n h (o ∷ os) a = (let low : o.number < m = a.0 in omega arith, more_below m n h os a.1)

  end_below : (n : ℕ) (os : List (OpenTicket G)) (o : OpenTicket G) → AreBelow n os → o.number < n → AreBelow n (os ++ o ∷ [])
  end_below n [] o a h = (h, tt)
  end_below n (x ∷ xs) o a h = (a.0, end_below n xs o a.1 h)

  -- the ticket of the next number comes after the others
  pub opens : (t u : Tickets G) (o : OpenTicket G) → AreOpen t → length t.open_ones.items < 16 → u.open_ones.items ≡ t.open_ones.items ++ o ∷ [] → o.number ≡ t.next → u.next ≡ t.next + 1 → AreOpen u
  opens t u o are few items is next =
      let os = t.open_ones.items in
      let low : o.number < u.next = omega arith in
      let len : length u.open_ones.items ≡ suc (length t.open_ones.items) = ap length items ∙ one_more t.open_ones.items o in
      record {
        few = omega arith;
        once = subst (λ (xs : List (OpenTicket G)). Distinct (map number xs)) (sym items) (end_distinct t.open_ones.items o are.once (subst (λ n. Absent n (map number t.open_ones.items)) (sym is) (above t.next t.open_ones.items are.below)));
        below = subst (AreBelow u.next) (sym items) (end_below u.next t.open_ones.items o (more_below t.next u.next (omega arith) t.open_ones.items are.below) low);
      }
