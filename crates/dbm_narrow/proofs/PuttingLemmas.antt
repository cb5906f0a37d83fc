-- What is put at both nodes of a slot, and what that makes of the bounds to and from another slot's nodes.
use Rattle.std.specs.Prelude.{◌≡◌, ℕ, ◌<◌, ◌≤◌, ◌+◌, ◌*◌, ℤ, ◌+ℤ◌, ◌⊎◌, List, length, slice_set, refl}
use Rattle.std.specs.Int.{int_min}
use Rattle.std.proofs.Common.{arith, ap, sym, subst, ◌∙◌, inl, inr, get_or-set_other, get_or-set_same, length-set}
use Rattle.std.proofs.lemmas.Bool.{cases_lt}
use Rattle.dbm_core.specs.Nodes.{flip}
use Rattle.dbm_narrow.proofs.EntryLemmas.{entry-more, min-entry, pair-is_entry, settle-sum}
use Rattle.dbm_narrow.proofs.MiddleLemmas.{AreWays, flip-first, flip-second}
use Rattle.dbm_narrow.specs.Between.{IsBetween}
use Rattle.dbm_narrow.specs.declared.between.Between.{Between}
use Rattle.dbm_narrow.specs.declared.middle.Middle.{Middle}
use Rattle.dbm_narrow.specs.Entries.{AreEntries, IsEntry, at, pair_at, settle}
use Rattle.dbm_narrow.specs.Middles.{IsNarrowMiddle}
use Rattle.dbm_narrow.specs.Putting.{IsNarrowBetween, PutsFrom, PutsTo, PutsTwo}

module _ (unit : ℕ) (room : 0 < unit) where
  pub two-put : (xs : List ℤ) (s : ℕ) (x y : ℤ) → 2 * s + 1 < length xs → PutsTwo unit s x y xs (slice_set (slice_set xs (2 * s) x) (2 * s + 1) y)
  two-put xs s x y l =
      let m : 2 * s < length xs = omega arith in
      let k : 2 * s + 1 < length (slice_set xs (2 * s) x) = omega (arith, length-set xs (2 * s) x) in
      let n : 2 * s ≡ 2 * s + 1 → ⊥ = λ e. absurd (omega arith) in
      record {
        even = rw get_or-set_other (rw get_or-set_same refl);
        odd = rw get_or-set_same refl;
        rest = λ j h. let a : j ≡ 2 * s + 1 → ⊥ = λ e. odd j h e in let b : j ≡ 2 * s → ⊥ = λ e. even j h e in rw get_or-set_other (rw get_or-set_other refl);
      }
    where
      odd : (j : ℕ) → (j < 2 * s) ⊎ (2 * s + 2 ≤ j) → j ≡ 2 * s + 1 → ⊥
      odd j (inl h) e = absurd (omega arith)
      odd j (inr h) e = absurd (omega arith)

      even : (j : ℕ) → (j < 2 * s) ⊎ (2 * s + 2 ≤ j) → j ≡ 2 * s → ⊥
      even j (inl h) e = absurd (omega arith)
      even j (inr h) e = absurd (omega arith)

  pub puts-same : (s : ℕ) (x y z w : ℤ) (xs ys : List ℤ) → PutsTwo unit s x y xs ys → x ≡ z → y ≡ w → PutsTwo unit s z w xs ys
  puts-same s x y z w xs ys p e f = record { even = p.even ∙ e; odd = p.odd ∙ f; rest = p.rest }

  -- ---- what code reads

  pub read-lesser : (r p x u v : ℤ) → r ≡ int_min x p → p ≡ settle unit (u +ℤ v) → r ≡ int_min x (settle unit (u +ℤ v))
  read-lesser r p x u v e s = e ∙ ap (int_min x) s

  -- ---- one slot

  -- what holds of all columns before a slot holds of its two as well
  put-columns : (f : ℕ → ℤ) (s : ℕ) (x y : ℤ) (xs ys : List ℤ) → ((k : ℕ) → k < 2 * s → at unit xs k ≡ f k) → PutsTwo unit s x y xs ys → x ≡ f (2 * s) → y ≡ f (2 * s + 1) → (k : ℕ) → k < 2 * (s + 1) → at unit ys k ≡ f k
  put-columns f s x y xs ys h p e g k l = elim (cases_lt k (2 * s)) [
    | inl m ↦ p.rest k (inl m) ∙ h k m
    | inr m ↦ elim (cases_lt k (2 * s + 1)) [
      | inl n ↦ let t : k ≡ 2 * s = omega arith in rw t (p.even ∙ e)
      | inr n ↦ let t : k ≡ 2 * s + 1 = omega arith in rw t (p.odd ∙ g)
    ]
  ]

  put-entries : (b s : ℕ) (x y : ℤ) (xs ys : List ℤ) → AreEntries unit b xs → PutsTwo unit s x y xs ys → IsEntry unit b x → IsEntry unit b y → AreEntries unit b ys
  put-entries b s x y xs ys h p hx hy k = elim (cases_lt k (2 * s)) [
    | inl m ↦ subst (IsEntry unit b) (sym (p.rest k (inl m))) (h k)
    | inr m ↦ elim (cases_lt k (2 * s + 1)) [
      | inl n ↦ let t : k ≡ 2 * s = omega arith in rw t (subst (IsEntry unit b) (sym p.even) hx)
      | inr n ↦ elim (cases_lt k (2 * s + 2)) [
        | inl o ↦ let t : k ≡ 2 * s + 1 = omega arith in rw t (subst (IsEntry unit b) (sym p.odd) hy)
        | inr o ↦ subst (IsEntry unit b) (sym (p.rest k (inr o))) (h k)
      ]
    ]
  ]

  -- the lesser of a bound and of two in a row
  lesser-entry : (x u v : ℤ) → IsEntry unit (2 * unit) x → IsEntry unit (2 * unit) u → IsEntry unit (2 * unit) v → IsEntry unit (4 * unit) (int_min x (settle unit (u +ℤ v)))
  lesser-entry x u v p q r = min-entry unit room (4 * unit) x (settle unit (u +ℤ v)) (entry-more unit room (2 * unit) (4 * unit) x (omega arith) p) (entry-more unit room (2 * unit + 2 * unit) (4 * unit) (settle unit (u +ℤ v)) (omega arith) (settle-sum unit room (2 * unit) (2 * unit) u v (omega arith) q r))

  -- ---- all four

  pub narrow-between : {W : Type 0} → (xs : List ℤ) (q s : ℕ) (b : Between W) → AreEntries unit (2 * unit) xs → IsBetween unit xs q s b → IsNarrowBetween unit b
  narrow-between xs q s b h p = record {
    first_even = subst (IsEntry unit (2 * unit)) (sym p.first_even) (pair-is_entry unit room (2 * unit) xs (2 * q) (2 * s) h);
    first_odd = subst (IsEntry unit (2 * unit)) (sym p.first_odd) (pair-is_entry unit room (2 * unit) xs (2 * q) (2 * s + 1) h);
    second_even = subst (IsEntry unit (2 * unit)) (sym p.second_even) (pair-is_entry unit room (2 * unit) xs (2 * q + 1) (2 * s) h);
    second_odd = subst (IsEntry unit (2 * unit)) (sym p.second_odd) (pair-is_entry unit room (2 * unit) xs (2 * q + 1) (2 * s + 1) h);
  }

  pub narrow-put : {W : Type 0} → (s : ℕ) (b : Between W) (ahead back : ℤ) (l m n : Middle W) → IsNarrowMiddle unit l → IsNarrowBetween unit b → IsEntry unit (2 * unit) ahead → IsEntry unit (2 * unit) back → PutsFrom unit s b back l m → PutsTo unit s b ahead m n → IsNarrowMiddle unit n
  narrow-put s b ahead back l m n h p ha hb f t = record {
    to_first = put-entries (6 * unit) s b.second_odd b.second_even l.to_first n.to_first h.to_first (subst (λ z. PutsTwo unit s b.second_odd b.second_even z n.to_first) f.to_first t.first) (more (2 * unit) (6 * unit) b.second_odd (omega arith) p.second_odd) (more (2 * unit) (6 * unit) b.second_even (omega arith) p.second_even);
    from_first = subst (AreEntries unit (8 * unit)) (sym t.from_first) (put-entries (8 * unit) s b.first_even b.first_odd l.from_first m.from_first h.from_first f.first (more (2 * unit) (8 * unit) b.first_even (omega arith) p.first_even) (more (2 * unit) (8 * unit) b.first_odd (omega arith) p.first_odd));
    to_second = put-entries (6 * unit) s _ _ l.to_second n.to_second h.to_second
        (subst (λ z. PutsTwo unit s (int_min b.first_odd (settle unit (ahead +ℤ b.second_odd))) (int_min b.first_even (settle unit (ahead +ℤ b.second_even))) z n.to_second) f.to_second t.second)
        (more (4 * unit) (6 * unit) _ (omega arith) (lesser-entry b.first_odd ahead b.second_odd p.first_odd ha p.second_odd)) (more (4 * unit) (6 * unit) _ (omega arith) (lesser-entry b.first_even ahead b.second_even p.first_even ha p.second_even));
    from_second = subst (AreEntries unit (8 * unit)) (sym t.from_second)
        (put-entries (8 * unit) s _ _ l.from_second m.from_second h.from_second f.second
        (more (4 * unit) (8 * unit) _ (omega arith) (lesser-entry b.second_even back b.first_even p.second_even hb p.first_even)) (more (4 * unit) (8 * unit) _ (omega arith) (lesser-entry b.second_odd back b.first_odd p.second_odd hb p.first_odd)));
  }
    where
      more : (a c : ℕ) (x : ℤ) → a ≤ c → IsEntry unit a x → IsEntry unit c x
      more a c x l p = entry-more unit room a c x l p

  pub ways-none : {W : Type 0} → (xs : List ℤ) (q : ℕ) (m : Middle W) → AreWays unit room 0 xs q m
  ways-none xs q m = record {
    first = λ k l. absurd (omega arith);
    to_first = λ k l. absurd (omega arith);
    to_second = λ k l. absurd (omega arith);
    from_second = λ k l. absurd (omega arith);
  }

  -- the bounds of one slot more
  pub ways-next : {W : Type 0} → (xs : List ℤ) (q s : ℕ) (b : Between W) (ahead back : ℤ) (l m n : Middle W) → AreWays unit room (2 * s) xs q l → IsBetween unit xs q s b → ahead ≡ pair_at unit xs (2 * q) (2 * q + 1) → back ≡ pair_at unit xs (2 * q + 1) (2 * q) →
      PutsFrom unit s b back l m → PutsTo unit s b ahead m n → AreWays unit room (2 * (s + 1)) xs q n
  ways-next xs q s b ahead back l m n w p ea eb f t = record {
    first = subst (λ z. (k : ℕ) → k < 2 * (s + 1) → at unit z k ≡ pair_at unit xs (2 * q) k) (sym t.from_first) (put-columns (pair_at unit xs (2 * q)) s b.first_even b.first_odd l.from_first m.from_first w.first f.first p.first_even p.first_odd);
    to_first = put-columns (λ k. pair_at unit xs (2 * q + 1) (flip k)) s b.second_odd b.second_even l.to_first n.to_first w.to_first (subst (λ z. PutsTwo unit s b.second_odd b.second_even z n.to_first) f.to_first t.first)
        (p.second_odd ∙ ap (pair_at unit xs (2 * q + 1)) (sym (flip-first unit room s))) (p.second_even ∙ ap (pair_at unit xs (2 * q + 1)) (sym (flip-second unit room s)));
    to_second = put-columns to s _ _ l.to_second n.to_second w.to_second
        (subst (λ z. PutsTwo unit s (int_min b.first_odd (settle unit (ahead +ℤ b.second_odd))) (int_min b.first_even (settle unit (ahead +ℤ b.second_even))) z n.to_second) f.to_second t.second)
        (lesser-same b.first_odd ahead b.second_odd (2 * q) (2 * s + 1) (flip (2 * s)) (p.first_odd) ea (p.second_odd) (sym (flip-first unit room s)))
        (lesser-same b.first_even ahead b.second_even (2 * q) (2 * s) (flip (2 * s + 1)) (p.first_even) ea (p.second_even) (sym (flip-second unit room s)));
    from_second = subst (λ z. (k : ℕ) → k < 2 * (s + 1) → at unit z k ≡ from k) (sym t.from_second)
        (put-columns from s _ _ l.from_second m.from_second w.from_second f.second
        (back-same b.second_even b.first_even (2 * s) p.second_even p.first_even) (back-same b.second_odd b.first_odd (2 * s + 1) p.second_odd p.first_odd));
  }
    where
      to : ℕ → ℤ
      to k = int_min (pair_at unit xs (2 * q) (flip k)) (settle unit (pair_at unit xs (2 * q) (2 * q + 1) +ℤ pair_at unit xs (2 * q + 1) (flip k)))

      from : ℕ → ℤ
      from k = int_min (pair_at unit xs (2 * q + 1) k) (settle unit (pair_at unit xs (2 * q + 1) (2 * q) +ℤ pair_at unit xs (2 * q) k))

      lesser-same : (x u v : ℤ) (i j k : ℕ) → x ≡ pair_at unit xs (2 * q) j → u ≡ pair_at unit xs (2 * q) (2 * q + 1) → v ≡ pair_at unit xs (2 * q + 1) j → j ≡ k → int_min x (settle unit (u +ℤ v)) ≡ int_min (pair_at unit xs (2 * q) k) (settle unit (pair_at unit xs (2 * q) (2 * q + 1) +ℤ pair_at unit xs (2 * q + 1) k))
      lesser-same x u v i j k ex eu ev e = subst (λ k. int_min x (settle unit (u +ℤ v)) ≡ int_min (pair_at unit xs (2 * q) k) (settle unit (pair_at unit xs (2 * q) (2 * q + 1) +ℤ pair_at unit xs (2 * q + 1) k))) e
          (ap (λ z. int_min z (settle unit (u +ℤ v))) ex ∙ ap (λ z. int_min (pair_at unit xs (2 * q) j) (settle unit (z +ℤ v))) eu ∙ ap (λ z. int_min (pair_at unit xs (2 * q) j) (settle unit (pair_at unit xs (2 * q) (2 * q + 1) +ℤ z))) ev)

      back-same : (x v : ℤ) (k : ℕ) → x ≡ pair_at unit xs (2 * q + 1) k → v ≡ pair_at unit xs (2 * q) k → int_min x (settle unit (back +ℤ v)) ≡ int_min (pair_at unit xs (2 * q + 1) k) (settle unit (pair_at unit xs (2 * q + 1) (2 * q) +ℤ pair_at unit xs (2 * q) k))
      back-same x v k ex ev = ap (λ z. int_min z (settle unit (back +ℤ v))) ex ∙ ap (λ z. int_min (pair_at unit xs (2 * q + 1) k) (settle unit (z +ℤ v))) eb ∙ ap (λ z. int_min (pair_at unit xs (2 * q + 1) k) (settle unit (pair_at unit xs (2 * q + 1) (2 * q) +ℤ z))) ev
