-- Rows that are gone over one entry after another.
use Rattle.std.specs.Prelude.{◌≡◌, ℕ, ◌<◌, ◌≤◌, ◌+◌, ◌*◌, ℤ, pos, neg_ℤ, ◌≤ℤ◌, ◌<ℤ◌, ◌⊎◌, int_lt, true, List, length, slice_set, refl}
use Rattle.std.specs.Int.{int_min, int_max}
use Rattle.std.proofs.Common.{arith, ap, sym, subst, ◌∙◌, inl, inr, length-set, get_or-set_other, get_or-set_same}
use Rattle.std.proofs.lemmas.Int.{ints}
use Rattle.std.proofs.lemmas.Bool.{cases_lt}
use Rattle.std.proofs.lemmas.List.{get_or_past}
use Rattle.dbm_narrow.proofs.EntryLemmas.{entry-more, strengthened-entry, through-entry}
use Rattle.dbm_narrow.specs.Entries.{AreEntries, IsEntry, at, none, or_zero, strengthened_by}
use Rattle.dbm_narrow.specs.Rows.{AreGone, through_at}

module _ (unit : ℕ) (room : 0 < unit) where
  -- what is set at a place leaves what is before it, and what is after
  pub done-set : (P : ℕ → ℤ → Type 0) (xs : List ℤ) (i : ℕ) (x : ℤ) → i < length xs → ((k : ℕ) → k < i → P k (at unit xs k)) → P i x → (k : ℕ) → k < i + 1 → P k (at unit (slice_set xs i x) k)
  done-set P xs i x l h p = λ k m. elim (cases_lt k i) [
    | inl q ↦ let n : k ≡ i → ⊥ = λ e. absurd (omega arith) in rw get_or-set_other (h k q)
    | inr q ↦ let e : k ≡ i = omega arith in rw e (rw get_or-set_same p)
  ]

  pub rest-set : (P : ℕ → ℤ → Type 0) (xs : List ℤ) (i : ℕ) (x : ℤ) → ((k : ℕ) → i ≤ k → P k (at unit xs k)) → (k : ℕ) → i + 1 ≤ k → P k (at unit (slice_set xs i x) k)
  rest-set P xs i x h = λ k m. let n : k ≡ i → ⊥ = λ e. absurd (omega arith) in rw get_or-set_other (h k (omega arith))

  -- two set at once
  pub two-set : (P : ℕ → ℤ → Type 0) (xs : List ℤ) (s : ℕ) (x y : ℤ) → 2 * s + 1 < length xs → ((k : ℕ) → k < 2 * s → P k (at unit xs k)) → P (2 * s) x → P (2 * s + 1) y →
      (k : ℕ) → k < 2 * (s + 1) → P k (at unit (slice_set (slice_set xs (2 * s) x) (2 * s + 1) y) k)
  two-set P xs s x y l h p q k m = done-set P (slice_set xs (2 * s) x) (2 * s + 1) y (omega (arith, length-set xs (2 * s) x)) (done-set P xs (2 * s) x (omega arith) h p) q k (omega arith)

  pub two-rest : (P : ℕ → ℤ → Type 0) (xs : List ℤ) (s : ℕ) (x y : ℤ) → ((k : ℕ) → 2 * s ≤ k → P k (at unit xs k)) → (k : ℕ) → 2 * (s + 1) ≤ k → P k (at unit (slice_set (slice_set xs (2 * s) x) (2 * s + 1) y) k)
  two-rest P xs s x y h k m = rest-set P (slice_set xs (2 * s) x) (2 * s + 1) y (rest-set P xs (2 * s) x h) k (omega arith)

  pub two-size : (n : ℕ) (xs : List ℤ) (s : ℕ) (x y : ℤ) → length xs ≡ n → length (slice_set (slice_set xs (2 * s) x) (2 * s + 1) y) ≡ n
  two-size n xs s x y e = length-set (slice_set xs (2 * s) x) (2 * s + 1) y ∙ length-set xs (2 * s) x ∙ e

  wider : (low high x l h : ℤ) → l ≤ℤ low → high ≤ℤ h → (low ≤ℤ x) × (or_zero unit x ≤ℤ high) → (l ≤ℤ x) × (or_zero unit x ≤ℤ h)
  wider low high x l h p q r = let a : low ≤ℤ x = r.0 in let b : or_zero unit x ≤ℤ high = r.1 in (omega (arith, ints), omega (arith, ints))

  min-below_left : (a b : ℤ) → int_min a b ≤ℤ a
  min-below_left a b = grind (arith, ints)

  min-below_right : (a b : ℤ) → int_min a b ≤ℤ b
  min-below_right a b = grind (arith, ints)

  max-above_left : (a b : ℤ) → a ≤ℤ int_max a b
  max-above_left a b = grind (arith, ints)

  max-above_right : (a b : ℤ) → b ≤ℤ int_max a b
  max-above_right a b = grind (arith, ints)

  -- low and high are the extremes of the first j entries
  abbrev pub Spans : List ℤ → ℕ → ℤ → ℤ → Type 0
  Spans xs j low high = (k : ℕ) → k < j → (low ≤ℤ at unit xs k) × (or_zero unit (at unit xs k) ≤ℤ high)

  pub Spans-next : (xs : List ℤ) (j : ℕ) (low high b l h : ℤ) → Spans xs j low high → b ≡ at unit xs j → l ≡ int_min low b → h ≡ int_max high (or_zero unit b) → Spans xs (j + 1) l h
  Spans-next xs j low high b l h p e s t =
      let ll : l ≤ℤ low = subst (λ z. z ≤ℤ low) (sym s) (min-below_left low b) in
      let lb : l ≤ℤ at unit xs j = subst (λ z. l ≤ℤ z) e (subst (λ z. z ≤ℤ b) (sym s) (min-below_right low b)) in
      let hh : high ≤ℤ h = subst (λ z. high ≤ℤ z) (sym t) (max-above_left high (or_zero unit b)) in
      let hb : or_zero unit (at unit xs j) ≤ℤ h = subst (λ z. or_zero unit z ≤ℤ h) e (subst (λ z. or_zero unit b ≤ℤ z) (sym t) (max-above_right high (or_zero unit b))) in
      λ k q. elim (cases_lt k j) [
        | inl m ↦ wider low high (at unit xs k) l h ll hh (p k m)
        | inr m ↦ let o : k ≡ j = omega arith in rw o (lb, hb)
      ]

  below_free : (x : ℤ) → x <ℤ pos (16 * unit) → or_zero unit x ≡ x
  below_free x h = let e : int_lt x (pos (16 * unit)) ≡ true = grind (arith, ints) in rw e refl

  spanned : (b : ℕ) (x : ℤ) → b < 16 * unit → IsEntry unit b x → neg_ℤ (pos (2 * unit)) ≤ℤ x → or_zero unit x ≤ℤ pos (2 * unit) → IsEntry unit (2 * unit) x
  spanned b x s (inl e) l h = inl e
  spanned b x s (inr p) l h = let q : x ≤ℤ pos b = p.1 in inr (l, subst (λ z. z ≤ℤ pos (2 * unit)) (below_free x (omega (arith, ints))) h)

  pub Spans-within : (b : ℕ) (xs : List ℤ) (j : ℕ) (low high : ℤ) → b < 16 * unit → length xs ≤ j → AreEntries unit b xs → Spans xs j low high → neg_ℤ (pos (2 * unit)) ≤ℤ low → high ≤ℤ pos (2 * unit) → AreEntries unit (2 * unit) xs
  Spans-within b xs j low high s m all p l h k = elim (cases_lt k j) [
    | inl q ↦ let r : (neg_ℤ (pos (2 * unit)) ≤ℤ at unit xs k) × (or_zero unit (at unit xs k) ≤ℤ pos (2 * unit)) = wider low high (at unit xs k) (neg_ℤ (pos (2 * unit))) (pos (2 * unit)) l h (p k q) in
        spanned b (at unit xs k) s (all k) r.0 r.1
    | inr q ↦ inl (get_or_past xs k (none unit) (omega arith))
  ]

  -- a row that is the first entries of another
  pub copied-row : (f o xs : List ℤ) (j : ℕ) → length o ≤ j → AreEntries unit (2 * unit) f → AreEntries unit (2 * unit) o → ((k : ℕ) → k < j → at unit xs k ≡ at unit f k) → ((k : ℕ) → j ≤ k → at unit xs k ≡ at unit o k) → AreEntries unit (2 * unit) xs
  copied-row f o xs j l p h done rest k = elim (cases_lt k j) [
    | inl m ↦ subst (IsEntry unit (2 * unit)) (sym (done k m)) (p k)
    | inr m ↦ subst (IsEntry unit (2 * unit)) (sym (rest k m)) (h k)
  ]

  -- ---- entries gone through

  pub gone-value : (r u v u' v' : ℤ) (f g : List ℤ) (j : ℕ) (x : ℤ) → r ≡ through_at unit u v f g j x → u ≡ u' → v ≡ v' → r ≡ through_at unit u' v' f g j x
  gone-value r u v u' v' f g j x e p q = e ∙ ap (λ s. through_at unit s v f g j x) p ∙ ap (λ s. through_at unit u' s f g j x) q

  module _ (u v : ℤ) (f g o : List ℤ) where
    pub gone-none : (a : ℕ) → AreGone unit a a u v f g o o
    gone-none a = record { gone = λ j l m. absurd (omega arith); rest = λ j l. refl }

    -- one more is set
    pub gone-next : (xs : List ℤ) (a b c : ℕ) (x : ℤ) → a ≤ b → c ≡ b + 1 → b < length xs → AreGone unit a b u v f g o xs → x ≡ through_at unit u v f g b (at unit o b) → AreGone unit a c u v f g o (slice_set xs b x)
    gone-next xs a b c x l e m p h = record {
      gone = λ j q r. elim (cases_lt j b) [
        | inl s ↦ let n : j ≡ b → ⊥ = λ t. absurd (omega arith) in rw get_or-set_other (p.gone j q s)
        | inr s ↦ let t : j ≡ b = omega arith in rw t (rw get_or-set_same h)
      ];
      rest = λ j q. let n : j ≡ b → ⊥ = λ t. apart j q t in rw get_or-set_other (p.rest j (beyond j q));
    }
      where
        apart : (j : ℕ) → (j < a) ⊎ (c ≤ j) → j ≡ b → ⊥
        apart j (inl q) t = absurd (omega arith)
        apart j (inr q) t = absurd (omega arith)

        beyond : (j : ℕ) → (j < a) ⊎ (c ≤ j) → (j < a) ⊎ (b ≤ j)
        beyond j (inl q) = inl q
        beyond j (inr q) = inr (omega arith)

    -- and the next ones
    pub gone-more : (xs ys : List ℤ) (b a c d : ℕ) → a ≡ b → b ≤ c → d ≡ c → AreGone unit 0 b u v f g o xs → AreGone unit a c u v f g xs ys → AreGone unit 0 d u v f g o ys
    gone-more xs ys b a c d n l e p q = record {
      gone = λ j m r. elim (cases_lt j b) [
        | inl s ↦ q.rest j (inl (omega arith)) ∙ p.gone j m s
        | inr s ↦ q.gone j (omega arith) (omega arith) ∙ ap (through_at unit u v f g j) (p.rest j (inr s))
      ];
      rest = λ j m. let k : c ≤ j = past j m in q.rest j (inr k) ∙ p.rest j (inr (omega arith));
    }
      where
        past : (j : ℕ) → (j < 0) ⊎ (d ≤ j) → c ≤ j
        past j (inl m) = absurd (omega arith)
        past j (inr m) = omega arith

    pub gone-entries : (ys : List ℤ) (b : ℕ) → IsEntry unit (6 * unit) u → IsEntry unit (6 * unit) v → AreEntries unit (8 * unit) f → AreEntries unit (8 * unit) g → AreEntries unit (2 * unit) o → AreGone unit 0 b u v f g o ys → AreEntries unit (14 * unit) ys
    gone-entries ys b pu pv pf pg po p k = elim (cases_lt k b) [
      | inl m ↦ subst (IsEntry unit (14 * unit)) (sym (p.gone k (omega arith) m)) (through-entry unit room u v (at unit f k) (at unit g k) (at unit o k) pu pv (pf k) (pg k) (po k))
      | inr m ↦ subst (IsEntry unit (14 * unit)) (sym (p.rest k (inr m))) (entry-more unit room (2 * unit) (14 * unit) (at unit o k) (omega arith) (po k))
    ]

  pub strengthened-row : (u : ℤ) (f o xs : List ℤ) (j : ℕ) → length o ≤ j → IsEntry unit unit u → AreEntries unit unit f → AreEntries unit (2 * unit) o →
      ((k : ℕ) → k < j → at unit xs k ≡ strengthened_by unit u (at unit f k) (at unit o k)) → ((k : ℕ) → j ≤ k → at unit xs k ≡ at unit o k) → AreEntries unit (2 * unit) xs
  strengthened-row u f o xs j l p q h done rest k = elim (cases_lt k j) [
    | inl m ↦ subst (IsEntry unit (2 * unit)) (sym (done k m)) (strengthened-entry unit room u (at unit f k) (at unit o k) p (q k) (h k))
    | inr m ↦ subst (IsEntry unit (2 * unit)) (sym (rest k m)) (h k)
  ]
