-- How far entries go that walks go over, where no bound is checked.
use Rattle.std.specs.Prelude.{◌≡◌, ℕ, ◌<◌, ◌≤◌, ◌+◌, ◌*◌, ◌^◌, ℤ, pos, neg_ℤ, ◌+ℤ◌, ◌≤ℤ◌, Option, Some, None, Bool, true, false, List, length, refl}
use Rattle.std.specs.Int.{int_min}
use Rattle.std.proofs.Common.{add-one, arith, ap, sym, subst, ◌∙◌, inl, inr}
use Rattle.std.proofs.Math.Nat.{pow-le-pow_right, pow-suc}
use Rattle.std.proofs.lemmas.Bool.{cases_lt}
use Rattle.std.proofs.lemmas.Int.{ints}
use Rattle.std.proofs.lemmas.List.{get_or_past}
use Rattle.dbm_close.proofs.RoundLemmas.{IsWithin-more}
use Rattle.dbm_core.proofs.SameLemmas as places
use Rattle.dbm_core.specs.Half.{entry, row_start, row_width}
use Rattle.dbm_core.specs.Limits.{IsWithin}
use Rattle.dbm_core.specs.Nodes.{flip}
use Rattle.dbm_incremental.proofs.LawLemmas.{closed_limited}
use Rattle.dbm_incremental.specs.ClosedMatrices.{IsClosed}
use Rattle.dbm_narrow.proofs.EntryLemmas.{entry-more, held-kept, min-entry, pair-is_entry, settle-again, settle-min, settle-sum, wide-bound}
use Rattle.dbm_narrow.proofs.RoundLemmas.{narrow-size}
use Rattle.dbm_narrow.specs.declared.middle.Middle.{Middle}
use Rattle.dbm_narrow.specs.Entries.{AreEntries, IsEntry, at, held, none, pair_at, settle, through_both, wide}
use Rattle.dbm_narrow.specs.Held.{IsEntryOf, IsNoneIf}
use Rattle.dbm_narrow.specs.Lowerings.{AreEnds, HasRoomFor}
use Rattle.dbm_narrow.specs.Middles.{AllThrough}
use Rattle.dbm_narrow.specs.Rounds.{IsNarrow}

-- what is not false is true
pub not_false : (t : Bool) → (t ≡ false → ⊥) → t ≡ true
not_false true h = refl
not_false false h = absurd (h refl)

pub by_checked : (P : Type 0) (t : Bool) → (t ≡ true → P) → (t ≡ false → P) → P
by_checked P true p q = p refl
by_checked P false p q = q refl

pub seven-times : (k : ℕ) → 7 * (2 ^ 70 * 7 ^ k) ≡ 2 ^ 70 * 7 ^ (k + 1)
seven-times k = omega (arith, ap (λ k. 7 ^ k) (add-one k) ∙ pow-suc 7 k)

module _ (unit : ℕ) (room : 0 < unit) where
  -- an entry lies within what its bound does
  pub within-entry : (b c : ℕ) (x : ℤ) → b < 16 * unit → IsEntry unit b x → IsWithin c (wide unit x) → IsEntry unit c x
  within-entry b c x l (inl e) h = inl e
  within-entry b c x l (inr p) h = let q : x ≤ℤ pos b = p.1 in inr (subst (IsWithin c) (wide-bound unit room x (omega (arith, ints))) h)

  -- what holds of the entry of each kept pair holds of each
  pub pairs-hold : (b n : ℕ) (xs : List ℤ) → length xs ≡ row_start n → ((i j : ℕ) → i < n → j < row_width i → IsEntry unit b (at unit xs (row_start i + j))) → AreEntries unit b xs
  pairs-hold b n xs e h k = elim (cases_lt k (length xs)) [
    | inl l ↦
        let q : (i j : ℕ) × ((i < n) × (j < row_width i) × (k ≡ row_start i + j)) = places.pair_at n k (omega arith) in
        subst (λ p. IsEntry unit b (at unit xs p)) (sym q.2.2) (h q.0 q.1 q.2.0 q.2.1)
    | inr l ↦ inl (get_or_past xs k (none unit) l)
  ]

  pub within-entries : (b c : ℕ) (kinds : List Bool) (xs : List ℤ) → b < 16 * unit → length xs ≡ row_start (2 * length kinds) → AreEntries unit b xs →
      ((i j : ℕ) → i < 2 * length kinds → j < row_width i → IsWithin c (entry (held unit kinds xs) i j)) → AreEntries unit c xs
  within-entries b c kinds xs l e h p = pairs-hold c (2 * length kinds) xs e
      (λ i j hi w. within-entry b c (at unit xs (row_start i + j)) l (h (row_start i + j)) (subst (IsWithin c) (held-kept unit room kinds xs i j w) (p i j hi w)))

  -- a small bound leaves the limits of a width that is checked alone
  pub small-checked : (checked : Bool) → (checked ≡ false → 2 ^ 103 ≤ unit) → (c : ℤ) → IsWithin (2 ^ 70) (Some c) → (IsWithin (2 * unit) (Some c) → ⊥) → checked ≡ true
  small-checked checked roomy c p n = not_false checked (λ e.
      let big : 2 ^ 103 ≤ unit = roomy e in
      let lo : neg_ℤ (pos (2 ^ 70)) ≤ℤ c = p.0 in
      let hi : c ≤ℤ pos (2 ^ 70) = p.1 in
      n (omega (arith, ints), omega (arith, ints)))

  -- nor does a threshold
  pub entry-none : (checked : Bool) → (checked ≡ false → 2 ^ 103 ≤ unit) → (o bound : Option ℤ) → IsEntryOf unit bound o → IsWithin (2 ^ 64) bound → IsNoneIf checked o
  entry-none checked roomy (Some x) bound h p = tt
  entry-none checked roomy None bound h p = not_false checked (λ e. let big : 2 ^ 103 ≤ unit = roomy e in h (IsWithin-more (2 ^ 64) (2 * unit) bound (omega arith) p))

  -- the entries of a closed matrix
  pub closed-entries : (kinds : List Bool) (xs : List ℤ) → IsNarrow unit kinds xs → IsClosed (held unit kinds xs) → AreEntries unit (2 ^ 64) xs
  closed-entries kinds xs t h = within-entries (2 * unit) (2 ^ 64) kinds xs (omega arith) (narrow-size unit room kinds xs t) t.entries
      (λ i j hi w. let hj : j < 2 * length kinds = omega arith in (closed_limited (held unit kinds xs) h).within i j hi hj)

  -- an entry that goes over both ways
  through-within : (b : ℕ) (u v f g x : ℤ) → 7 * b < 16 * unit → IsEntry unit (3 * b) u → IsEntry unit (3 * b) v → IsEntry unit (4 * b) f → IsEntry unit (4 * b) g → IsEntry unit b x → IsEntry unit (7 * b) (through_both unit u v f g x)
  through-within b u v f g x l pu pv pf pg px =
      let a : IsEntry unit (7 * b) (settle unit (int_min x (u +ℤ f))) = settle-min unit room (7 * b) x (u +ℤ f) l (entry-more unit room b (7 * b) x (omega arith) px) (entry-more unit room (3 * b + 4 * b) (7 * b) (settle unit (u +ℤ f)) (omega arith) (settle-sum unit room (3 * b) (4 * b) u f (omega arith) pu pf)) in
      subst (IsEntry unit (7 * b)) (sym (settle-again unit room (int_min x (u +ℤ f)) (v +ℤ g)))
      (settle-min unit room (7 * b) (settle unit (int_min x (u +ℤ f))) (v +ℤ g) l a (entry-more unit room (3 * b + 4 * b) (7 * b) (settle unit (v +ℤ g)) (omega arith) (settle-sum unit room (3 * b) (4 * b) v g (omega arith) pv pg)))

  -- entries within b that go over an edge that weighs c
  module _ {W : Type 0} (b slots : ℕ) (xs : List ℤ) (i j : ℕ) (c : ℤ) (m : Middle W) (fits : 7 * b < 16 * unit) (h : AreEntries unit b xs) (s : IsEntry unit b c)
      (hi : i < 2 * slots) (hf : flip j < 2 * slots) (p : AreEnds unit (2 * slots) xs i j c m) where
    pair : (x y : ℕ) → IsEntry unit b (pair_at unit xs x y)
    pair x y = pair-is_entry unit room b xs x y h

    to_first : (x : ℕ) → x < 2 * slots → IsEntry unit b (at unit m.to_first x)
    to_first x hx = subst (IsEntry unit b) (sym (p.to_first x hx)) (pair (flip i) (flip x))

    from_first : (x : ℕ) → x < 2 * slots → IsEntry unit (2 * b) (at unit m.from_first x)
    from_first x hx = subst (IsEntry unit (2 * b)) (sym (p.from_first x hx))
        (entry-more unit room (b + b) (2 * b) (settle unit (c +ℤ pair_at unit xs j x)) (omega arith) (settle-sum unit room b b c (pair_at unit xs j x) (omega arith) s (pair j x)))

    to_second : (x : ℕ) → x < 2 * slots → IsEntry unit (3 * b) (at unit m.to_second x)
    to_second x hx = subst (IsEntry unit (3 * b)) (sym (p.to_second x hx))
        (min-entry unit room (3 * b) (pair_at unit xs j (flip x)) (settle unit (at unit m.from_first (flip j) +ℤ at unit m.to_first x))
        (entry-more unit room b (3 * b) (pair_at unit xs j (flip x)) (omega arith) (pair j (flip x)))
        (entry-more unit room (2 * b + b) (3 * b) (settle unit (at unit m.from_first (flip j) +ℤ at unit m.to_first x)) (omega arith)
        (settle-sum unit room (2 * b) b (at unit m.from_first (flip j)) (at unit m.to_first x) (omega arith) (from_first (flip j) hf) (to_first x hx))))

    over : (x : ℕ) → x < 2 * slots → IsEntry unit (3 * b) (int_min (pair_at unit xs (flip i) x) (settle unit (pair_at unit xs (flip i) i +ℤ at unit m.from_first x)))
    over x hx = min-entry unit room (3 * b) (pair_at unit xs (flip i) x) (settle unit (pair_at unit xs (flip i) i +ℤ at unit m.from_first x))
        (entry-more unit room b (3 * b) (pair_at unit xs (flip i) x) (omega arith) (pair (flip i) x))
        (entry-more unit room (b + 2 * b) (3 * b) (settle unit (pair_at unit xs (flip i) i +ℤ at unit m.from_first x)) (omega arith)
        (settle-sum unit room b (2 * b) (pair_at unit xs (flip i) i) (at unit m.from_first x) (omega arith) (pair (flip i) i) (from_first x hx)))

    from_second : (x : ℕ) → x < 2 * slots → IsEntry unit (4 * b) (at unit m.from_second x)
    from_second x hx = subst (IsEntry unit (4 * b)) (sym (p.from_second x hx))
        (entry-more unit room (b + 3 * b) (4 * b) (settle unit (c +ℤ int_min (pair_at unit xs (flip i) x) (settle unit (pair_at unit xs (flip i) i +ℤ at unit m.from_first x)))) (omega arith)
        (settle-sum unit room b (3 * b) c (int_min (pair_at unit xs (flip i) x) (settle unit (pair_at unit xs (flip i) i +ℤ at unit m.from_first x))) (omega arith) s (over x hx)))

    pub lowered-within : (ys : List ℤ) → length ys ≡ row_start (2 * slots) → AllThrough unit m (2 * slots) xs ys → AreEntries unit (7 * b) ys
    lowered-within ys e t = pairs-hold (7 * b) (2 * slots) ys e (λ a k ha w.
        let hk : k < 2 * slots = omega arith in
        subst (IsEntry unit (7 * b)) (sym (t a k ha w))
        (through-within b (at unit m.to_first a) (at unit m.to_second a) (at unit m.from_first k) (at unit m.from_second k) (at unit xs (row_start a + k)) fits
        (entry-more unit room b (3 * b) (at unit m.to_first a) (omega arith) (to_first a ha)) (to_second a ha)
        (entry-more unit room (2 * b) (4 * b) (at unit m.from_first k) (omega arith) (from_first k hk)) (from_second k hk) (h (row_start a + k))))

  -- entries after fewer than four bounds have room for one more
  pub has_room : 2 ^ 103 ≤ unit → (k : ℕ) → k < 4 → (xs : List ℤ) (c : ℤ) → AreEntries unit (2 ^ 70 * 7 ^ k) xs → IsWithin (2 ^ 70) (Some c) → HasRoomFor unit (2 ^ 70 * 7 ^ k) xs c
  has_room big k l xs c h p =
      let below : k ≤ 4 = omega arith in
      let above : 0 ≤ k = omega arith in
      let most : 7 ^ k ≤ 7 ^ 4 = pow-le-pow_right seven below in
      let least : 7 ^ 0 ≤ 7 ^ k = pow-le-pow_right seven above in
      let lo : neg_ℤ (pos (2 ^ 70)) ≤ℤ c = p.0 in
      let hi : c ≤ℤ pos (2 ^ 70) = p.1 in
      record { fits = omega arith; entries = h; bound = (omega (arith, ints), omega (arith, ints)) }
    where
      seven : 0 < 7
      seven = omega arith
