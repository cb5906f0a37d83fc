-- A row that is rewritten as a part of the entries.
use Rattle.std.specs.Prelude.{◌≡◌, ℕ, ◌<◌, ◌≤◌, ◌+◌, ◌-◌, ◌*◌, ℤ, ◌⊎◌, List, ◌++◌, length, take, drop}
use Rattle.std.proofs.Common.{arith, ap, sym, subst, ◌∙◌, inl, inr, suc, add-one}
use Rattle.std.proofs.lemmas.Bool.{cases_lt}
use Rattle.std.proofs.lemmas.List.{get_or-append_right, get_or-drop, get_or-take, get_or_append_left, get_or_past, length-drop, length-take, length-take-le}
use borrow.Rule.Slice.PartMut.{put_mid, post_of}
use Rattle.dbm_core.proofs.HalfLemmas.{place-within, row_start-double, row_start-mono}
use Rattle.dbm_core.specs.Half.{row_start, row_width}
use Rattle.dbm_narrow.specs.Entries.{AreEntries, IsEntry, at, none}
use Rattle.dbm_narrow.specs.Rows.{IsRowWithin}

module _ (unit : ℕ) (room : 0 < unit) where
  less_self : (a j : ℕ) → (a + j) - a ≡ j
  less_self a j = omega arith

  -- inside the part
  pub part-inside : (xs ys : List ℤ) (a k j : ℕ) → a + k ≤ length xs → length ys ≡ k → j < k → at unit (put_mid a k xs ys) (a + j) ≡ at unit ys j
  part-inside xs ys a k j l e m =
      get_or-append_right (take a xs) (ys ++ post_of a k xs) a (a + j) (none unit) (length-take-le a xs (omega arith)) (omega arith)
      ∙ ap (λ n. at unit (ys ++ post_of a k xs) n) (less_self a j)
      ∙ get_or_append_left ys (post_of a k xs) (none unit) j (omega arith)

  -- before it, and after
  pub part-outside : (xs ys : List ℤ) (a k n : ℕ) → a + k ≤ length xs → length ys ≡ k → (n < a) ⊎ (a + k ≤ n) → at unit (put_mid a k xs ys) n ≡ at unit xs n
  part-outside xs ys a k n l e (inl m) =
      let t : length (take a xs) ≡ a = length-take-le a xs (omega arith) in
      get_or_append_left (take a xs) (ys ++ post_of a k xs) (none unit) n (omega arith) ∙ get_or-take a xs n (none unit) m
  part-outside xs ys a k n l e (inr m) =
      let b : a + (k + ((n - a) - k)) ≡ n = omega arith in
      get_or-append_right (take a xs) (ys ++ post_of a k xs) a n (none unit) (length-take-le a xs (omega arith)) (omega arith)
      ∙ get_or-append_right ys (post_of a k xs) k (n - a) (none unit) e (omega arith)
      ∙ get_or-drop k (drop a xs) ((n - a) - k) (none unit)
      ∙ get_or-drop a xs (k + ((n - a) - k)) (none unit)
      ∙ ap (at unit xs) b

  -- what stands in the part
  pub part-at : (xs : List ℤ) (a k j : ℕ) → j < k → at unit (take k (drop a xs)) j ≡ at unit xs (a + j)
  part-at xs a k j l = get_or-take k (drop a xs) j (none unit) l ∙ get_or-drop a xs j (none unit)

  pub part-entries-in : (b : ℕ) (xs : List ℤ) (a k : ℕ) → ((j : ℕ) → j < k → IsEntry unit b (at unit xs (a + j))) → AreEntries unit b (take k (drop a xs))
  part-entries-in b xs a k h j = elim (cases_lt j k) [
    | inl l ↦ subst (IsEntry unit b) (sym (part-at xs a k j l)) (h j l)
    | inr l ↦ inl (get_or_past (take k (drop a xs)) j (none unit) (omega (arith, length-take k (drop a xs))))
  ]

  pub part-entries : (b : ℕ) (xs : List ℤ) (a k : ℕ) → AreEntries unit b xs → AreEntries unit b (take k (drop a xs))
  part-entries b xs a k h = part-entries-in b xs a k (λ j l. h (a + j))

  -- all entries, from those of the part and the others
  pub whole-entries : (b : ℕ) (xs ys : List ℤ) (a k : ℕ) → a + k ≤ length xs → length ys ≡ k → AreEntries unit b xs → AreEntries unit b ys → AreEntries unit b (put_mid a k xs ys)
  whole-entries b xs ys a k l e h p n = elim (cases_lt n a) [
    | inl m ↦ subst (IsEntry unit b) (sym (part-outside xs ys a k n l e (inl m))) (h n)
    | inr m ↦ elim (cases_lt n (a + k)) [
      | inl r ↦ let f : a + (n - a) ≡ n = omega arith in
          subst (λ n. IsEntry unit b (at unit (put_mid a k xs ys) n)) f (subst (IsEntry unit b) (sym (part-inside xs ys a k (n - a) l e (omega arith))) (p (n - a)))
      | inr r ↦ subst (IsEntry unit b) (sym (part-outside xs ys a k n l e (inr r))) (h n)
    ]
  ]

  -- ---- a row

  row-room : (xs : List ℤ) (i a len : ℕ) → a ≡ row_start i → len ≡ row_width i → row_start i + row_width i ≤ length xs → a + ((a + len) - a) ≤ length xs
  row-room xs i a len e f l = omega (arith, less_self a len)

  row-size : (ys : List ℤ) (i a len : ℕ) → len ≡ row_width i → length ys ≡ row_width i → length ys ≡ (a + len) - a
  row-size ys i a len f m = omega (arith, less_self a len)

  pub row-inside : (xs ys : List ℤ) (i a len : ℕ) → a ≡ row_start i → len ≡ row_width i → row_start i + row_width i ≤ length xs → length ys ≡ row_width i →
      (j : ℕ) → j < row_width i → at unit (put_mid a ((a + len) - a) xs ys) (row_start i + j) ≡ at unit ys j
  row-inside xs ys i a len e f l m j w = subst (λ s. at unit (put_mid a ((a + len) - a) xs ys) (s + j) ≡ at unit ys j) e
      (part-inside xs ys a ((a + len) - a) j (row-room xs i a len e f l) (row-size ys i a len f m) (omega (arith, less_self a len)))

  pub row-outside : (xs ys : List ℤ) (i a len : ℕ) → a ≡ row_start i → len ≡ row_width i → row_start i + row_width i ≤ length xs → length ys ≡ row_width i →
      (k : ℕ) → (k < row_start i) ⊎ (row_start i + row_width i ≤ k) → at unit (put_mid a ((a + len) - a) xs ys) k ≡ at unit xs k
  row-outside xs ys i a len e f l m k (inl h) = part-outside xs ys a ((a + len) - a) k (row-room xs i a len e f l) (row-size ys i a len f m) (inl (omega arith))
  row-outside xs ys i a len e f l m k (inr h) = part-outside xs ys a ((a + len) - a) k (row-room xs i a len e f l) (row-size ys i a len f m) (inr (omega (arith, less_self a len)))

  pub row-read : (xs : List ℤ) (i a len : ℕ) → a ≡ row_start i → len ≡ row_width i → (j : ℕ) → j < row_width i → at unit (take ((a + len) - a) (drop a xs)) j ≡ at unit xs (row_start i + j)
  row-read xs i a len e f j w = part-at xs a ((a + len) - a) j (omega (arith, less_self a len)) ∙ ap (λ s. at unit xs (s + j)) e

  pub row-length : (xs : List ℤ) (i a len : ℕ) → a ≡ row_start i → len ≡ row_width i → row_start i + row_width i ≤ length xs → length (take ((a + len) - a) (drop a xs)) ≡ row_width i
  row-length xs i a len e f l = length-take-le ((a + len) - a) (drop a xs) (omega (arith, less_self a len, length-drop a xs)) ∙ less_self a len ∙ f

  pub row-entries-in : (b : ℕ) (xs ys : List ℤ) (i a len : ℕ) → a ≡ row_start i → len ≡ row_width i → row_start i + row_width i ≤ length xs → length ys ≡ row_width i →
      AreEntries unit b xs → AreEntries unit b ys → AreEntries unit b (put_mid a ((a + len) - a) xs ys)
  row-entries-in b xs ys i a len e f l m h p = whole-entries b xs ys a ((a + len) - a) (row-room xs i a len e f l) (row-size ys i a len f m) h p

  pub row-entries : (xs ys : List ℤ) (i a len : ℕ) → a ≡ row_start i → len ≡ row_width i → row_start i + row_width i ≤ length xs → length ys ≡ row_width i →
      AreEntries unit (2 * unit) xs → AreEntries unit (2 * unit) ys → AreEntries unit (2 * unit) (put_mid a ((a + len) - a) xs ys)
  row-entries = row-entries-in (2 * unit)

  pub row-part : (b : ℕ) (xs : List ℤ) (i a len : ℕ) → a ≡ row_start i → len ≡ row_width i → IsRowWithin unit b i xs → AreEntries unit b (take ((a + len) - a) (drop a xs))
  row-part b xs i a len e f h = part-entries-in b xs a ((a + len) - a) (λ j l. subst (λ s. IsEntry unit b (at unit xs (s + j))) (sym e) (h j (omega (arith, less_self a len))))

  -- ---- places

  pub place-in : (xs : List ℤ) (n i j : ℕ) → length xs ≡ row_start (2 * n) → i < 2 * n → j < row_width i → row_start i + j < length xs
  place-in xs n i j e l w = omega (arith, place-within n i j l w, row_start-double n)

  pub row-in : (xs : List ℤ) (n i : ℕ) → length xs ≡ row_start (2 * n) → i < 2 * n → row_start i + row_width i ≤ length xs
  row-in xs n i e l = omega (arith, row_start-mono (2 * n) (suc i) (omega arith))

  -- ---- row after row

  -- the rows before i are rewritten by f, the others stand, and all lie within b
  pub record AreRowsIn (b : ℕ) (f : ℕ → ℕ → ℤ → ℤ) (os xs : List ℤ) (i : ℕ) : Type 0 where
    pub size : length xs ≡ length os
    pub done : (a j : ℕ) → a < i → j < row_width a → at unit xs (row_start a + j) ≡ f a j (at unit os (row_start a + j))
    pub rest : (k : ℕ) → row_start i ≤ k → at unit xs k ≡ at unit os k
    pub entries : AreEntries unit b xs

  abbrev pub AreRows : (ℕ → ℕ → ℤ → ℤ) → List ℤ → List ℤ → ℕ → Type 0
  AreRows f os xs i = AreRowsIn (2 * unit) f os xs i

  pub rows-next-in : (b : ℕ) (f : ℕ → ℕ → ℤ → ℤ) (os xs ys : List ℤ) (i : ℕ) → AreRowsIn b f os xs i → length ys ≡ length xs →
      ((j : ℕ) → j < row_width i → at unit ys (row_start i + j) ≡ f i j (at unit xs (row_start i + j))) →
      ((k : ℕ) → (k < row_start i) ⊎ (row_start i + row_width i ≤ k) → at unit ys k ≡ at unit xs k) → AreEntries unit b ys → AreRowsIn b f os ys (i + 1)
  rows-next-in b f os xs ys i p e here there all =
      let next : row_start (i + 1) ≡ row_start i + row_width i = ap row_start (add-one i) in
      record {
        size = e ∙ p.size;
        done = λ a j l w. elim (cases_lt a i) [
          | inl m ↦ there (row_start a + j) (inl (omega (arith, row_start-mono i (suc a) (omega arith)))) ∙ p.done a j m w
          | inr m ↦ let k : a ≡ i = omega arith in
              rw k (let v : j < row_width i = subst (λ a. j < row_width a) k w in here j v ∙ ap (f i j) (p.rest (row_start i + j) (omega arith)))
        ];
        rest = λ k l. there k (inr (omega arith)) ∙ p.rest k (omega (arith, next));
        entries = all;
      }

  pub rows-next : (f : ℕ → ℕ → ℤ → ℤ) (os xs ys : List ℤ) (i : ℕ) → AreRows f os xs i → length ys ≡ length xs →
      ((j : ℕ) → j < row_width i → at unit ys (row_start i + j) ≡ f i j (at unit xs (row_start i + j))) →
      ((k : ℕ) → (k < row_start i) ⊎ (row_start i + row_width i ≤ k) → at unit ys k ≡ at unit xs k) → AreEntries unit (2 * unit) ys → AreRows f os ys (i + 1)
  rows-next = rows-next-in (2 * unit)
