use Rattle.std.specs.Prelude.{◌≡◌, ℕ, ◌<◌, ◌≤◌, ◌+◌, ◌-◌, ◌*◌, ◌/◌, ◌%◌, ℤ, Option, None, ◌⊎◌, Bool, List, [], ◌∷◌, ◌++◌, length, Result, Ok, Err, IfOk, refl}
use Rattle.std.proofs.Common.{arith, ap, sym, ◌∙◌, inl, inr, get_or, suc, zero, subst}
use Rattle.std.proofs.lemmas.Bool.{cases_lt, cases_eq, lt-ltb, le-ltb}
use Rattle.std.proofs.lemmas.Bool.Decides.{nat_tests}
use Rattle.std.proofs.lemmas.List.{get_or_append_left, get_or-append_right, get_or_past}
use Rattle.dbm_core.proofs.NodeLemmas.{flip_below, flip-even, flip-flip, flip-odd, parity}
use Rattle.dbm_core.specs.Half.{HalfMatrix, HasEntries, IsMatrix, entry, nodes, row_start, row_width}
use Rattle.dbm_core.specs.Nodes.{IsCoherent, flip}

pub row_start-double : (h : ℕ) → row_start (2 * h) ≡ 2 * (h * (h + 1))
row_start-double zero = refl
row_start-double (suc h) =
    let e : 2 * suc h ≡ suc (suc (2 * h)) = omega arith in
    rw e (omega (arith, row_start-double h))

sub_self : (n : ℕ) → n - n ≡ 0
sub_self n = omega arith

pub row_start-mono : (r i : ℕ) → i ≤ r → row_start i ≤ row_start r
row_start-mono zero i l = let e : i ≡ 0 = omega arith in rw e (omega arith)
row_start-mono (suc r) i l = elim (cases_lt i (suc r)) [
  | inl p ↦ omega (arith, row_start-mono r i (omega arith))
  | inr p ↦ let e : i ≡ suc r = omega arith in rw e (omega arith)
]

-- the entry at a kept pair and at any other
pub entry-kept : (m : HalfMatrix) (i j : ℕ) → j < row_width i → entry m i j ≡ get_or m.kept (row_start i + j) None
unfolding entry
entry-kept m i j h = rw (lt-ltb j (row_width i) h) refl

pub entry-other : (m : HalfMatrix) (i j : ℕ) → row_width i ≤ j → entry m i j ≡ get_or m.kept (row_start (flip j) + flip i) None
unfolding entry
entry-other m i j h = rw (le-ltb j (row_width i) h) refl

-- the mirror image of a pair that is not kept is kept
pub flip-kept : (i j : ℕ) → row_width i ≤ j → flip i < row_width (flip j)
flip-kept i j h = grind (arith, nat_tests)

half_even : (i : ℕ) → i % 2 ≡ 0 → 2 * (i / 2) ≡ i
half_even i h = omega arith

half_odd : (i : ℕ) → i % 2 ≡ 1 → 2 * (i / 2) + 1 ≡ i
half_odd i h = omega arith

diagonal-flip : (m : HalfMatrix) → IsMatrix m → (i : ℕ) → i < nodes m → entry m i i ≡ entry m (flip i) (flip i)
diagonal-flip m h i l = elim (parity i) [
  | inl e ↦ rw (flip-even i e) (subst (λ k. entry m k k ≡ entry m (k + 1) (k + 1)) (half_even i e) (h.diagonal (i / 2) (omega arith)))
  | inr e ↦ let p : 2 * (i / 2) ≡ i - 1 = omega arith in rw (flip-odd i e)
      (sym (subst (λ k. entry m (i - 1) (i - 1) ≡ entry m k k) (half_odd i e)
      (subst (λ k. entry m k k ≡ entry m (2 * (i / 2) + 1) (2 * (i / 2) + 1)) p (h.diagonal (i / 2) (omega arith)))))
]

-- two kept mirror images are a slot's two diagonal entries, or one entry
same_slot : (i j : ℕ) → j < row_width i → flip i < row_width (flip j) → (i ≡ j) ⊎ (j ≡ flip i)
same_slot i j p q = elim (cases_eq i j) [ inl e ↦ inl e | inr e ↦ inr (other i j p q e) ]
  where
    other : (i j : ℕ) → j < row_width i → flip i < row_width (flip j) → (i ≡ j → ⊥) → j ≡ flip i
    other i j p q e = grind (arith, nat_tests)

-- the entries are coherent
pub entry-coherent : (m : HalfMatrix) → IsMatrix m → IsCoherent (entry m) (nodes m)
entry-coherent m h i j hi hj = elim (cases_lt j (row_width i)) [
  | inl p ↦ elim (cases_lt (flip i) (row_width (flip j))) [
    | inl q ↦ elim (same_slot i j p q) [
      | inl e ↦ subst (λ k. entry m i k ≡ entry m (flip k) (flip i)) e (diagonal-flip m h i hi)
      | inr e ↦ rw e (ap (λ k. entry m k (flip i)) (sym (flip-flip i)))
    ]
    | inr q ↦ sym (entry-other m (flip j) (flip i) q
        ∙ ap (λ k. get_or m.kept (row_start k + flip (flip j)) None) (flip-flip i)
        ∙ ap (λ k. get_or m.kept (row_start i + k) None) (flip-flip j)
        ∙ sym (entry-kept m i j p))
  ]
  | inr p ↦ entry-other m i j p ∙ sym (entry-kept m (flip j) (flip i) (flip-kept i j p))
]

abbrev pub RowsHold : (ℕ → ℕ → Option ℤ → Type 0) → List (Option ℤ) → ℕ → Type 0
RowsHold P v r = (i j : ℕ) → i < r → j < row_width i → P i j (get_or v (row_start i + j) None)

abbrev pub CellsHold : (ℕ → ℕ → Option ℤ → Type 0) → List (Option ℤ) → ℕ → ℕ → Type 0
CellsHold P v i n = (j : ℕ) → j < n → P i j (get_or v (row_start i + j) None)

pub RowsHold-push : (P : ℕ → ℕ → Option ℤ → Type 0) (v : List (Option ℤ)) (r j : ℕ) (x : Option ℤ) → length v ≡ row_start r + j → RowsHold P v r → RowsHold P (v ++ (x ∷ [])) r
RowsHold-push P v r j x e h = λ a b l w.
    let q : row_start a + b < length v = omega (arith, row_start-mono r (suc a) (omega arith)) in
    rw (get_or_append_left v (x ∷ []) None (row_start a + b) q) (h a b l w)

pub CellsHold-push : (P : ℕ → ℕ → Option ℤ → Type 0) (v : List (Option ℤ)) (r j : ℕ) (x : Option ℤ) → length v ≡ row_start r + j → CellsHold P v r j → P r j x → CellsHold P (v ++ (x ∷ [])) r (j + 1)
CellsHold-push P v r j x e h p = λ b l. elim (cases_lt b j) [
  | inl q ↦ let k : row_start r + b < length v = omega arith in
      rw (get_or_append_left v (x ∷ []) None (row_start r + b) k) (h b q)
  | inr q ↦ let k : b ≡ j = omega arith in
      rw k (let s : get_or (v ++ (x ∷ [])) (row_start r + j) None ≡ x =
      get_or-append_right v (x ∷ []) (row_start r + j) (row_start r + j) None e (omega arith) ∙ ap (λ m. get_or (x ∷ []) m None) (sub_self (row_start r + j)) in rw s p)
]

pub RowsHold-more : (P : ℕ → ℕ → Option ℤ → Type 0) (v : List (Option ℤ)) (r : ℕ) → RowsHold P v r → CellsHold P v r (row_width r) → RowsHold P v (r + 1)
RowsHold-more P v r h c = λ a b l w. elim (cases_lt a r) [
  | inl q ↦ h a b q w
  | inr q ↦ let k : a ≡ r = omega arith in subst (λ x. P x b (get_or v (row_start x + b) None)) (sym k) (c b (let g : b < row_width r = subst (λ x. b < row_width x) k w in g))
]

-- the kept pairs say all, where f is coherent
pub HasEntries-from_kept : (kinds : List Bool) (f : ℕ → ℕ → Option ℤ) (m : HalfMatrix) → IsMatrix m → m.kinds ≡ kinds → IsCoherent f (2 * length kinds) →
    ((i j : ℕ) → i < 2 * length kinds → j < row_width i → entry m i j ≡ f i j) → HasEntries kinds f m
HasEntries-from_kept kinds f m t e c h = record {
  matrix = t;
  same_kinds = e;
  entries = λ i j hi hj. elim (cases_lt j (row_width i)) [
    | inl p ↦ h i j hi p
    | inr p ↦ entry-other m i j p
        ∙ sym (entry-kept m (flip j) (flip i) (flip-kept i j p))
        ∙ h (flip j) (flip i) (flip_below j (length kinds) hj) (flip-kept i j p)
        ∙ sym (c i j hi hj)
  ];
}

pub row_start-closed : (i : ℕ) → row_start i ≡ 2 * (i / 2 * (i / 2 + 1)) + (i % 2) * (2 * (i / 2) + 2)
row_start-closed i = elim (parity i) [
  | inl e ↦ rw e (ap row_start (sym (half_even i e)) ∙ row_start-double (i / 2) ∙ omega arith)
  | inr e ↦ rw e (ap row_start (sym (half_odd i e)) ∙ odd (i / 2))
]
  where
    odd : (h : ℕ) → row_start (2 * h + 1) ≡ 2 * (h * (h + 1)) + 1 * (2 * h + 2)
    odd h = let e : 2 * h + 1 ≡ suc (2 * h) = omega arith in rw e (omega (arith, row_start-double h))

-- a kept pair's place is within the list
pub place-within : (n i j : ℕ) → i < 2 * n → j < row_width i → row_start i + j < 2 * (n * (n + 1))
place-within n i j h w = omega (arith, row_start-mono (2 * n) (suc i) (omega arith), row_start-double n)

pub place-small : (i j : ℕ) → i < 32 → j < row_width i → row_start i + j < 544
place-small i j h w = place-within 16 i j h w

pub row_start-even : (i : ℕ) → i % 2 ≡ 0 → row_start i ≡ 2 * (i / 2 * (i / 2 + 1))
row_start-even i e = omega (arith, row_start-closed i, ap (λ k. k * (2 * (i / 2) + 2)) e)

pub row_start-odd : (i : ℕ) → i % 2 ≡ 1 → row_start i ≡ 2 * (i / 2 * (i / 2 + 1)) + 2 * (i / 2) + 2
row_start-odd i e = omega (arith, row_start-closed i, ap (λ k. k * (2 * (i / 2) + 2)) e)

-- a whole table is a matrix, and P holds of its kept entries
pub entry-holds : (P : ℕ → ℕ → Option ℤ → Type 0) (m : HalfMatrix) (r : ℕ) → RowsHold P m.kept r → (i j : ℕ) → i < r → j < row_width i → P i j (entry m i j)
entry-holds P m r h i j l w = rw (entry-kept m i j w) (h i j l w)

pub IsMatrix-from_rows : (P : ℕ → ℕ → Option ℤ → Type 0) (m : HalfMatrix) → length m.kinds ≤ 16 → length m.kept ≡ row_start (nodes m) → RowsHold P m.kept (nodes m) →
    ((h : ℕ) (a b : Option ℤ) → h < length m.kinds → P (2 * h) (2 * h) a → P (2 * h + 1) (2 * h + 1) b → a ≡ b) → IsMatrix m
IsMatrix-from_rows P m few size rows same = record {
  few = few;
  fits = size ∙ row_start-double (length m.kinds);
  diagonal = λ h l. same h (entry m (2 * h) (2 * h)) (entry m (2 * h + 1) (2 * h + 1)) l
      (entry-holds P m (nodes m) rows (2 * h) (2 * h) (omega arith) (omega arith))
      (entry-holds P m (nodes m) rows (2 * h + 1) (2 * h + 1) (omega arith) (omega arith));
}

-- the same, of a result
pub entries-if_ok : {E : Type 0} (r : Result HalfMatrix E) (kinds : List Bool) (f : ℕ → ℕ → Option ℤ) → IsCoherent f (2 * length kinds) →
    IfOk r IsMatrix → IfOk r (λ m. m.kinds ≡ kinds) → IfOk r (λ m. (i j : ℕ) → i < 2 * length kinds → j < row_width i → entry m i j ≡ f i j) → IfOk r (HasEntries kinds f)
entries-if_ok (Ok m) kinds f c t k h = HasEntries-from_kept kinds f m t k c h
entries-if_ok (Err e) kinds f c t k h = tt

-- there are no bounds beyond the nodes
pub entry-outside : (m : HalfMatrix) → IsMatrix m → (i j : ℕ) → (nodes m ≤ i) ⊎ (nodes m ≤ j) → entry m i j ≡ None
entry-outside m h i j o = elim (cases_lt j (row_width i)) [
  | inl p ↦ entry-kept m i j p ∙ past (row_start i + j) (omega (arith, h.fits, row_start-double (length m.kinds), row_start-mono i (nodes m) (row o p)))
  | inr p ↦ entry-other m i j p ∙ past (row_start (flip j) + flip i) (omega (arith, h.fits, row_start-double (length m.kinds), row_start-mono (flip j) (nodes m) (turned o p)))
]
  where
    past : (p : ℕ) → length m.kept ≤ p → get_or m.kept p None ≡ None
    past p l = get_or_past m.kept p None l

    row : (nodes m ≤ i) ⊎ (nodes m ≤ j) → j < row_width i → nodes m ≤ i
    row (inl l) w = l
    row (inr l) w = omega arith

    turned : (nodes m ≤ i) ⊎ (nodes m ≤ j) → row_width i ≤ j → nodes m ≤ flip j
    turned o w = elim (parity j) [
      | inl e ↦ let f : flip j ≡ j + 1 = flip-even j e in by o w f
      | inr e ↦ let f : flip j ≡ j - 1 = flip-odd j e in odd o w e f
    ]
      where
        by : (nodes m ≤ i) ⊎ (nodes m ≤ j) → row_width i ≤ j → flip j ≡ j + 1 → nodes m ≤ flip j
        by (inl l) w f = omega arith
        by (inr l) w f = omega arith

        odd : (nodes m ≤ i) ⊎ (nodes m ≤ j) → row_width i ≤ j → j % 2 ≡ 1 → flip j ≡ j - 1 → nodes m ≤ flip j
        odd (inl l) w e f = omega arith
        odd (inr l) w e f = omega arith
