-- Entries that are pushed one after another.
use Rattle.std.specs.Prelude.{◌*◌, ◌≡◌, ℕ, ◌<◌, ◌≤◌, ◌+◌, ℤ, pos, ◌≤ℤ◌, Option, Some, None, Bool, MatchOption, List, [], ◌∷◌, ◌++◌, length, map, refl}
use Rattle.std.proofs.Common.{arith, ap, sym, subst, ◌∙◌, inl, inr, get_or, take, length-append}
use Rattle.std.proofs.lemmas.Bool.{cases_eq, cases_lt}
use Rattle.std.proofs.lemmas.Int.{ints}
use Rattle.std.proofs.lemmas.List.{get_or_append_left, get_or_past, get_or_push, length-map, map-append, take_all, take_more}
use Rattle.dbm_core.proofs.HalfLemmas.{HasEntries-from_kept, entry-coherent}
use Rattle.dbm_core.proofs.SameLemmas.{HasEntries-one, place-entry, places-hold}
use Rattle.dbm_core.specs.Half.{HalfMatrix, IsMatrix, entry, nodes, row_width}
use Rattle.dbm_core.specs.Limits.{AreWithin, IsWithin}
use Rattle.dbm_incremental.specs.Far.{HasFarEntry, HasNoFarEntry, IsBelowHalf, IsFar}
use Rattle.dbm_narrow.proofs.EntryLemmas.{wide-at, wide-bound, wide-none}
use Rattle.dbm_narrow.specs.Entries.{AreEntries, IsEntry, at, held, none, wide}
use Rattle.dbm_narrow.specs.Rounds.{IsNarrow}

module _ (unit : ℕ) (room : 0 < unit) where
  -- the first i bounds of a list in narrow entries
  pub record AreNarrowed (kept : List (Option ℤ)) (i : ℕ) (xs : List ℤ) : Type 0 where
    pub same : map (wide unit) xs ≡ take i kept
    pub entries : AreEntries unit (2 * unit) xs

  pub narrowed-first : (kept : List (Option ℤ)) → AreNarrowed kept 0 []
  narrowed-first kept = record { same = refl; entries = λ k. inl refl }

  push-entries : (xs : List ℤ) (x : ℤ) → AreEntries unit (2 * unit) xs → IsEntry unit (2 * unit) x → AreEntries unit (2 * unit) (xs ++ (x ∷ []))
  push-entries xs x h p k = elim (cases_lt k (length xs)) [
    | inl l ↦ subst (IsEntry unit (2 * unit)) (sym (get_or_append_left xs (x ∷ []) (none unit) k l)) (h k)
    | inr l ↦ elim (cases_eq (length xs) k) [
      | inl e ↦ subst (IsEntry unit (2 * unit)) (sym (get_or_push xs x (none unit) k e)) p
      | inr e ↦ inl (past k l e)
    ]
  ]
    where
      past : (k : ℕ) → length xs ≤ k → (length xs ≡ k → ⊥) → at unit (xs ++ (x ∷ [])) k ≡ none unit
      past k l e = get_or_past (xs ++ (x ∷ [])) k (none unit) (omega (arith, length-append xs (x ∷ [])))

  pub narrowed-next : (kept : List (Option ℤ)) (i : ℕ) (xs : List ℤ) (x : ℤ) → i < length kept → AreNarrowed kept i xs → (wide unit x ≡ get_or kept i None) × IsEntry unit (2 * unit) x → AreNarrowed kept (i + 1) (xs ++ (x ∷ []))
  narrowed-next kept i xs x l p q = record {
    same = map-append (wide unit) xs (x ∷ []) ∙ ap (λ v. v ++ (wide unit x ∷ [])) p.same ∙ ap (λ y. take i kept ++ (y ∷ [])) q.0 ∙ sym (take_more kept i None l);
    entries = push-entries xs x p.entries q.1;
  }

  pub narrowed-same : (m : HalfMatrix) (i : ℕ) (kinds : List Bool) (xs : List ℤ) → length m.kept ≤ i → kinds ≡ m.kinds → AreNarrowed m.kept i xs → held unit kinds xs ≡ m
  narrowed-same m i kinds xs l e p = ap (λ k. make k (map (wide unit) xs)) e ∙ ap (λ n. make m.kinds n) (p.same ∙ take_all i m.kept l)
    where
      make : List Bool → List (Option ℤ) → HalfMatrix
      make k n = record { kinds = k; kept = n }

  pub narrowed-narrow : (m : HalfMatrix) (i : ℕ) (kinds : List Bool) (xs : List ℤ) → IsMatrix m → length m.kept ≤ i → kinds ≡ m.kinds → AreNarrowed m.kept i xs → IsNarrow unit kinds xs
  narrowed-narrow m i kinds xs t l e p = record { matrix = subst IsMatrix (sym (narrowed-same m i kinds xs l e p)) t; entries = p.entries }

  pub narrowed-outside : (m : HalfMatrix) (i : ℕ) → IsMatrix m → i < length m.kept → (IsWithin (2 * unit) (get_or m.kept i None) → ⊥) → AreWithin (nodes m) (2 * unit) (entry m) → ⊥
  narrowed-outside m i t l f h =
      let q : (a b : ℕ) × ((a < nodes m) × (b < nodes m) × (get_or m.kept i None ≡ entry m a b)) = place-entry m t i l in
      f (subst (IsWithin (2 * unit)) (sym q.2.2) (h q.0 q.1 q.2.0 q.2.1))

  -- the entry of a bound that fits
  pub small-entry : (b : ℤ) (o : Option ℤ) → MatchOption o (IsWithin (2 * unit) (Some b) → ⊥) (λ x. (x ≡ b) × IsWithin (2 * unit) (Some x)) → MatchOption o (IsWithin (2 * unit) (Some b) → ⊥) (λ x. (wide unit x ≡ Some b) × IsEntry unit (2 * unit) x)
  small-entry b None h = h
  small-entry b (Some x) h = let q : x ≤ℤ pos (2 * unit) = h.1.1 in (wide-bound unit room x (omega (arith, ints)) ∙ ap Some h.0, inr h.1)

  pub none-entry-of : (wide unit (none unit) ≡ None) × IsEntry unit (2 * unit) (none unit)
  none-entry-of = (wide-none unit room, inl refl)

  -- a matrix with the bounds of another at the kept pairs is that one
  pub same-kept : (m n : HalfMatrix) → IsMatrix m → IsMatrix n → n.kinds ≡ m.kinds → ((i j : ℕ) → i < nodes m → j < row_width i → entry n i j ≡ entry m i j) → n ≡ m
  same-kept m n t u e h = HasEntries-one m.kinds (entry m) n m (HasEntries-from_kept m.kinds (entry m) n u e (entry-coherent m t) h) (record { matrix = t; same_kinds = refl; entries = λ i j hi hj. refl })

  -- ---- bounds of 2^63 or more

  pub near-matrix : (kinds : List Bool) (xs : List ℤ) → IsMatrix (held unit kinds xs) → ((p : ℕ) → p < length xs → IsBelowHalf (wide unit (at unit xs p))) → HasNoFarEntry (nodes (held unit kinds xs)) (entry (held unit kinds xs))
  near-matrix kinds xs t h = places-hold IsBelowHalf (held unit kinds xs) t (λ p l. subst IsBelowHalf (sym (wide-at unit room xs p)) (h p (rw (← length-map xs (wide unit)) l)))

  pub far-matrix : (kinds : List Bool) (xs : List ℤ) → IsMatrix (held unit kinds xs) → (p : ℕ) → p < length xs → IsFar (wide unit (at unit xs p)) → HasFarEntry (nodes (held unit kinds xs)) (entry (held unit kinds xs))
  far-matrix kinds xs t p l h =
      let q : (i j : ℕ) × ((i < nodes (held unit kinds xs)) × (j < nodes (held unit kinds xs)) × (get_or (map (wide unit) xs) p None ≡ entry (held unit kinds xs) i j)) =
      place-entry (held unit kinds xs) t p (rw (length-map xs (wide unit)) l) in
      (q.0, q.1, (q.2.0, q.2.1, subst IsFar (sym (wide-at unit room xs p) ∙ q.2.2) h))

  -- ---- entries of another width, of which half the limit is v

  module _ (v : ℕ) (some : 0 < v) (kinds : List Bool) (xs : List ℤ) where
    pub refitted-outside : IsNarrow v kinds xs → (i : ℕ) → i < length xs → (IsWithin (2 * unit) (wide v (at v xs i)) → ⊥) → AreWithin (nodes (held v kinds xs)) (2 * unit) (entry (held v kinds xs)) → ⊥
    refitted-outside t i l f = narrowed-outside (held v kinds xs) i t.matrix (rw (length-map xs (wide v)) l) (λ w. f (subst (IsWithin (2 * unit)) (wide-at v some xs i) w))

    pub refitted-next : (i : ℕ) (ys : List ℤ) (y : ℤ) → i < length xs → AreNarrowed (map (wide v) xs) i ys → (wide unit y ≡ wide v (at v xs i)) × IsEntry unit (2 * unit) y → AreNarrowed (map (wide v) xs) (i + 1) (ys ++ (y ∷ []))
    refitted-next i ys y l p q = narrowed-next (map (wide v) xs) i ys y (rw (length-map xs (wide v)) l) p (q.0 ∙ sym (wide-at v some xs i), q.1)

    pub refitted-same : (i : ℕ) (l : List Bool) (ys : List ℤ) → length xs ≤ i → l ≡ kinds → AreNarrowed (map (wide v) xs) i ys → held unit l ys ≡ held v kinds xs
    refitted-same i l ys h e p = narrowed-same (held v kinds xs) i l ys (rw (length-map xs (wide v)) h) e p

    pub refitted-narrow : IsNarrow v kinds xs → (i : ℕ) (l : List Bool) (ys : List ℤ) → length xs ≤ i → l ≡ kinds → AreNarrowed (map (wide v) xs) i ys → IsNarrow unit l ys
    refitted-narrow t i l ys h e p = narrowed-narrow (held v kinds xs) i l ys t.matrix (rw (length-map xs (wide v)) h) e p
