-- Entries are the same where their bounds are, and feed a hasher what these do.
use Rattle.std.specs.Prelude.{ℕ, ◌<◌, ◌*◌, ◌≡◌, ◌^◌, ◌++◌, ◌&&◌, ℤ, pos, neg_ℤ, ◌≤ℤ◌, Option, Some, None, Bool, true, false, MatchOption, cond, int_lt, List, [], ◌∷◌, map, refl}
use Rattle.std.specs.Bool.{Decides, beq}
use Rattle.std.specs.Cmp.Lexicographic.{pointwise}
use Rattle.std.specs.Hash as fed
use Rattle.std.specs.Option.{option_eq}
use Rattle.std.specs.Ordering.{int_eq}
use Rattle.std.proofs.Common.{arith, ap, sym, subst, ◌∙◌, inl, inr, suc}
use Rattle.std.proofs.lemmas.Bool.Decides.{Decides-int_eq}
use Rattle.std.proofs.lemmas.Int.{ints}
use Rattle.std.proofs.lemmas.Option.{same_Some}
use Rattle.base_values.proofs.Integers.{word_Decides}
use Rattle.dbm_core.specs.Same.{same_matrix}
use Rattle.dbm_narrow.proofs.EntryLemmas.{wide-bound, wide-none}
use Rattle.dbm_narrow.specs.Entries.{AreEntries, IsEntry, held, wide}
use Rattle.dbm_narrow.specs.Feeding.{bound_number, bounds_fed, entries_fed}
use Rattle.dbm_narrow.specs.Widths.{fed_number}

module _ (unit : ℕ) (room : 0 < unit) where
  -- ---- equality

  none_some : (y : ℤ) → None ≡ Some y → ⊥
  none_some y e = subst (λ (o : Option ℤ). MatchOption o (Unit {0}) (λ x. ⊥)) e tt

  small : (x : ℤ) → (neg_ℤ (pos (2 * unit)) ≤ℤ x) × (x ≤ℤ pos (2 * unit)) → wide unit x ≡ Some x
  small x p = let h : x ≤ℤ pos (2 * unit) = p.1 in wide-bound unit room x (omega (arith, ints))

  wide-one : (x y : ℤ) → IsEntry unit (2 * unit) x → IsEntry unit (2 * unit) y → wide unit x ≡ wide unit y → x ≡ y
  wide-one x y (inl e) (inl f) h = e ∙ sym f
  wide-one x y (inl e) (inr q) h = absurd (none_some y (sym (wide-none unit room) ∙ ap (wide unit) (sym e) ∙ h ∙ small y q))
  wide-one x y (inr p) (inl f) h = absurd (none_some x (sym (wide-none unit room) ∙ ap (wide unit) (sym f) ∙ sym h ∙ small x p))
  wide-one x y (inr p) (inr q) h = same_Some x y (sym (small x p) ∙ h ∙ small y q)

  same-test : {P Q : Type 0} (b c : Bool) → Decides b P → Decides c Q → (P → Q) → (Q → P) → b ≡ c
  same-test true true d e f g = refl
  same-test true false d e f g = sym (e.1 (f (d.0 refl)))
  same-test false true d e f g = d.1 (g (e.0 refl))
  same-test false false d e f g = refl

  same-bound : (x y : ℤ) → IsEntry unit (2 * unit) x → IsEntry unit (2 * unit) y → int_eq x y ≡ option_eq int_eq (wide unit x) (wide unit y)
  same-bound x y p q = same-test (int_eq x y) (option_eq int_eq (wide unit x) (wide unit y)) (Decides-int_eq x y) (word_Decides (wide unit x) (wide unit y)) (ap (wide unit)) (wide-one x y p q)

  same-bounds : (xs ys : List ℤ) → AreEntries unit (2 * unit) xs → AreEntries unit (2 * unit) ys → pointwise int_eq xs ys ≡ pointwise (option_eq int_eq) (map (wide unit) xs) (map (wide unit) ys)
  same-bounds [] [] h k = refl
  same-bounds [] (y ∷ ys) h k = refl
  same-bounds (x ∷ xs) [] h k = refl
  same-bounds (x ∷ xs) (y ∷ ys) h k = λ i. same-bound x y (h 0) (k 0) i && same-bounds xs ys (λ n. h (suc n)) (λ n. k (suc n)) i

  -- matrices are the same where their kinds and entries are
  pub same-held : (k l : List Bool) (xs ys : List ℤ) → AreEntries unit (2 * unit) xs → AreEntries unit (2 * unit) ys → pointwise beq k l && pointwise int_eq xs ys ≡ same_matrix (held unit k xs) (held unit l ys)
  same-held k l xs ys h p = ap (λ b. pointwise beq k l && b) (same-bounds xs ys h p)

  -- ---- what is fed

  number : (x : ℤ) → fed_number unit x ≡ bound_number (wide unit x)
  unfolding wide
  number x = pick (int_lt x (pos (16 * unit)))
    where
      pick : (b : Bool) → cond b (bound_number (Some x)) (pos (2 ^ 29)) ≡ bound_number (cond b (Some x) None)
      pick true = refl
      pick false = refl

  pub fed-held : (xs : List ℤ) → entries_fed unit xs ≡ bounds_fed (map (wide unit) xs)
  fed-held [] = refl
  fed-held (x ∷ xs) = λ i. ap fed.i64 (number x) i ++ fed-held xs i
