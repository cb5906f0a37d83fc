-- Matrices in either form.
use Rattle.std.specs.Prelude.{◌≡◌, ◌^◌, ℤ, pos, ◌≤ℤ◌, Option, Some, None, Bool, true, false, Result, IfOk, refl}
use Rattle.std.proofs.Common.{arith, sym, subst}
use Rattle.std.proofs.lemmas.Int.{ints}
use Rattle.std.proofs.lemmas.Result.{IfOk-weaker}
use Rattle.dbm_core.specs.Half.{HalfMatrix, entry, nodes}
use Rattle.dbm_core.specs.Limits.{AreWithin, IsWithin}
use Rattle.dbm_core.specs.Same.{same_matrix, same_matrix-Decides}
use Rattle.dbm_incremental.proofs.BlockLemmas.{small-whole}
use Rattle.dbm_incremental.specs.ClosedMatrices.{IsClosed, IsWhole}
use Rattle.dbm_incremental.specs.Far.{IsBelowHalf}

-- ---- equality

differ : (a b : HalfMatrix) → (a ≡ b → ⊥) → same_matrix a b ≡ false
differ a b n = by (same_matrix a b) refl
  where
    by : (t : Bool) → same_matrix a b ≡ t → t ≡ false
    by true e = absurd (n ((same_matrix-Decides a b).0 e))
    by false e = refl

-- a matrix that fits the narrow form is none that does not
pub small_large : (a b : HalfMatrix) → AreWithin (nodes a) (2 ^ 25) (entry a) → (AreWithin (nodes b) (2 ^ 25) (entry b) → ⊥) → same_matrix a b ≡ false
small_large a b p n = differ a b (λ e. n (subst (λ (m : HalfMatrix). AreWithin (nodes m) (2 ^ 25) (entry m)) e p))

pub large_small : (a b : HalfMatrix) → (AreWithin (nodes a) (2 ^ 25) (entry a) → ⊥) → AreWithin (nodes b) (2 ^ 25) (entry b) → same_matrix a b ≡ false
large_small a b n p = differ a b (λ e. n (subst (λ (m : HalfMatrix). AreWithin (nodes m) (2 ^ 25) (entry m)) (sym e) p))

-- ---- the triangle law

near : (o : Option ℤ) → IsWithin (2 ^ 25) o → IsBelowHalf o
near None p = tt
near (Some x) p = let h : x ≤ℤ pos (2 ^ 25) = p.1 in omega (arith, ints)

-- a closed matrix that fits the narrow form obeys the triangle law
pub small_whole : (m : HalfMatrix) → AreWithin (nodes m) (2 ^ 25) (entry m) → IsClosed m → IsWhole m
small_whole m p h = small-whole m h (λ i j hi hj. near (entry m i j) (p i j hi hj))

-- what holds of a value holds of the answer that is that value
pub same_if_ok : {A E : Type 0} (r : Result A E) (a : A) (P : A → Type 0) → IfOk r (λ x. x ≡ a) → P a → IfOk r P
same_if_ok r a P p h = IfOk-weaker r (λ x. x ≡ a) P (λ x e. subst P (sym e) h) p
