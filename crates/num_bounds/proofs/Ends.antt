-- Ranges with equal ends, and what a cut leaves.
use Rattle.std.proofs.Common.{◌≡◌, ℤ, true, false, Option, Some, None, IfSome, int_le, refl, sym, ap, ◌∙◌, ◌≤ℤ◌, ◌<ℤ◌, arith, FitsSigned, subst}
use Rattle.std.proofs.lemmas.Int.{ints, clamps}
use Rattle.std.specs.Int.{int_max, int_min, w64}
use Rattle.num_bounds.specs.Bounds.{Bounds, Within, IsPart, IsRange, least, greatest}
use Rattle.num_bounds.specs.Meaning.{Covers, IsMeet}
use Rattle.num_bounds.specs.Operations.{range_between, cut_of, word}
use Rattle.base_values.proofs.Cases.{by_bool}

-- ranges with the same ends are the same
pub same_ends : {a b : Bounds} → a.lo ≡ b.lo → a.hi ≡ b.hi → a ≡ b
same_ends p q = λ i. record { lo = p i; hi = q i }

pub le-true : (a b : ℤ) → int_le a b ≡ true → a ≤ℤ b
le-true a b h = grind (arith, ints)

pub le-false : (a b : ℤ) → int_le a b ≡ false → b <ℤ a
le-false a b h = grind (arith, ints)

pub true-le : (a b : ℤ) → a ≤ℤ b → int_le a b ≡ true
true-le a b h = grind (arith, ints)

pub between-some : (lo hi : ℤ) → int_le lo hi ≡ true → range_between lo hi ≡ Some (record { lo = lo; hi = hi })
between-some lo hi h = rw h refl

pub between-none : (lo hi : ℤ) → int_le lo hi ≡ false → range_between lo hi ≡ None
between-none lo hi h = rw h refl

pub word-some : (b : Bounds) (lo hi : ℤ) → lo ≡ int_max b.lo least → hi ≡ int_min b.hi greatest → int_le lo hi ≡ true → Some (record { lo = lo; hi = hi }) ≡ word b
word-some b lo hi p q h =
    let h2 : int_le (int_max b.lo least) (int_min b.hi greatest) ≡ true = rw (← p, ← q) h in
    ap Some (same_ends p q) ∙ sym (between-some (int_max b.lo least) (int_min b.hi greatest) h2)

pub word-is : (r : Option Bounds) (lo hi : ℤ) (b : Bounds) → r ≡ word (record { lo = lo; hi = hi }) → lo ≡ b.lo → hi ≡ b.hi → r ≡ word b
word-is r lo hi b e p q = e ∙ ap word {x = record { lo = lo; hi = hi }} {y = b} (same_ends p q)

pub between-covers : (lo hi z : ℤ) → lo ≤ℤ z → z ≤ℤ hi → Covers (range_between lo hi) z
between-covers lo hi z p q = rw (between-some lo hi (true-le lo hi (omega (arith, ints)))) (p, q)

-- what lies in a range and in the cut is left
pub cut-covers : (b : Bounds) (lo hi z : ℤ) → Within z b → lo ≤ℤ z → z ≤ℤ hi → Covers (cut_of b lo hi) z
cut-covers b lo hi z w p q = between-covers (int_max b.lo lo) (int_min b.hi hi) z (omega (arith, ints, clamps, w.0)) (omega (arith, ints, clamps, w.1))

pub word-covers : (b : Bounds) (z : ℤ) → Within z b → FitsSigned w64 z → Covers (word b) z
word-covers b z w f = cut-covers b least greatest z w (omega (arith, ints)) (omega (arith, ints))

-- what is between two ends, if anything is
pub between-left : (lo hi : ℤ) (P : Bounds → Type 0) → (lo ≤ℤ hi → P (record { lo = lo; hi = hi })) → IfSome (range_between lo hi) P
between-left lo hi P f =
    by_bool (int_le lo hi)
    (λ t. rw (between-some lo hi t) (f (le-true lo hi t)))
    (λ t. rw (between-none lo hi t) tt)

-- what is left of a range within 64 bits is a part of it, and a range of 64-bit integers
pub word-part : (b : Bounds) → IfSome (word b) (λ r. IsPart r b)
word-part b = between-left (int_max b.lo least) (int_min b.hi greatest) (λ r. IsPart r b) (λ h. (omega (arith, ints, clamps), omega (arith, ints, clamps)))

pub word-range : (b : Bounds) → IfSome (word b) IsRange
word-range b = between-left (int_max b.lo least) (int_min b.hi greatest) IsRange (λ h. record { low = omega (arith, ints, clamps); ordered = h; high = omega (arith, ints, clamps) })

pub cut-meet : (b : Bounds) (lo hi : ℤ) → IsMeet b lo hi (cut_of b lo hi)
cut-meet b lo hi z = (only, λ w. cut-covers b lo hi z w.0 w.1 w.2)
  where
    only : Covers (cut_of b lo hi) z → Within z b × (lo ≤ℤ z) × (z ≤ℤ hi)
    only h =
        by_bool (int_le (int_max b.lo lo) (int_min b.hi hi))
        (λ t.
        let w = subst (λ (r : Option Bounds). Covers r z) (between-some (int_max b.lo lo) (int_min b.hi hi) t) h in
        let from : int_max b.lo lo ≤ℤ z = w.0 in
        let to : z ≤ℤ int_min b.hi hi = w.1 in
        ((omega (arith, ints, clamps), omega (arith, ints, clamps)), omega (arith, ints, clamps), omega (arith, ints, clamps)))
        (λ t. absurd (subst (λ (r : Option Bounds). Covers r z) (between-none (int_max b.lo lo) (int_min b.hi hi) t) h))
