-- Quotients, rounded towards 0: each within the corners of the part that holds its divisor.
use Rattle.std.proofs.Common.{◌≡◌, ◌≢◌, ℕ, zero, suc, ◌/◌, ◌≤◌, ◌<◌, ℤ, pos, negsuc, ◌≤ℤ◌, neg_ℤ, int_div, ◌⊎◌, inl, inr, refl, arith, FitsSigned, Option, Some, None, IfSome}
use Rattle.std.proofs.Math.Nat.{mul-le-mul_left, div-mul-le_self}
use Rattle.std.proofs.lemmas.Nat.{le-div}
use Rattle.std.proofs.lemmas.Int.{ints, clamps}
use Rattle.std.specs.Int.{int_max, int_min, w64}
use Rattle.num_bounds.specs.Bounds.{Bounds, Within, IsRange}
use Rattle.num_bounds.specs.Meaning.{Covers, CoversQuotients}
use Rattle.num_bounds.specs.Operations.{word_if, corners, below_zero, above_zero, part_quotients, either_hull, quotients}
use Rattle.num_bounds.proofs.Ends.{word-covers, between-covers, between-left, word-range}
use Rattle.num_bounds.proofs.Corners.{IsBetween, corners-hold}

-- the quotient of natural numbers rises with the dividend and falls with the divisor
div-rises : (a b d : ℕ) → 0 < d → a ≤ b → a / d ≤ b / d
div-rises a b d p h = le-div (a / d) b d p (omega (arith, div-mul-le_self a d))

div-falls : (a d e : ℕ) → 0 < d → d ≤ e → a / e ≤ a / d
div-falls a d e p h = le-div (a / e) a d p (omega (arith, div-mul-le_self a e, mul-le-mul_left (a / e) h))

-- by a positive number it rises with the dividend
rises : (x y : ℤ) (n : ℕ) → x ≤ℤ y → int_div x (pos (suc n)) ≤ℤ int_div y (pos (suc n))
rises (pos a) (pos b) n h = let k = div-rises a b (suc n) (omega arith) (omega (arith, ints)) in omega (arith, ints)
rises (pos a) (negsuc b) n h = absurd (omega (arith, ints))
rises (negsuc a) (pos b) n h = omega (arith, ints)
rises (negsuc a) (negsuc b) n h = let k = div-rises (suc b) (suc a) (suc n) (omega arith) (omega (arith, ints)) in omega (arith, ints)

-- by the opposite divisor the quotient is the opposite
opposite : (x : ℤ) (n : ℕ) → int_div x (negsuc n) ≡ neg_ℤ (int_div x (pos (suc n)))
opposite (pos a) n = refl
opposite (negsuc a) n = omega (arith, ints)

falls : (x y : ℤ) (n : ℕ) → x ≤ℤ y → int_div y (negsuc n) ≤ℤ int_div x (negsuc n)
falls x y n h = let k = rises x y n h in rw (opposite x n, opposite y n) (omega (arith, ints))

pub between_dividends : (x y z d : ℤ) → d ≢ pos 0 → x ≤ℤ y → y ≤ℤ z → IsBetween (int_div x d) (int_div y d) (int_div z d)
between_dividends x y z (pos zero) ne p q = absurd (ne refl)
between_dividends x y z (pos (suc n)) ne p q = inl (rises x y n p, rises y z n q)
between_dividends x y z (negsuc n) ne p q = inr (falls y z n q, falls x y n p)

-- between positive divisors, and between negative ones
between_positives : (x : ℤ) (d e f : ℕ) → 0 < d → d ≤ e → e ≤ f → IsBetween (int_div x (pos d)) (int_div x (pos e)) (int_div x (pos f))
between_positives (pos a) d e f p h k =
    let l = div-falls a d e p h in
    let m = div-falls a e f (omega arith) k in
    inr (omega (arith, ints), omega (arith, ints))
between_positives (negsuc a) d e f p h k =
    let l = div-falls (suc a) d e p h in
    let m = div-falls (suc a) e f (omega arith) k in
    inl (omega (arith, ints), omega (arith, ints))

flipped : (u v w : ℤ) → IsBetween u v w → IsBetween (neg_ℤ w) (neg_ℤ v) (neg_ℤ u)
flipped u v w h = elim h [
  | inl k ↦ inl (omega (arith, ints, k.1), omega (arith, ints, k.0))
  | inr k ↦ inr (omega (arith, ints, k.1), omega (arith, ints, k.0))
]

between_negatives : (x : ℤ) (d e f : ℕ) → f ≤ e → e ≤ d → IsBetween (int_div x (negsuc d)) (int_div x (negsuc e)) (int_div x (negsuc f))
between_negatives x d e f h k =
    rw (opposite x d, opposite x e, opposite x f)
    (flipped (int_div x (pos (suc f))) (int_div x (pos (suc e))) (int_div x (pos (suc d))) (between_positives x (suc f) (suc e) (suc d) (omega arith) (omega arith) (omega arith)))

-- divisors of one sign
abbrev pub SameSign : ℤ → ℤ → Type 0
SameSign c d = (pos 1 ≤ℤ c) ⊎ (d ≤ℤ negsuc 0)

pub between_divisors : (x c d e : ℤ) → SameSign c e → c ≤ℤ d → d ≤ℤ e → IsBetween (int_div x c) (int_div x d) (int_div x e)
between_divisors x (pos c) (pos d) (pos e) s p q = elim s [
  | inl k ↦ between_positives x c d e (omega (arith, ints)) (omega (arith, ints)) (omega (arith, ints))
  | inr k ↦ absurd (omega (arith, ints))
]
between_divisors x (negsuc c) (negsuc d) (negsuc e) s p q = between_negatives x c d e (omega (arith, ints)) (omega (arith, ints))
between_divisors x (negsuc c) d (pos e) s p q = elim s [
  | inl k ↦ absurd (omega (arith, ints))
  | inr k ↦ absurd (omega (arith, ints))
]
between_divisors x (pos c) (negsuc d) e s p q = absurd (omega (arith, ints))
between_divisors x c (pos d) (negsuc e) s p q = absurd (omega (arith, ints))

part-holds : (a part : Bounds) (x y : ℤ) → SameSign part.lo part.hi → Within x a → Within y part → y ≢ pos 0 → Within (int_div x y) (corners int_div a part)
part-holds a part x y s p q ne =
    corners-hold int_div a part x y
    (between_dividends a.lo x a.hi y ne p.0 p.1)
    (between_divisors a.lo part.lo y part.hi s q.0 q.1)
    (between_divisors a.hi part.lo y part.hi s q.0 q.1)

-- the parts of a divisor's range keep one sign
below-sign : (b : Bounds) → IfSome (below_zero b) (λ p. SameSign p.lo p.hi)
below-sign b = between-left b.lo (int_min b.hi (negsuc 0)) (λ p. SameSign p.lo p.hi) (λ h. inr (omega (arith, ints, clamps)))

above-sign : (b : Bounds) → IfSome (above_zero b) (λ p. SameSign p.lo p.hi)
above-sign b = between-left (int_max b.lo (pos 1)) b.hi (λ p. SameSign p.lo p.hi) (λ h. inl (omega (arith, ints, clamps)))

part-covers : (a : Bounds) (part : Option Bounds) (x y : ℤ) → IfSome part (λ p. SameSign p.lo p.hi) → Covers part y → Within x a → y ≢ pos 0 → Covers (part_quotients a part) (int_div x y)
part-covers a None x y s c p ne = absurd c
part-covers a (Some part) x y s c p ne = part-holds a part x y s p c ne

hull-left : (u v : Option Bounds) (z : ℤ) → Covers u z → Covers (either_hull u v) z
hull-left None v z c = absurd c
hull-left (Some a) None z c = c
hull-left (Some a) (Some b) z c = (omega (arith, ints, clamps, c.0), omega (arith, ints, clamps, c.1))

hull-right : (u v : Option Bounds) (z : ℤ) → Covers v z → Covers (either_hull u v) z
hull-right None v z c = c
hull-right (Some a) None z c = absurd c
hull-right (Some a) (Some b) z c = (omega (arith, ints, clamps, c.0), omega (arith, ints, clamps, c.1))

left-covers : (u : Option Bounds) (z : ℤ) → Covers u z → FitsSigned w64 z → Covers (word_if u) z
left-covers None z c f = absurd c
left-covers (Some b) z c f = word-covers b z c f

pub quotients-sound : (a b : Bounds) → CoversQuotients a b (word_if (quotients a b))
quotients-sound a b x y p q ne f = left-covers (quotients a b) (int_div x y) (parts y q ne) f
  where
    parts : (y : ℤ) → Within y b → y ≢ pos 0 → Covers (quotients a b) (int_div x y)
    parts (pos zero) q ne = absurd (ne refl)
    parts (pos (suc n)) q ne =
        hull-right (part_quotients a (below_zero b)) (part_quotients a (above_zero b)) (int_div x (pos (suc n)))
        (part-covers a (above_zero b) x (pos (suc n)) (above-sign b) (between-covers (int_max b.lo (pos 1)) b.hi (pos (suc n)) (omega (arith, ints, clamps, q.0)) q.1) p ne)
    parts (negsuc n) q ne =
        hull-left (part_quotients a (below_zero b)) (part_quotients a (above_zero b)) (int_div x (negsuc n))
        (part-covers a (below_zero b) x (negsuc n) (below-sign b) (between-covers b.lo (int_min b.hi (negsuc 0)) (negsuc n) q.0 (omega (arith, ints, clamps, q.1))) p ne)

pub quotients-range : (u : Option Bounds) → IfSome (word_if u) IsRange
quotients-range None = tt
quotients-range (Some b) = word-range b
