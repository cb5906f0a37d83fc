-- Remainders: each has the dividend's sign, is no farther from 0 than it, and nearer than the divisor.
use Rattle.std.proofs.Common.{◌≡◌, ◌≢◌, ℕ, zero, suc, ◌≤◌, ◌<◌, ◌%◌, max, true, false, ◌==◌, ℤ, pos, negsuc, ◌≤ℤ◌, neg_ℤ, unsigned_abs, int_lt, int_rem, refl, ap, arith, Some, None}
use Rattle.std.proofs.Math.Nat.{mod-lt, mod-le}
use Rattle.std.proofs.lemmas.Int.{ints}
use Rattle.std.proofs.lemmas.Bool.Decides.{nat_tests}
use Rattle.num_bounds.specs.Bounds.{Bounds, Within}
use Rattle.num_bounds.specs.Meaning.{CoversRemainders}
use Rattle.num_bounds.specs.Operations.{magnitude, remainder_limit, least_remainder, greatest_remainder, remainders}
use Rattle.num_bounds.proofs.Ends.{same_ends}
use Rattle.base_values.proofs.Cases.{by_bool}

within-magnitude : (x lo hi : ℤ) → lo ≤ℤ x → x ≤ℤ hi → unsigned_abs x ≤ max (unsigned_abs lo) (unsigned_abs hi)
within-magnitude (pos n) lo (pos h) p q = omega (arith, ints)
within-magnitude (pos n) lo (negsuc h) p q = absurd (omega (arith, ints))
within-magnitude (negsuc n) (pos l) hi p q = absurd (omega (arith, ints))
within-magnitude (negsuc n) (negsuc l) hi p q = omega (arith, ints)

low-zero : (lo : ℤ) (m : ℕ) → least_remainder lo m ≤ℤ pos 0
low-zero lo m = by_bool (int_lt lo (pos 0)) (λ t. rw t (omega (arith, ints))) (λ t. rw t (omega (arith, ints)))

zero-high : (hi : ℤ) (m : ℕ) → pos 0 ≤ℤ greatest_remainder hi m
zero-high hi m = by_bool (int_lt (pos 0) hi) (λ t. rw t (omega (arith, ints))) (λ t. rw t (omega (arith, ints)))

-- a remainder of a dividend that is not negative, and of a negative one
high-holds : (hi : ℤ) (n m r : ℕ) → pos n ≤ℤ hi → r ≤ n → r ≤ m → pos r ≤ℤ greatest_remainder hi m
high-holds hi n m r p q s = by_bool (int_lt (pos 0) hi) (λ t. rw t (omega (arith, ints))) (λ t. rw t (let k : hi ≤ℤ pos 0 = grind (arith, ints) in omega (arith, ints)))

low-holds : (lo : ℤ) (n m r : ℕ) → lo ≤ℤ negsuc n → r ≤ m → least_remainder lo m ≤ℤ neg_ℤ (pos r)
low-holds lo n m r p q = let t : int_lt lo (pos 0) ≡ true = grind (arith, ints) in rw t (omega (arith, ints))

abs-positive : (y : ℤ) → y ≢ pos 0 → 0 < unsigned_abs y
abs-positive (pos zero) ne = absurd (ne refl)
abs-positive (pos (suc n)) ne = omega arith
abs-positive (negsuc n) ne = omega arith

pub remainders-sound : (a b : Bounds) → CoversRemainders a b (remainders a b)
remainders-sound a b x y p q ne =
    let positive : 0 < unsigned_abs y = abs-positive y ne in
    let near : unsigned_abs y ≤ magnitude b = within-magnitude y b.lo b.hi q.0 q.1 in
    let t : (magnitude b == 0) ≡ false = grind (arith, nat_tests) in
    rw t (ends x p positive near)
  where
    ends : (x : ℤ) → Within x a → 0 < unsigned_abs y → unsigned_abs y ≤ magnitude b → (least_remainder a.lo (remainder_limit a b) ≤ℤ int_rem x y) × (int_rem x y ≤ℤ greatest_remainder a.hi (remainder_limit a b))
    ends (pos n) p positive near =
        let far : n ≤ magnitude a = within-magnitude (pos n) a.lo a.hi p.0 p.1 in
        let less : n % unsigned_abs y < unsigned_abs y = mod-lt n positive in
        let le : n % unsigned_abs y ≤ n = mod-le n (unsigned_abs y) in
        let low = low-zero a.lo (remainder_limit a b) in
        (omega (arith, ints, low), high-holds a.hi n (remainder_limit a b) (n % unsigned_abs y) p.1 le (omega arith))
    ends (negsuc n) p positive near =
        let far : suc n ≤ magnitude a = within-magnitude (negsuc n) a.lo a.hi p.0 p.1 in
        let less : suc n % unsigned_abs y < unsigned_abs y = mod-lt (suc n) positive in
        let le : suc n % unsigned_abs y ≤ suc n = mod-le (suc n) (unsigned_abs y) in
        let high = zero-high a.hi (remainder_limit a b) in
        (low-holds a.lo n (remainder_limit a b) (suc n % unsigned_abs y) p.0 (omega arith), omega (arith, ints, high))

-- the range, by its ends
pub remainders-none : (a b : Bounds) → magnitude b ≡ 0 → None ≡ remainders a b
remainders-none a b z = let t : (magnitude b == 0) ≡ true = grind (arith, nat_tests) in rw t refl

pub remainders-by : (a b : Bounds) (lo hi : ℤ) → magnitude b ≢ 0 → lo ≡ least_remainder a.lo (remainder_limit a b) → hi ≡ greatest_remainder a.hi (remainder_limit a b) → Some (record { lo = lo; hi = hi }) ≡ remainders a b
remainders-by a b lo hi ne p q = let t : (magnitude b == 0) ≡ false = grind (arith, nat_tests) in rw t (ap Some (same_ends p q))
