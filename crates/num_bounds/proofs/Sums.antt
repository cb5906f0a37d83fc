-- Sums, differences and negations: each in its range, and each number of the range one of them.
use Rattle.std.proofs.Common.{◌≡◌, ℤ, ◌≤ℤ◌, ◌+ℤ◌, ◌-ℤ◌, neg_ℤ, arith}
use Rattle.std.proofs.lemmas.Int.{ints, clamps}
use Rattle.std.specs.Int.{int_min}
use Rattle.num_bounds.specs.Bounds.{Bounds, Within, IsPart}
use Rattle.num_bounds.specs.Meaning.{CoversResults, CoversNegations, IsTaken, IsAllTaken, IsAllNegated}
use Rattle.num_bounds.specs.Operations.{word, sums, differences, negations}
use Rattle.num_bounds.proofs.Ends.{word-covers, word-part}
use Rattle.std.proofs.lemmas.Option.{IfSome_then}

pub sums-sound : (a b : Bounds) → CoversResults ◌+ℤ◌ a b (word (sums a b))
sums-sound a b x y p q f = word-covers (sums a b) (x +ℤ y) (omega (arith, ints, p.0, q.0), omega (arith, ints, p.1, q.1)) f

pub differences-sound : (a b : Bounds) → CoversResults ◌-ℤ◌ a b (word (differences a b))
differences-sound a b x y p q f = word-covers (differences a b) (x -ℤ y) (omega (arith, ints, p.0, q.1), omega (arith, ints, p.1, q.0)) f

pub negations-sound : (a : Bounds) → CoversNegations a (word (negations a))
negations-sound a x p f = word-covers (negations a) (neg_ℤ x) (omega (arith, ints, p.1), omega (arith, ints, p.0)) f

sum-taken : (a b : Bounds) → a.lo ≤ℤ a.hi → b.lo ≤ℤ b.hi → (z : ℤ) → Within z (sums a b) → IsTaken ◌+ℤ◌ a b z
sum-taken a b p q z w =
    let from : (a.lo +ℤ b.lo) ≤ℤ z = w.0 in
    let to : z ≤ℤ (a.hi +ℤ b.hi) = w.1 in (
      int_min a.hi (z -ℤ b.lo),
      z -ℤ int_min a.hi (z -ℤ b.lo),
      (omega (arith, ints, clamps), omega (arith, ints, clamps)),
      (omega (arith, ints, clamps), omega (arith, ints, clamps)),
      omega (arith, ints),
    )

difference-taken : (a b : Bounds) → a.lo ≤ℤ a.hi → b.lo ≤ℤ b.hi → (z : ℤ) → Within z (differences a b) → IsTaken ◌-ℤ◌ a b z
difference-taken a b p q z w =
    let from : (a.lo -ℤ b.hi) ≤ℤ z = w.0 in
    let to : z ≤ℤ (a.hi -ℤ b.lo) = w.1 in (
      int_min a.hi (z +ℤ b.hi),
      int_min a.hi (z +ℤ b.hi) -ℤ z,
      (omega (arith, ints, clamps), omega (arith, ints, clamps)),
      (omega (arith, ints, clamps), omega (arith, ints, clamps)),
      omega (arith, ints),
    )

-- what a part of a range holds, the range holds
part-within : (a b : Bounds) (z : ℤ) → IsPart a b → Within z a → Within z b
part-within a b z p w = (omega (arith, ints, p.0, w.0), omega (arith, ints, p.1, w.1))

pub sums-best : (a b : Bounds) → a.lo ≤ℤ a.hi → b.lo ≤ℤ b.hi → IsAllTaken ◌+ℤ◌ a b (word (sums a b))
sums-best a b p q = IfSome_then (word (sums a b)) {P = λ r. IsPart r (sums a b)} {Q = λ r. (z : ℤ) → Within z r → IsTaken ◌+ℤ◌ a b z} (word-part (sums a b)) (λ r part z w. sum-taken a b p q z (part-within r (sums a b) z part w))

pub differences-best : (a b : Bounds) → a.lo ≤ℤ a.hi → b.lo ≤ℤ b.hi → IsAllTaken ◌-ℤ◌ a b (word (differences a b))
differences-best a b p q = IfSome_then (word (differences a b)) {P = λ r. IsPart r (differences a b)} {Q = λ r. (z : ℤ) → Within z r → IsTaken ◌-ℤ◌ a b z} (word-part (differences a b)) (λ r part z w. difference-taken a b p q z (part-within r (differences a b) z part w))

pub negations-best : (a : Bounds) → IsAllNegated a (word (negations a))
negations-best a = IfSome_then (word (negations a)) {P = λ r. IsPart r (negations a)} {Q = λ r. (z : ℤ) → Within z r → (x : ℤ) × Within x a × (neg_ℤ x ≡ z)} (word-part (negations a))
    (λ r part z w. let v = part-within r (negations a) z part w in (neg_ℤ z, (omega (arith, ints, v.1), omega (arith, ints, v.0)), omega (arith, ints)))
