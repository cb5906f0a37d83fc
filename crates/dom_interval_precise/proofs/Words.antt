-- Integers of 64 bits.
use Rattle.std.proofs.Common.{◌≡◌, ap, ◌∙◌, ℕ, ◌<◌, ◌^◌, ℤ, pos, negsuc, ◌≤ℤ◌, Bool, true, false, arith, refl, if◌then◌else◌}
use Rattle.std.proofs.lemmas.Int.{ints}
use Rattle.base_values.proofs.Cases.{less_test}
use Rattle.imp_words.specs.declared.fault.FaultKind.TheVariants.{Overflow}
use Rattle.concrete_sem.specs.Values.{Gives, Faults, IsWord, is_word}
use Rattle.concrete_sem.specs.Evaluation as machine
use Rattle.concrete_sem.proofs.Numbers.{gives_same}
use Rattle.num_bounds.specs.Bounds.{least, greatest}

word-test : (z : ℤ) → least ≤ℤ z → z ≤ℤ greatest → is_word z ≡ true
word-test (pos n) p q = less_test n (2 ^ 63) (below n q)
  where
    below : (n : ℕ) → pos n ≤ℤ greatest → n < 2 ^ 63
    below n q = omega (arith, ints)
word-test (negsuc n) p q = less_test n (2 ^ 63) (below n p)
  where
    below : (n : ℕ) → least ≤ℤ negsuc n → n < 2 ^ 63
    below n p = omega (arith, ints)

pub word-fits : (y z : ℤ) → y ≡ z → least ≤ℤ z → z ≤ℤ greatest → machine.word y ≡ Gives z
word-fits y z e p q = ap machine.word e ∙ rw (word-test z p q) refl

pub word-back : (y z : ℤ) → machine.word y ≡ Gives z → y ≡ z
word-back y z e = by (is_word y) e
  where
    by : (b : Bool) → (if b then Gives y else Faults Overflow) ≡ Gives z → y ≡ z
    by true e = gives_same e
    by false e = cc

pub word-ends : (z : ℤ) → IsWord z → (least ≤ℤ z) × (z ≤ℤ greatest)
word-ends z h = (omega (arith, ints), omega (arith, ints))
