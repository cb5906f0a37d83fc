-- Results that fit 64 bits, and those that do not.
use Rattle.std.specs.Prelude.{◌≡◌, ◌^◌, ◌<◌, nat_lt, ℤ, pos, negsuc, FitsSigned, true, false}
use Rattle.std.specs.Int.{w64}
use Rattle.std.proofs.Common.{refl, arith}
use Rattle.std.proofs.lemmas.Bool.Decides.{nat_tests}
use Rattle.std.proofs.lemmas.Bool.{false_from_ne_true, ltb-true}
use Rattle.imp_words.specs.declared.fault.FaultKind.TheVariants.{Overflow}
use Rattle.concrete_sem.specs.Values.{Gives, Faults, is_word}
use Rattle.concrete_sem.specs.Evaluation.{word}

fits : (z : ℤ) → FitsSigned w64 z → is_word z ≡ true
fits (pos n) f = let h : n < 2 ^ 63 = f.sfits in grind (arith, nat_tests)
fits (negsuc n) f = let h : n < 2 ^ 63 = f.sfits in grind (arith, nat_tests)

does_not : (z : ℤ) → (FitsSigned w64 z → ⊥) → is_word z ≡ false
does_not (pos n) f = false_from_ne_true (nat_lt n (2 ^ 63)) (λ e. f (record { sfits = ltb-true n (2 ^ 63) e }))
does_not (negsuc n) f = false_from_ne_true (nat_lt n (2 ^ 63)) (λ e. f (record { sfits = ltb-true n (2 ^ 63) e }))

pub word_fits : (z : ℤ) → FitsSigned w64 z → word z ≡ Gives z
word_fits z f = rw (fits z f) refl

pub word_does_not_fit : (z : ℤ) → (FitsSigned w64 z → ⊥) → word z ≡ Faults Overflow
word_does_not_fit z f = rw (does_not z f) refl
