-- The order of integers, and that integers which may be missing are compared exactly.
use Rattle.std.specs.Prelude.{◌≡◌, ℤ, ◌≤ℤ◌, ◌<ℤ◌, neg_ℤ, int_lt, true, Option, Some, None, refl}
use Rattle.std.specs.Bool.{Decides}
use Rattle.std.specs.Option.{option_eq}
use Rattle.std.specs.Ordering.{int_eq}
use Rattle.std.proofs.Common.{arith, ap}
use Rattle.std.proofs.lemmas.Bool.Decides.{Decides-int_eq}
use Rattle.std.proofs.lemmas.Option.{same_Some}
use Rattle.std.proofs.lemmas.Int.{ints}

pub at_most : (a b c : ℤ) → a ≤ℤ b → b ≤ℤ c → a ≤ℤ c
at_most a b c p q = omega (arith, ints)

pub between : (a b c d : ℤ) → a ≤ℤ b → b ≤ℤ c → c ≤ℤ d → a ≤ℤ d
between a b c d p q r = omega (arith, ints)

pub crossed : (a b : ℤ) → a <ℤ b → b ≤ℤ a → ⊥
crossed a b p q = omega (arith, ints)

pub equal_at_most : (a b : ℤ) → a ≡ b → a ≤ℤ b
equal_at_most a b e = omega (arith, ints)

pub neg_twice : (a : ℤ) → a ≡ neg_ℤ (neg_ℤ a)
neg_twice a = omega (arith, ints)

pub lower_of : (a b : ℤ) → int_lt a b ≡ true → a <ℤ b
lower_of a b e = grind (arith, ints)

pub word_Decides : (a b : Option ℤ) → Decides (option_eq int_eq a b) (a ≡ b)
word_Decides None None = (λ _. refl, λ _. refl)
word_Decides None (Some y) = (λ e. cc, λ e. cc)
word_Decides (Some x) None = (λ e. cc, λ e. cc)
word_Decides (Some x) (Some y) = (λ e. ap Some ((Decides-int_eq x y).0 e), λ e. (Decides-int_eq x y).1 (same_Some x y e))
