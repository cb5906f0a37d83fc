-- Cases on tests, and what equal options hold.
use Rattle.std.specs.Prelude.{ℕ, ◌≡◌, ◌≢◌, ◌==◌, ◌<◌, ◌||◌, nat_lt, nat_eq, Bool, true, false, Some, None, Option, is_some, if◌then◌else◌}
use Rattle.std.proofs.Common.{refl, arith}
use Rattle.std.proofs.lemmas.Bool.Decides.{nat_tests}
use Rattle.std.proofs.lemmas.Bool.{or_parts}
use Rattle.std.proofs.lemmas.Option.{same_Some}
use Rattle.std.specs.Ordering.{is_eq}
use Rattle.std.specs.declared.cmp.Ordering.{Ordering}
use Rattle.std.specs.declared.cmp.Ordering.TheVariants.{Less, Equal, Greater}

pub by_bool : {P : Type 0} (b : Bool) → (b ≡ true → P) → (b ≡ false → P) → P
by_bool true t f = t refl
by_bool false t f = f refl

pub by_test : (a b : ℕ) (P : Bool → Type 0) → (a ≡ b → P true) → (a ≢ b → P false) → P (a == b)
by_test a b P t f = go (a == b) refl
  where
    go : (c : Bool) → (a == b) ≡ c → P c
    go true e = t (grind (arith, nat_tests))
    go false e = f (grind (arith, nat_tests))

-- no test is both true and false
pub not_both : {P : Type 0} (b : Bool) → b ≡ true → b ≡ false → P
not_both b h k = cc

pub or_first : (a b : Bool) → (a || b) ≡ false → a ≡ false
or_first a b h = (or_parts a b h).0

pub or_second : (a b : Bool) → (a || b) ≡ false → b ≡ false
or_second a b h = (or_parts a b h).1

-- what tests of numbers say
pub less_of : (a b : ℕ) → nat_lt a b ≡ true → a < b
less_of a b e = grind (arith, nat_tests)

pub less_test : (a b : ℕ) → a < b → nat_lt a b ≡ true
less_test a b h = grind (arith, nat_tests)

pub equal_test : (a b : ℕ) → a ≡ b → nat_eq a b ≡ true
equal_test a b e = grind (arith, nat_tests)

-- an option that a test gives has its item, and the test is true
pub given_item : {A : Type 0} (b : Bool) (x y : A) → (if b then Some x else None) ≡ Some y → x ≡ y
given_item true x y e = same_Some x y e
given_item false x y e = absurd cc

pub given_test : {A : Type 0} (b : Bool) (x y : A) → (if b then Some x else None) ≡ Some y → b ≡ true
given_test true x y e = refl
given_test false x y e = absurd cc

pub none_of : {A : Type 0} (o : Option A) → is_some o ≡ false → o ≡ None
none_of None e = refl
none_of (Some x) e = cc

pub is_equal : (r : Ordering) → is_eq r ≡ true → r ≡ Equal
is_equal Less e = absurd cc
is_equal Equal e = refl
is_equal Greater e = absurd cc
