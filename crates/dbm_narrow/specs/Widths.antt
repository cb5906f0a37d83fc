-- What the types of entries have in common.
use Rattle.std.specs.Prelude.{◌⊎◌, ◌≡◌, ℕ, ◌≤◌, ◌*◌, ◌^◌, ℤ, pos, neg_ℤ, ◌+ℤ◌, ◌≤ℤ◌, ◌<ℤ◌, int_lt, Bool, cond, false, true, Option, MatchOption}
use prog.Memory.{align, size}
use denote.Param.{layout}
use denote.RattleType.{RattleType}
use Rattle.std.specs.Int.{int_div_euclid, int_max}
use Rattle.std.specs.Ordering.{int_eq}
use Rattle.std.specs.Cmp.{IsEquivalence, decided}
use Rattle.std.proofs.Common.{ap, sym}
use Rattle.std.proofs.lemmas.Bool.{false≢true}
use Rattle.std.proofs.lemmas.Bool.Decides.{Decides-int_eq}

-- a value of the type takes 16 bytes at most, so that arrays of them fit in memory
abbrev pub IsLight : RattleType → Type 0
IsLight R = (size (layout R) ≤ 16) × (align (layout R) ≤ 16)

-- a number from -b to b
abbrev pub IsBound : ℕ → ℤ → Type 0
IsBound b x = (neg_ℤ (pos b) ≤ℤ x) × (x ≤ℤ pos b)

-- a sum for which each width has room: none and none
abbrev pub HasRoom : ℕ → ℤ → Type 0
HasRoom h x = IsBound (64 * h) x

-- a number as step 5 of closing leaves it: no bound is 2^64 or more
abbrev pub cut_number : ℕ → ℤ → ℤ
cut_number h x = cond (int_lt x (pos (2 ^ 64))) x (pos (32 * h))

-- a bound, or none
abbrev pub IsNumber : ℕ → ℤ → Type 0
IsNumber h x = (x <ℤ pos (16 * h)) ⊎ (x ≡ pos (32 * h))

-- what an entry feeds a hasher: 2^29 for none, 0 for what has more than 64 bits
abbrev pub fed_number : ℕ → ℤ → ℤ
fed_number h x = cond (int_lt x (pos (16 * h))) (cond (int_lt x (neg_ℤ (pos (2 ^ 63)))) (pos 0) (cond (int_lt x (pos (2 ^ 63))) x (pos 0))) (pos (2 ^ 29))

-- what a threshold is not less than exactly where it, or its double, is not less than x: half of x, rounded up
abbrev pub start_at : Bool → ℤ → ℤ
start_at doubled x = cond doubled (int_div_euclid (x +ℤ pos 1) (pos 2)) x

-- the least number of 64 bits that is not less than x, none where all are less
abbrev pub IsFirstFrom : ℤ → Option ℤ → Type 0
IsFirstFrom x o = MatchOption o (pos (2 ^ 63) ≤ℤ x) (λ s. s ≡ int_max x (neg_ℤ (pos (2 ^ 63))))

-- true is not false
pub no_true : {A : Type 0} → true ≡ false → A
no_true e = absurd (false≢true (sym e))

-- a function of equals
pub same_of : {A B : Type 0} (f : A → B) {x y : A} → x ≡ y → f x ≡ f y
same_of f e = ap f e

-- what `==` answers
abbrev pub same_int : ℤ → ℤ → Bool
same_int a b = int_eq a b

pub int_equiv : IsEquivalence same_int
int_equiv = decided same_int Decides-int_eq
