-- When digits are a number.
use Rattle.std.proofs.Common.{◌≡◌, ℕ, ◌+◌, ◌-◌, ◌*◌, ◌<◌, ◌≤◌, ◌^◌, ◌&&◌, ◌⊎◌, nat_le, nat_lt, List, [], length, drop, slice_index_or, Bool, true, false, Some, None, if◌then◌else◌, inl, inr, add-one, sym, ◌∙◌, ap, refl, arith}
use Rattle.std.proofs.Math.Seq.{drop-cons}
use Rattle.std.proofs.lemmas.List.{drop_all}
use Rattle.std.proofs.lemmas.Bool.Decides.{nat_tests}
use Rattle.std.specs.List.{list_all}
use Rattle.imp_lex.specs.Front.{is_digit}
use Rattle.imp_lex.specs.Numbers.{value_on}
use Rattle.request_json.specs.Places.{number_of}
use Rattle.imp_lex.proofs.Digits.{value_grows}

no_third : (a b d : Bool) (n : ℕ) → (if a && b && false && d then Some n else None) ≡ None
no_third a b d n = elim a as (λ a. (if a && b && false && d then Some n else None) ≡ None)
    [ true ↦ elim b as (λ b. (if b && false && d then Some n else None) ≡ None) [ true ↦ refl | false ↦ refl ] | false ↦ refl ]

no_fourth : (x : Bool) (n : ℕ) → (if x && false then Some n else None) ≡ None
no_fourth x n = elim x as (λ x. (if x && false then Some n else None) ≡ None) [ true ↦ refl | false ↦ refl ]

pub no_digits : (digits : List ℕ) → length digits < 1 → number_of digits ≡ None
unfolding number_of
no_digits digits few = let bad : nat_le 1 (length digits) ≡ false = grind (arith, nat_tests) in rw bad refl

pub many_digits : (digits : List ℕ) → 10 < length digits → number_of digits ≡ None
unfolding number_of
many_digits digits many =
    let bad : nat_le (length digits) 10 ≡ false = grind (arith, nat_tests) in
    let some : nat_le 1 (length digits) ≡ true = grind (arith, nat_tests) in
    rw (bad, some) refl

other_bytes : (digits : List ℕ) → list_all is_digit digits ≡ false → number_of digits ≡ None
unfolding number_of
other_bytes digits bad = rw bad (no_third (nat_le 1 (length digits)) (nat_le (length digits) 10) (nat_lt (value_on 0 digits) (2 ^ 32)) (value_on 0 digits))

too_large : (digits : List ℕ) → 2 ^ 32 ≤ value_on 0 digits → number_of digits ≡ None
unfolding number_of
too_large digits large =
    let bad : nat_lt (value_on 0 digits) (2 ^ 32) ≡ false = grind (arith, nat_tests) in
    rw bad (no_fourth (nat_le 1 (length digits) && nat_le (length digits) 10 && list_all is_digit digits) (value_on 0 digits))

-- the digits from a place on: the first, and those after it
value_at : (digits : List ℕ) (i value : ℕ) → i < length digits →
    value_on value (drop i digits) ≡ value_on (value * 10 + (slice_index_or digits i 0 - 48)) (drop (i + 1) digits)
value_at digits i value within = rw (add-one, drop-cons digits i 0 within) refl

all_at : (digits : List ℕ) (i : ℕ) → i < length digits →
    list_all is_digit (drop i digits) ≡ (is_digit (slice_index_or digits i 0) && list_all is_digit (drop (i + 1) digits))
all_at digits i within = rw (add-one, drop-cons digits i 0 within) refl

pub value_step : (digits : List ℕ) (i value next : ℕ) → i < length digits → next ≡ value * 10 + (slice_index_or digits i 0 - 48) →
    value_on value (drop i digits) ≡ value_on 0 digits → value_on next (drop (i + 1) digits) ≡ value_on 0 digits
value_step digits i value next within is from = ap (λ v. value_on v (drop (i + 1) digits)) is ∙ sym (value_at digits i value within) ∙ from

pub all_on : (digits : List ℕ) (i : ℕ) → i < length digits → is_digit (slice_index_or digits i 0) ≡ true →
    list_all is_digit (drop i digits) ≡ list_all is_digit digits → list_all is_digit (drop (i + 1) digits) ≡ list_all is_digit digits
all_on digits i within is from = ap (λ b. b && list_all is_digit (drop (i + 1) digits)) (sym is) ∙ sym (all_at digits i within) ∙ from

-- no number goes on so
pub stops : (digits : List ℕ) (i value : ℕ) → i < length digits →
    value_on value (drop i digits) ≡ value_on 0 digits → list_all is_digit (drop i digits) ≡ list_all is_digit digits →
    (is_digit (slice_index_or digits i 0) ≡ false) ⊎ (2 ^ 32 ≤ value * 10 + (slice_index_or digits i 0 - 48)) → number_of digits ≡ None
stops digits i value within same_value same_all why = elim why [
  | inl other ↦ other_bytes digits (sym same_all ∙ all_at digits i within ∙ ap (λ b. b && list_all is_digit (drop (i + 1) digits)) other)
  | inr large ↦
      let grows : value * 10 + (slice_index_or digits i 0 - 48) ≤ value_on (value * 10 + (slice_index_or digits i 0 - 48)) (drop (i + 1) digits) = value_grows (value * 10 + (slice_index_or digits i 0 - 48)) (drop (i + 1) digits) in
      let is : value_on (value * 10 + (slice_index_or digits i 0 - 48)) (drop (i + 1) digits) ≡ value_on 0 digits = sym (value_at digits i value within) ∙ same_value in
      too_large digits (omega arith)
]

-- all digits are passed
pub ends : (digits : List ℕ) (i value : ℕ) → length digits ≤ i → 1 ≤ length digits → length digits ≤ 10 → value < 2 ^ 32 →
    value_on value (drop i digits) ≡ value_on 0 digits → list_all is_digit (drop i digits) ≡ list_all is_digit digits →
    number_of digits ≡ Some value
unfolding number_of
ends digits i value past some few small same_value same_all =
    let none : drop i digits ≡ [] = drop_all i digits past in
    let all : list_all is_digit digits ≡ true = sym same_all ∙ ap (list_all is_digit) none in
    let is : value_on 0 digits ≡ value = sym same_value ∙ ap (value_on value) none in
    let t1 : nat_le 1 (length digits) ≡ true = grind (arith, nat_tests) in
    let t2 : nat_le (length digits) 10 ≡ true = grind (arith, nat_tests) in
    let t3 : nat_lt value (2 ^ 32) ≡ true = grind (arith, nat_tests) in
    rw (all, is, t1, t2, t3) refl
