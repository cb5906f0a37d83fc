-- Which sums, differences, products and quotients lie in 64 bits, by comparisons.
use Rattle.std.proofs.Common.{◌≡◌, ℕ, zero, suc, ◌*◌, ◌/◌, ◌^◌, ◌<◌, ◌≤◌, ℤ, pos, negsuc, ◌+ℤ◌, ◌-ℤ◌, ◌*ℤ◌, neg_ℤ, ◌≤ℤ◌, ◌<ℤ◌, int_le, int_div, Bool, true, false, not, if◌then◌else◌, refl, sym, ◌∙◌, arith, inl, inr}
use Rattle.std.specs.Int.{w64}
use Rattle.std.specs.Ordering.{int_eq}
use Rattle.std.proofs.lemmas.Int.{ints, quot_fits}
use Rattle.std.proofs.lemmas.Bool.{lt-ltb, le-ltb, cases_lt}
use Rattle.std.proofs.lemmas.Nat.{le-div}
use Rattle.std.proofs.Math.Nat.{mul-le-mul_left, mul-le-mul_right, div-mul-le_self}
use Rattle.concrete_sem.specs.Values.{is_word, IsWord}
use Rattle.concrete_sem.proofs.Numbers.{word_of}
use Rattle.base_values.proofs.Cases.{by_bool}

-- the greatest and the least integer of 64 bits
abbrev pub most : ℤ
most = pos 9223372036854775807

abbrev pub fewest : ℤ
fewest = negsuc 9223372036854775807

pub high : (z : ℤ) → IsWord z → z ≤ℤ most
high (pos n) f = let h : n < 2 ^ 63 = f.sfits in omega (arith, ints)
high (negsuc n) f = omega (arith, ints)

pub low : (z : ℤ) → IsWord z → fewest ≤ℤ z
low (pos n) f = omega (arith, ints)
low (negsuc n) f = let h : n < 2 ^ 63 = f.sfits in omega (arith, ints)

-- z is a word where it is between both
pub is_word-within : (z : ℤ) → fewest ≤ℤ z → z ≤ℤ most → is_word z ≡ true
is_word-within (pos n) p q = lt-ltb n (2 ^ 63) (omega (arith, ints))
is_word-within (negsuc n) p q = lt-ltb n (2 ^ 63) (omega (arith, ints))

pub is_word-above : (z : ℤ) → most <ℤ z → is_word z ≡ false
is_word-above (pos n) p = le-ltb n (2 ^ 63) (omega (arith, ints))
is_word-above (negsuc n) p = absurd (omega (arith, ints))

pub is_word-below : (z : ℤ) → z <ℤ fewest → is_word z ≡ false
is_word-below (pos n) p = absurd (omega (arith, ints))
is_word-below (negsuc n) p = le-ltb n (2 ^ 63) (omega (arith, ints))

pub word_within : (z : ℤ) → fewest ≤ℤ z → z ≤ℤ most → IsWord z
word_within z p q = word_of z (is_word-within z p q)

pub le_of : (x y : ℤ) → int_le x y ≡ true → x ≤ℤ y
le_of x y e = grind (arith, ints)

pub lt_of : (x y : ℤ) → int_le x y ≡ false → y <ℤ x
lt_of x y e = grind (arith, ints)

pub of_le : (x y : ℤ) → x ≤ℤ y → int_le x y ≡ true
of_le x y e = grind (arith, ints)

pub of_lt : (x y : ℤ) → y <ℤ x → int_le x y ≡ false
of_lt x y e = grind (arith, ints)

-- a test between a bound and what is bounded: one of two tests, or both
abbrev pub one_of : Bool → Bool → Bool
one_of p q = if p then true else q

abbrev pub both_of : Bool → Bool → Bool
both_of p q = if p then q else false

abbrev pub sum_test : ℤ → ℤ → Bool
sum_test x y = both_of (one_of (int_le y (pos 0)) (int_le x (most -ℤ y))) (one_of (int_le (pos 0) y) (int_le (fewest -ℤ y) x))

abbrev pub difference_test : ℤ → ℤ → Bool
difference_test x y = both_of (one_of (int_le (pos 0) y) (int_le x (most +ℤ y))) (one_of (int_le y (pos 0)) (int_le (fewest +ℤ y) x))

-- the truth values of either and of both
one_left : (p q : Bool) → p ≡ true → one_of p q ≡ true
one_left p q e = rw e

one_right : (p q : Bool) → q ≡ true → one_of p q ≡ true
one_right true q e = refl
one_right false q e = e

one_skip : (p q r : Bool) → p ≡ false → q ≡ r → one_of p q ≡ r
one_skip p q r e f = rw e f

both_true : (p q : Bool) → p ≡ true → q ≡ true → both_of p q ≡ true
both_true p q e f = rw e f

both_left : (p q : Bool) → p ≡ false → both_of p q ≡ false
both_left p q e = rw e

both_right : (p q : Bool) → q ≡ false → both_of p q ≡ false
both_right true q e = e
both_right false q e = refl

both_first : (p q r : Bool) → p ≡ r → q ≡ true → both_of p q ≡ r
both_first p q true e f = both_true p q e f
both_first p q false e f = both_left p q e

both_second : (p q r : Bool) → p ≡ true → q ≡ r → both_of p q ≡ r
both_second p q r e f = rw e f

-- a number by what it is compared with the two ends
by_ends : {P : Type 0} (z : ℤ) → (fewest ≤ℤ z → z ≤ℤ most → P) → (most <ℤ z → P) → (z <ℤ fewest → P) → P
by_ends z f g h =
    by_bool (int_le z most)
    (λ a. by_bool (int_le fewest z) (λ b. f (le_of fewest z b) (le_of z most a)) (λ b. h (lt_of fewest z b)))
    (λ a. g (lt_of z most a))

pub sum-exact : (x y : ℤ) → IsWord x → IsWord y → sum_test x y ≡ is_word (x +ℤ y)
sum-exact x y f g =
    let xl = low x f in
    let xh = high x f in
    let yl = low y g in
    let yh = high y g in
    by_ends (x +ℤ y)
    (λ a b. both_true _ _ (one_right _ _ (of_le x (most -ℤ y) (omega (arith, ints)))) (one_right _ _ (of_le (fewest -ℤ y) x (omega (arith, ints)))) ∙ sym (is_word-within (x +ℤ y) a b))
    (λ a. both_left _ _ (one_skip _ _ false (of_lt y (pos 0) (omega (arith, ints))) (of_lt x (most -ℤ y) (omega (arith, ints)))) ∙ sym (is_word-above (x +ℤ y) a))
    (λ a. both_right _ _ (one_skip _ _ false (of_lt (pos 0) y (omega (arith, ints))) (of_lt (fewest -ℤ y) x (omega (arith, ints)))) ∙ sym (is_word-below (x +ℤ y) a))

pub difference-exact : (x y : ℤ) → IsWord x → IsWord y → difference_test x y ≡ is_word (x -ℤ y)
difference-exact x y f g =
    let xl = low x f in
    let xh = high x f in
    let yl = low y g in
    let yh = high y g in
    by_ends (x -ℤ y)
    (λ a b. both_true _ _ (one_right _ _ (of_le x (most +ℤ y) (omega (arith, ints)))) (one_right _ _ (of_le (fewest +ℤ y) x (omega (arith, ints)))) ∙ sym (is_word-within (x -ℤ y) a b))
    (λ a. both_left _ _ (one_skip _ _ false (of_lt (pos 0) y (omega (arith, ints))) (of_lt x (most +ℤ y) (omega (arith, ints)))) ∙ sym (is_word-above (x -ℤ y) a))
    (λ a. both_right _ _ (one_skip _ _ false (of_lt y (pos 0) (omega (arith, ints))) (of_lt (fewest +ℤ y) x (omega (arith, ints)))) ∙ sym (is_word-below (x -ℤ y) a))

pub opposite-exact : (x : ℤ) → IsWord x → int_le (negsuc 9223372036854775806) x ≡ is_word (neg_ℤ x)
opposite-exact x f =
    let xl = low x f in
    let xh = high x f in
    by_ends (neg_ℤ x)
    (λ a b. of_le (negsuc 9223372036854775806) x (omega (arith, ints)) ∙ sym (is_word-within (neg_ℤ x) a b))
    (λ a. of_lt (negsuc 9223372036854775806) x (omega (arith, ints)) ∙ sym (is_word-above (neg_ℤ x) a))
    (λ a. absurd (omega (arith, ints)))

-- Products.
abbrev first : ℤ → ℤ → Bool
first x y = one_of (int_le x (pos 0)) (one_of (int_le y (pos 0)) (int_le x (int_div most y)))

abbrev second : ℤ → ℤ → Bool
second x y = one_of (int_le x (pos 0)) (one_of (int_le (pos 0) y) (int_le (int_div fewest x) y))

abbrev third : ℤ → ℤ → Bool
third x y = one_of (int_le (pos 0) x) (one_of (int_le y (pos 0)) (int_le (int_div fewest y) x))

abbrev fourth : ℤ → ℤ → Bool
fourth x y = one_of (int_le (pos 0) x) (one_of (int_le (pos 0) y) (int_le (int_div most y) x))

abbrev pub product_test : ℤ → ℤ → Bool
product_test x y =
    both_of
    (both_of
    (one_of (int_le x (pos 0)) (one_of (int_le y (pos 0)) (int_le x (int_div most y))))
    (one_of (int_le x (pos 0)) (one_of (int_le (pos 0) y) (int_le (int_div fewest x) y))))
    (both_of
    (one_of (int_le (pos 0) x) (one_of (int_le y (pos 0)) (int_le (int_div fewest y) x)))
    (one_of (int_le (pos 0) x) (one_of (int_le (pos 0) y) (int_le (int_div most y) x))))

any_first : (p q r : Bool) → p ≡ true → one_of p (one_of q r) ≡ true
any_first p q r e = one_left p (one_of q r) e

any_second : (p q r : Bool) → q ≡ true → one_of p (one_of q r) ≡ true
any_second p q r e = one_right p (one_of q r) (one_left q r e)

any_third : (p q r c : Bool) → p ≡ false → q ≡ false → r ≡ c → one_of p (one_of q r) ≡ c
any_third p q r c e f g = one_skip p (one_of q r) c e (one_skip q r c f g)

by_first : (f s t u c : Bool) → f ≡ c → s ≡ true → t ≡ true → u ≡ true → both_of (both_of f s) (both_of t u) ≡ c
by_first f s t u c a b d e = both_first (both_of f s) (both_of t u) c (both_first f s c a b) (both_true t u d e)

by_second : (f s t u c : Bool) → f ≡ true → s ≡ c → t ≡ true → u ≡ true → both_of (both_of f s) (both_of t u) ≡ c
by_second f s t u c a b d e = both_first (both_of f s) (both_of t u) c (both_second f s c a b) (both_true t u d e)

by_third : (f s t u c : Bool) → f ≡ true → s ≡ true → t ≡ c → u ≡ true → both_of (both_of f s) (both_of t u) ≡ c
by_third f s t u c a b d e = both_second (both_of f s) (both_of t u) c (both_true f s a b) (both_first t u c d e)

by_fourth : (f s t u c : Bool) → f ≡ true → s ≡ true → t ≡ true → u ≡ c → both_of (both_of f s) (both_of t u) ≡ c
by_fourth f s t u c a b d e = both_second (both_of f s) (both_of t u) c (both_true f s a b) (both_second t u c d e)

-- a test holds by the sign of a factor
first_x : (x y : ℤ) → x ≤ℤ pos 0 → first x y ≡ true
first_x x y h = any_first (int_le x (pos 0)) (int_le y (pos 0)) (int_le x (int_div most y)) (of_le x (pos 0) h)

first_y : (x y : ℤ) → y ≤ℤ pos 0 → first x y ≡ true
first_y x y h = any_second (int_le x (pos 0)) (int_le y (pos 0)) (int_le x (int_div most y)) (of_le y (pos 0) h)

second_x : (x y : ℤ) → x ≤ℤ pos 0 → second x y ≡ true
second_x x y h = any_first (int_le x (pos 0)) (int_le (pos 0) y) (int_le (int_div fewest x) y) (of_le x (pos 0) h)

second_y : (x y : ℤ) → pos 0 ≤ℤ y → second x y ≡ true
second_y x y h = any_second (int_le x (pos 0)) (int_le (pos 0) y) (int_le (int_div fewest x) y) (of_le (pos 0) y h)

third_x : (x y : ℤ) → pos 0 ≤ℤ x → third x y ≡ true
third_x x y h = any_first (int_le (pos 0) x) (int_le y (pos 0)) (int_le (int_div fewest y) x) (of_le (pos 0) x h)

third_y : (x y : ℤ) → y ≤ℤ pos 0 → third x y ≡ true
third_y x y h = any_second (int_le (pos 0) x) (int_le y (pos 0)) (int_le (int_div fewest y) x) (of_le y (pos 0) h)

fourth_x : (x y : ℤ) → pos 0 ≤ℤ x → fourth x y ≡ true
fourth_x x y h = any_first (int_le (pos 0) x) (int_le (pos 0) y) (int_le (int_div most y) x) (of_le (pos 0) x h)

fourth_y : (x y : ℤ) → pos 0 ≤ℤ y → fourth x y ≡ true
fourth_y x y h = any_second (int_le (pos 0) x) (int_le (pos 0) y) (int_le (int_div most y) x) (of_le (pos 0) y h)

times_up : (a b m : ℕ) → a ≤ m / b → a * b ≤ m
times_up a b m h =
    let k : a * b ≤ m / b * b = mul-le-mul_right b h in
    let j : m / b * b ≤ m = div-mul-le_self m b in omega arith

times_over : (a b m : ℕ) → 0 < b → m / b < a → m < a * b
times_over a b m p h = elim (cases_lt m (a * b)) [
  | inl k ↦ k
  | inr k ↦ let j : a ≤ m / b = le-div a m b p k in absurd (omega arith)
]

-- both positive
product_pp : (a b : ℕ) → int_le (pos (suc a)) (int_div most (pos (suc b))) ≡ is_word (pos (suc a) *ℤ pos (suc b))
product_pp a b =
    by_bool (int_le (pos (suc a)) (int_div most (pos (suc b))))
    (λ t.
    let h = le_of (pos (suc a)) (int_div most (pos (suc b))) t in
    let k : suc a * suc b ≤ 9223372036854775807 = times_up (suc a) (suc b) 9223372036854775807 (omega (arith, ints)) in
    t ∙ sym (is_word-within (pos (suc a) *ℤ pos (suc b)) (omega (arith, ints)) (omega (arith, ints))))
    (λ t.
    let h = lt_of (pos (suc a)) (int_div most (pos (suc b))) t in
    let k : 9223372036854775807 < suc a * suc b = times_over (suc a) (suc b) 9223372036854775807 (omega arith) (omega (arith, ints)) in
    t ∙ sym (is_word-above (pos (suc a) *ℤ pos (suc b)) (omega (arith, ints))))

-- the first positive, the second negative
product_pn : (a b : ℕ) → int_le (int_div fewest (pos (suc a))) (negsuc b) ≡ is_word (pos (suc a) *ℤ negsuc b)
product_pn a b =
    by_bool (int_le (int_div fewest (pos (suc a))) (negsuc b))
    (λ t.
    let h = le_of (int_div fewest (pos (suc a))) (negsuc b) t in
    let k : suc b * suc a ≤ 9223372036854775808 = times_up (suc b) (suc a) 9223372036854775808 (omega (arith, ints)) in
    t ∙ sym (is_word-within (pos (suc a) *ℤ negsuc b) (omega (arith, ints)) (omega (arith, ints))))
    (λ t.
    let h = lt_of (int_div fewest (pos (suc a))) (negsuc b) t in
    let k : 9223372036854775808 < suc b * suc a = times_over (suc b) (suc a) 9223372036854775808 (omega arith) (omega (arith, ints)) in
    t ∙ sym (is_word-below (pos (suc a) *ℤ negsuc b) (omega (arith, ints))))

-- the first negative, the second positive
product_np : (a b : ℕ) → int_le (int_div fewest (pos (suc b))) (negsuc a) ≡ is_word (negsuc a *ℤ pos (suc b))
product_np a b =
    by_bool (int_le (int_div fewest (pos (suc b))) (negsuc a))
    (λ t.
    let h = le_of (int_div fewest (pos (suc b))) (negsuc a) t in
    let k : suc a * suc b ≤ 9223372036854775808 = times_up (suc a) (suc b) 9223372036854775808 (omega (arith, ints)) in
    t ∙ sym (is_word-within (negsuc a *ℤ pos (suc b)) (omega (arith, ints)) (omega (arith, ints))))
    (λ t.
    let h = lt_of (int_div fewest (pos (suc b))) (negsuc a) t in
    let k : 9223372036854775808 < suc a * suc b = times_over (suc a) (suc b) 9223372036854775808 (omega arith) (omega (arith, ints)) in
    t ∙ sym (is_word-below (negsuc a *ℤ pos (suc b)) (omega (arith, ints))))

-- both negative
product_nn : (a b : ℕ) → int_le (int_div most (negsuc b)) (negsuc a) ≡ is_word (negsuc a *ℤ negsuc b)
product_nn a b =
    by_bool (int_le (int_div most (negsuc b)) (negsuc a))
    (λ t.
    let h = le_of (int_div most (negsuc b)) (negsuc a) t in
    let k : suc a * suc b ≤ 9223372036854775807 = times_up (suc a) (suc b) 9223372036854775807 (omega (arith, ints)) in
    t ∙ sym (is_word-within (negsuc a *ℤ negsuc b) (omega (arith, ints)) (omega (arith, ints))))
    (λ t.
    let h = lt_of (int_div most (negsuc b)) (negsuc a) t in
    let k : 9223372036854775807 < suc a * suc b = times_over (suc a) (suc b) 9223372036854775807 (omega arith) (omega (arith, ints)) in
    t ∙ sym (is_word-above (negsuc a *ℤ negsuc b) (omega (arith, ints))))

within_true : (z : ℤ) → fewest ≤ℤ z → z ≤ℤ most → true ≡ is_word z
within_true z p q = sym (is_word-within z p q)

by_tests : (x y : ℤ) → first x y ≡ true → second x y ≡ true → third x y ≡ true → fourth x y ≡ true → product_test x y ≡ true
by_tests x y a b c d = by_first (first x y) (second x y) (third x y) (fourth x y) true a b c d

zero_right : (x : ℤ) → product_test x (pos zero) ≡ true
zero_right x = by_tests x (pos zero) (first_y x (pos zero) (omega (arith, ints))) (second_y x (pos zero) (omega (arith, ints))) (third_y x (pos zero) (omega (arith, ints))) (fourth_y x (pos zero) (omega (arith, ints)))

pub product-exact : (x y : ℤ) → product_test x y ≡ is_word (x *ℤ y)
product-exact (pos zero) y =
    by_tests (pos zero) y (first_x (pos zero) y (omega (arith, ints))) (second_x (pos zero) y (omega (arith, ints))) (third_x (pos zero) y (omega (arith, ints))) (fourth_x (pos zero) y (omega (arith, ints)))
    ∙ within_true (pos zero *ℤ y) (omega (arith, ints)) (omega (arith, ints))
product-exact (pos (suc a)) (pos zero) = zero_right (pos (suc a)) ∙ within_true (pos (suc a) *ℤ pos zero) (omega (arith, ints)) (omega (arith, ints))
product-exact (pos (suc a)) (pos (suc b)) =
    let x : ℤ = pos (suc a) in
    let y : ℤ = pos (suc b) in
    by_first (first x y) (second x y) (third x y) (fourth x y) (is_word (x *ℤ y))
    (any_third (int_le x (pos 0)) (int_le y (pos 0)) (int_le x (int_div most y)) (is_word (x *ℤ y)) (of_lt x (pos 0) (omega (arith, ints))) (of_lt y (pos 0) (omega (arith, ints))) (product_pp a b))
    (second_y x y (omega (arith, ints))) (third_x x y (omega (arith, ints))) (fourth_x x y (omega (arith, ints)))
product-exact (pos (suc a)) (negsuc b) =
    let x : ℤ = pos (suc a) in
    let y : ℤ = negsuc b in
    by_second (first x y) (second x y) (third x y) (fourth x y) (is_word (x *ℤ y))
    (first_y x y (omega (arith, ints)))
    (any_third (int_le x (pos 0)) (int_le (pos 0) y) (int_le (int_div fewest x) y) (is_word (x *ℤ y)) (of_lt x (pos 0) (omega (arith, ints))) (of_lt (pos 0) y (omega (arith, ints))) (product_pn a b))
    (third_x x y (omega (arith, ints))) (fourth_x x y (omega (arith, ints)))
product-exact (negsuc a) (pos zero) = zero_right (negsuc a) ∙ within_true (negsuc a *ℤ pos zero) (omega (arith, ints)) (omega (arith, ints))
product-exact (negsuc a) (pos (suc b)) =
    let x : ℤ = negsuc a in
    let y : ℤ = pos (suc b) in
    by_third (first x y) (second x y) (third x y) (fourth x y) (is_word (x *ℤ y))
    (first_x x y (omega (arith, ints))) (second_x x y (omega (arith, ints)))
    (any_third (int_le (pos 0) x) (int_le y (pos 0)) (int_le (int_div fewest y) x) (is_word (x *ℤ y)) (of_lt (pos 0) x (omega (arith, ints))) (of_lt y (pos 0) (omega (arith, ints))) (product_np a b))
    (fourth_y x y (omega (arith, ints)))
product-exact (negsuc a) (negsuc b) =
    let x : ℤ = negsuc a in
    let y : ℤ = negsuc b in
    by_fourth (first x y) (second x y) (third x y) (fourth x y) (is_word (x *ℤ y))
    (first_x x y (omega (arith, ints))) (second_x x y (omega (arith, ints))) (third_y x y (omega (arith, ints)))
    (any_third (int_le (pos 0) x) (int_le (pos 0) y) (int_le (int_div most y) x) (is_word (x *ℤ y)) (of_lt (pos 0) x (omega (arith, ints))) (of_lt (pos 0) y (omega (arith, ints))) (product_nn a b))

-- Quotients: only the least number by -1 lies outside.
abbrev pub quotient_test : ℤ → ℤ → Bool
quotient_test x y = one_of (not (int_eq y (negsuc 0))) (int_le (negsuc 9223372036854775806) x)

smaller : (m n : ℕ) → m / suc n ≤ m
smaller m n = let j : m / suc n * suc n ≤ m = div-mul-le_self m (suc n) in omega arith

pub quotient-exact : (x y : ℤ) → int_eq y (pos 0) ≡ false → IsWord x → quotient_test x y ≡ is_word (int_div x y)
quotient-exact x (pos zero) n f = absurd cc
quotient-exact x (pos (suc b)) n f =
    let w = quot_fits w64 x (pos (suc b)) f (omega (arith, ints)) in
    one_left (not (int_eq (pos (suc b)) (negsuc 0))) (int_le (negsuc 9223372036854775806) x) refl ∙ within_true (int_div x (pos (suc b))) (low (int_div x (pos (suc b))) w) (high (int_div x (pos (suc b))) w)
quotient-exact x (negsuc zero) n f = one_skip (not (int_eq (negsuc zero) (negsuc 0))) (int_le (negsuc 9223372036854775806) x) (is_word (int_div x (negsuc zero))) refl (by_one x f)
  where
    by_one : (x : ℤ) → IsWord x → int_le (negsuc 9223372036854775806) x ≡ is_word (int_div x (negsuc zero))
    by_one (pos a) f = let h : a < 2 ^ 63 = f.sfits in of_le (negsuc 9223372036854775806) (pos a) (omega (arith, ints)) ∙ sym (is_word-within (int_div (pos a) (negsuc zero)) (omega (arith, ints)) (omega (arith, ints)))
    by_one (negsuc a) f =
        let h : a < 2 ^ 63 = f.sfits in
        by_bool (int_le (negsuc 9223372036854775806) (negsuc a))
        (λ t. let k = le_of (negsuc 9223372036854775806) (negsuc a) t in t ∙ sym (is_word-within (int_div (negsuc a) (negsuc zero)) (omega (arith, ints)) (omega (arith, ints))))
        (λ t. let k = lt_of (negsuc 9223372036854775806) (negsuc a) t in t ∙ sym (is_word-above (int_div (negsuc a) (negsuc zero)) (omega (arith, ints))))
quotient-exact x (negsuc (suc b)) n f = one_left (not (int_eq (negsuc (suc b)) (negsuc 0))) (int_le (negsuc 9223372036854775806) x) (other b) ∙ sym (by_more x f)
  where
    other : (b : ℕ) → not (int_eq (negsuc (suc b)) (negsuc 0)) ≡ true
    other b = grind (arith, ints)

    by_more : (x : ℤ) → IsWord x → is_word (int_div x (negsuc (suc b))) ≡ true
    by_more (pos a) f = let h : a < 2 ^ 63 = f.sfits in let k = smaller a (suc b) in is_word-within (int_div (pos a) (negsuc (suc b))) (omega (arith, ints)) (omega (arith, ints))
    by_more (negsuc a) f =
        let h : a < 2 ^ 63 = f.sfits in
        let j : suc a / suc (suc b) * suc (suc b) ≤ suc a = div-mul-le_self (suc a) (suc (suc b)) in
        let k : suc a / suc (suc b) < 2 ^ 63 = half (suc a / suc (suc b)) b (suc a) j (omega arith) in
        is_word-within (int_div (negsuc a) (negsuc (suc b))) (omega (arith, ints)) (omega (arith, ints))
      where
        half : (q b m : ℕ) → q * suc (suc b) ≤ m → m ≤ 2 ^ 63 → q < 2 ^ 63
        half q b m h k = let j : q * 2 ≤ q * suc (suc b) = mul-le-mul_left q (omega arith) in omega arith

-- the quotients that bound factors lie in 64 bits
pub most_quotient : (y : ℤ) → int_eq y (pos 0) ≡ false → IsWord (int_div most y)
most_quotient (pos zero) n = absurd cc
most_quotient (pos (suc b)) n = let k = smaller 9223372036854775807 b in word_within (int_div most (pos (suc b))) (omega (arith, ints)) (omega (arith, ints))
most_quotient (negsuc b) n = let k = smaller 9223372036854775807 b in word_within (int_div most (negsuc b)) (omega (arith, ints)) (omega (arith, ints))

pub fewest_quotient : (y : ℤ) → int_le y (pos 0) ≡ false → IsWord (int_div fewest y)
fewest_quotient y n = quot_fits w64 fewest y (record { sfits = omega arith }) (lt_of y (pos 0) n)

pub not_zero_above : (y : ℤ) → int_le y (pos 0) ≡ false → int_eq y (pos 0) ≡ false
not_zero_above y n = let h = lt_of y (pos 0) n in grind (arith, ints)

pub not_zero_below : (y : ℤ) → int_le (pos 0) y ≡ false → int_eq y (pos 0) ≡ false
not_zero_below y n = let h = lt_of (pos 0) y n in grind (arith, ints)
