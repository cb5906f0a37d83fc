-- The truth values of claims: each holds exactly where its result lies in 64 bits.
use Rattle.std.specs.Prelude.{◌≡◌, ℕ, ℤ, pos, negsuc, ◌+ℤ◌, ◌-ℤ◌, ◌*ℤ◌, neg_ℤ, int_le, int_div, int_rem, Bool, true, false, not, if◌then◌else◌}
use Rattle.std.specs.Ordering.{int_eq}
use Rattle.std.proofs.Common.{refl, ap, ◌∙◌, inl, inr, arith}
use Rattle.std.proofs.lemmas.Int.{ints}
use Rattle.imp_syntax.specs.declared.words.Operator.{Operator}
use Rattle.imp_syntax.specs.declared.words.Operator.TheVariants.{Add, Subtract, Multiply, Divide, Remainder}
use Rattle.imp_syntax.specs.declared.words.Relation.{Relation}
use Rattle.imp_syntax.specs.declared.words.Relation.TheVariants.{NotEqual, AtMost, AtLeast}
use Rattle.imp_slots.specs.Plain.{Term, Literal, Negative, Binary, Guard, Compare, And, Or}
use Rattle.imp_words.specs.declared.fault.FaultKind.TheVariants.{Overflow, Zero}
use Rattle.concrete_sem.specs.Values.{Variables, Gives, Faults, andthen, is_word, IsWord}
use Rattle.concrete_sem.specs.Evaluation.{value_of, truth_of, relates, word, quotient, combine}
use Rattle.fault_points.specs.Points.{greatest, lowest, least, zero, sum_fits, difference_fits, product_fits, opposite_fits, quotient_fits, is_divisor, is_length, operator_points}
use Rattle.fault_points.specs.Exact.{AreExact}
use Rattle.fault_points.proofs.Sequences.{or_is, and_is, one_point, map_exact}
use Rattle.fault_points.proofs.Words.{most, fewest, high, low, is_word-within, sum-exact, difference-exact, opposite-exact, product-exact, quotient-exact, most_quotient, fewest_quotient, not_zero_above, not_zero_below, lt_of, word_within}

-- an integer of 64 bits is given
fits_word : (b : Bool) (z : ℤ) → b ≡ true → (if b then Gives z else Faults Overflow) ≡ Gives z
fits_word true z e = refl
fits_word false z e = absurd (cc)

word_is : (z : ℤ) → IsWord z → word z ≡ Gives z
word_is z f = fits_word (is_word z) z (is_word-within z (low z f) (high z f))

quotient_if : (b : Bool) (z : ℤ) → b ≡ false → word z ≡ Gives z → (if b then Faults Zero else word z) ≡ Gives z
quotient_if true z e f = absurd (cc)
quotient_if false z e f = f

quotient_is : (x y : ℤ) → int_eq y (pos 0) ≡ false → IsWord (int_div x y) → quotient x y ≡ Gives (int_div x y)
quotient_is x y n f = quotient_if (int_eq y (pos 0)) (int_div x y) n (word_is (int_div x y) f)

module _ (v : Variables) where
  compare_is : (r : Relation) (a b : Term) (x y : ℤ) → value_of v a ≡ Gives x → value_of v b ≡ Gives y → truth_of v (Compare r a b) ≡ Gives (relates r x y)
  unfolding truth_of
  compare_is r a b x y e f =
      ap (λ m. andthen m (λ x. andthen (value_of v b) (λ y. Gives (relates r x y)))) e ∙ ap (λ m. andthen m (λ y. Gives (relates r x y))) f

  binary_is : (o : Operator) (a b : Term) (x y z : ℤ) → value_of v a ≡ Gives x → value_of v b ≡ Gives y → combine o x y ≡ Gives z → value_of v (Binary o a b) ≡ Gives z
  unfolding value_of
  binary_is o a b x y z e f g =
      ap (λ m. andthen m (λ x. andthen (value_of v b) (λ y. combine o x y))) e ∙ ap (λ m. andthen m (λ y. combine o x y)) f ∙ g

  literal_is : (n : ℕ) → value_of v (Literal n) ≡ Gives (pos n)
  unfolding value_of
  literal_is n = refl

  negative_is : (e : Term) (x z : ℤ) → value_of v e ≡ Gives x → word (neg_ℤ x) ≡ Gives z → value_of v (Negative e) ≡ Gives z
  unfolding value_of
  negative_is e x z f g = ap (λ m. andthen m (λ x. word (neg_ℤ x))) f ∙ g

  greatest_is : value_of v greatest ≡ Gives most
  greatest_is = literal_is 9223372036854775807

  zero_is : value_of v zero ≡ Gives (pos 0)
  zero_is = literal_is 0

  lowest_is : value_of v lowest ≡ Gives (negsuc 9223372036854775806)
  lowest_is = negative_is greatest most (negsuc 9223372036854775806) greatest_is refl

  least_is : value_of v least ≡ Gives fewest
  least_is = binary_is Subtract lowest (Literal 1) (negsuc 9223372036854775806) (pos 1) fewest lowest_is (literal_is 1) refl

  either_is : (g h : Guard) (p q : Bool) → truth_of v g ≡ Gives p → (p ≡ false → truth_of v h ≡ Gives q) → truth_of v (Or g h) ≡ Gives (if p then true else q)
  unfolding truth_of
  either_is g h p q e f = or_is (truth_of v g) (truth_of v h) p q e f

  both_are : (g h : Guard) (p q : Bool) → truth_of v g ≡ Gives p → truth_of v h ≡ Gives q → truth_of v (And g h) ≡ Gives (if p then q else false)
  unfolding truth_of
  both_are g h p q e f = and_is (truth_of v g) (truth_of v h) p q e f

  pub opposite_is : (e : Term) (x : ℤ) → IsWord x → value_of v e ≡ Gives x → truth_of v (opposite_fits e) ≡ Gives (is_word (neg_ℤ x))
  opposite_is e x f t = compare_is AtLeast e lowest x (negsuc 9223372036854775806) t lowest_is ∙ ap Gives (opposite-exact x f)

  module _ (a b : Term) (x y : ℤ) (f : IsWord x) (g : IsWord y) (d : value_of v a ≡ Gives x) (e : value_of v b ≡ Gives y) where
    sum_is : truth_of v (sum_fits a b) ≡ Gives (is_word (x +ℤ y))
    sum_is =
        both_are _ _ _ _
        (either_is (Compare AtMost b zero) (Compare AtMost a (Binary Subtract greatest b)) (int_le y (pos 0)) (int_le x (most -ℤ y)) (compare_is AtMost b zero y (pos 0) e zero_is)
        (λ n. compare_is AtMost a (Binary Subtract greatest b) x (most -ℤ y) d (binary_is Subtract greatest b most y (most -ℤ y) greatest_is e (word_is (most -ℤ y) (room n)))))
        (either_is (Compare AtLeast b zero) (Compare AtLeast a (Binary Subtract least b)) (int_le (pos 0) y) (int_le (fewest -ℤ y) x) (compare_is AtLeast b zero y (pos 0) e zero_is)
        (λ n. compare_is AtLeast a (Binary Subtract least b) x (fewest -ℤ y) d (binary_is Subtract least b fewest y (fewest -ℤ y) least_is e (word_is (fewest -ℤ y) (below n)))))
        ∙ ap Gives (sum-exact x y f g)
      where
        room : int_le y (pos 0) ≡ false → IsWord (most -ℤ y)
        room n = let k = lt_of y (pos 0) n in let h = high y g in word_within (most -ℤ y) (omega (arith, ints)) (omega (arith, ints))

        below : int_le (pos 0) y ≡ false → IsWord (fewest -ℤ y)
        below n = let k = lt_of (pos 0) y n in let h = low y g in word_within (fewest -ℤ y) (omega (arith, ints)) (omega (arith, ints))

    difference_is : truth_of v (difference_fits a b) ≡ Gives (is_word (x -ℤ y))
    difference_is =
        both_are _ _ _ _
        (either_is (Compare AtLeast b zero) (Compare AtMost a (Binary Add greatest b)) (int_le (pos 0) y) (int_le x (most +ℤ y)) (compare_is AtLeast b zero y (pos 0) e zero_is)
        (λ n. compare_is AtMost a (Binary Add greatest b) x (most +ℤ y) d (binary_is Add greatest b most y (most +ℤ y) greatest_is e (word_is (most +ℤ y) (room n)))))
        (either_is (Compare AtMost b zero) (Compare AtLeast a (Binary Add least b)) (int_le y (pos 0)) (int_le (fewest +ℤ y) x) (compare_is AtMost b zero y (pos 0) e zero_is)
        (λ n. compare_is AtLeast a (Binary Add least b) x (fewest +ℤ y) d (binary_is Add least b fewest y (fewest +ℤ y) least_is e (word_is (fewest +ℤ y) (below n)))))
        ∙ ap Gives (difference-exact x y f g)
      where
        room : int_le (pos 0) y ≡ false → IsWord (most +ℤ y)
        room n = let k = lt_of (pos 0) y n in let h = low y g in word_within (most +ℤ y) (omega (arith, ints)) (omega (arith, ints))

        below : int_le y (pos 0) ≡ false → IsWord (fewest +ℤ y)
        below n = let k = lt_of y (pos 0) n in let h = high y g in word_within (fewest +ℤ y) (omega (arith, ints)) (omega (arith, ints))

    most_by : (t : Term) (z : ℤ) → value_of v t ≡ Gives z → int_eq z (pos 0) ≡ false → value_of v (Binary Divide greatest t) ≡ Gives (int_div most z)
    most_by t z i n = binary_is Divide greatest t most z (int_div most z) greatest_is i (quotient_is most z n (most_quotient z n))

    least_by : (t : Term) (z : ℤ) → value_of v t ≡ Gives z → int_le z (pos 0) ≡ false → value_of v (Binary Divide least t) ≡ Gives (int_div fewest z)
    least_by t z i n = binary_is Divide least t fewest z (int_div fewest z) least_is i (quotient_is fewest z (not_zero_above z n) (fewest_quotient z n))

    product_is : truth_of v (product_fits a b) ≡ Gives (is_word (x *ℤ y))
    product_is =
        both_are _ _ _ _
        (both_are _ _ _ _
        (either_is _ _ (int_le x (pos 0)) _ (compare_is AtMost a zero x (pos 0) d zero_is) (λ n.
        either_is _ _ (int_le y (pos 0)) (int_le x (int_div most y)) (compare_is AtMost b zero y (pos 0) e zero_is)
        (λ m. compare_is AtMost a (Binary Divide greatest b) x (int_div most y) d (most_by b y e (not_zero_above y m)))))
        (either_is _ _ (int_le x (pos 0)) _ (compare_is AtMost a zero x (pos 0) d zero_is) (λ n.
        either_is _ _ (int_le (pos 0) y) (int_le (int_div fewest x) y) (compare_is AtLeast b zero y (pos 0) e zero_is)
        (λ m. compare_is AtLeast b (Binary Divide least a) y (int_div fewest x) e (least_by a x d n)))))
        (both_are _ _ _ _
        (either_is _ _ (int_le (pos 0) x) _ (compare_is AtLeast a zero x (pos 0) d zero_is) (λ n.
        either_is _ _ (int_le y (pos 0)) (int_le (int_div fewest y) x) (compare_is AtMost b zero y (pos 0) e zero_is)
        (λ m. compare_is AtLeast a (Binary Divide least b) x (int_div fewest y) d (least_by b y e m))))
        (either_is _ _ (int_le (pos 0) x) _ (compare_is AtLeast a zero x (pos 0) d zero_is) (λ n.
        either_is _ _ (int_le (pos 0) y) (int_le (int_div most y) x) (compare_is AtLeast b zero y (pos 0) e zero_is)
        (λ m. compare_is AtLeast a (Binary Divide greatest b) x (int_div most y) d (most_by b y e (not_zero_below y m))))))
        ∙ ap Gives (product-exact x y)

    divisor_is : truth_of v (is_divisor b) ≡ Gives (not (int_eq y (pos 0)))
    divisor_is = compare_is NotEqual b zero y (pos 0) e zero_is

    quotient_claim : int_eq y (pos 0) ≡ false → truth_of v (quotient_fits a b) ≡ Gives (is_word (int_div x y))
    quotient_claim n =
        either_is _ _ (not (int_eq y (negsuc 0))) (int_le (negsuc 9223372036854775806) x) (compare_is NotEqual b (Negative (Literal 1)) y (negsuc 0) e (negative_is (Literal 1) (pos 1) (negsuc 0) (literal_is 1) refl))
        (λ m. compare_is AtLeast a lowest x (negsuc 9223372036854775806) d lowest_is)
        ∙ ap Gives (quotient-exact x y n f)

    -- a division: 0 is found first
    division : (t : Bool) → int_eq y (pos 0) ≡ t → AreExact v (operator_points Divide a b) (if t then Faults Zero else word (int_div x y))
    division true n = record {
      passes = λ z i. absurd (cc);
      fails = λ k i. inl (cc, divisor_is ∙ ap (λ t. Gives (not t)) n);
    }
    division false n =
        let o = one_point v Overflow (quotient_fits a b) (is_word (int_div x y)) (int_div x y) (quotient_claim n) in
        record {
          passes = λ z i. (divisor_is ∙ ap (λ t. Gives (not t)) n, o.passes z i);
          fails = λ k i. inr (o.fails k i);
        }

    -- an operator between two integers of 64 bits
    pub operator_exact : (o : Operator) → AreExact v (operator_points o a b) (combine o x y)
    operator_exact Add = one_point v Overflow (sum_fits a b) (is_word (x +ℤ y)) (x +ℤ y) sum_is
    operator_exact Subtract = one_point v Overflow (difference_fits a b) (is_word (x -ℤ y)) (x -ℤ y) difference_is
    operator_exact Multiply = one_point v Overflow (product_fits a b) (is_word (x *ℤ y)) (x *ℤ y) product_is
    operator_exact Divide = division (int_eq y (pos 0)) refl
    operator_exact Remainder = map_exact v (operator_points Divide a b) (quotient x y) (λ q. int_rem x y) (division (int_eq y (pos 0)) refl)

  pub length_is : (e : Term) (x : ℤ) → value_of v e ≡ Gives x → truth_of v (is_length e) ≡ Gives (if int_le (pos 0) x then int_le x (pos 1000000) else false)
  length_is e x t = both_are _ _ _ _ (compare_is AtMost zero e (pos 0) x zero_is t) (compare_is AtMost e (Literal 1000000) x (pos 1000000) t (literal_is 1000000))
