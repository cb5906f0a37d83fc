-- The value of a term and the truth of a guard in a frame: operands from left to right; && and || stop early.
use Rattle.std.specs.Prelude.{ℕ, ◌==◌, ℤ, pos, ◌+ℤ◌, ◌-ℤ◌, ◌*ℤ◌, neg_ℤ, int_lt, int_le, int_div, int_rem, length, Option, Some, None, Bool, true, false, not, if◌then◌else◌}
use Rattle.std.specs.Ordering.{int_eq}
use Rattle.imp_syntax.specs.declared.words.Operator.{Operator}
use Rattle.imp_syntax.specs.declared.words.Operator.TheVariants.{Add, Subtract, Multiply, Divide, Remainder}
use Rattle.imp_syntax.specs.declared.words.Relation.{Relation}
use Rattle.imp_syntax.specs.declared.words.Relation.TheVariants.{Equal, NotEqual, Less, AtMost, Greater, AtLeast}
use Rattle.imp_slots.specs.Plain.{Term, Literal, Slot, Length, Negative, Binary, Guard, Compare, CompareLinks, Not, And, Or}
use Rattle.imp_words.specs.declared.fault.FaultKind.TheVariants.{Overflow, Zero}
use Rattle.concrete_sem.specs.Values.{Variables, Attempt, Gives, Faults, andthen, is_word, int_at, array_at, link_at}

-- a result, where it fits 64 bits
abbrev pub word : ℤ → Attempt ℤ
word z = if is_word z then Gives z else Faults Overflow

-- the quotient rounded towards 0
abbrev pub quotient : ℤ → ℤ → Attempt ℤ
quotient x y = if int_eq y (pos 0) then Faults Zero else word (int_div x y)

-- the remainder with the dividend's sign: it overflows where the quotient does
abbrev pub remainder : ℤ → ℤ → Attempt ℤ
remainder x y = andthen (quotient x y) (λ q. Gives (int_rem x y))

abbrev pub combine : Operator → ℤ → ℤ → Attempt ℤ
combine Add x y = word (x +ℤ y)
combine Subtract x y = word (x -ℤ y)
combine Multiply x y = word (x *ℤ y)
combine Divide x y = quotient x y
combine Remainder x y = remainder x y

unfoldable pub value_of : Variables → Term → Attempt ℤ
value_of v (Literal n) = Gives (pos n)
value_of v (Slot x) = Gives (int_at v x)
value_of v (Length a) = Gives (pos (length (array_at v a)))
value_of v (Negative e) = andthen (value_of v e) (λ x. word (neg_ℤ x))
value_of v (Binary o a b) = andthen (value_of v a) (λ x. andthen (value_of v b) (λ y. combine o x y))

abbrev pub relates : Relation → ℤ → ℤ → Bool
relates Equal x y = int_eq x y
relates NotEqual x y = not (int_eq x y)
relates Less x y = int_lt x y
relates AtMost x y = int_le x y
relates Greater x y = int_lt y x
relates AtLeast x y = int_le y x

abbrev pub same_link : Option ℕ → Option ℕ → Bool
same_link None None = true
same_link None (Some k) = false
same_link (Some j) None = false
same_link (Some j) (Some k) = j == k

-- the link of a side of a comparison or of an argument: null or a slot's
abbrev pub side_at : Variables → Option ℕ → Option ℕ
side_at v None = None
side_at v (Some p) = link_at v p

unfoldable pub truth_of : Variables → Guard → Attempt Bool
truth_of v (Compare r a b) = andthen (value_of v a) (λ x. andthen (value_of v b) (λ y. Gives (relates r x y)))
truth_of v (CompareLinks equal p q) = Gives (if equal then same_link (side_at v p) (side_at v q) else not (same_link (side_at v p) (side_at v q)))
truth_of v (Not g) = andthen (truth_of v g) (λ b. Gives (not b))
truth_of v (And g h) = andthen (truth_of v g) (λ b. if b then truth_of v h else Gives false)
truth_of v (Or g h) = andthen (truth_of v g) (λ b. if b then Gives true else truth_of v h)
