-- The codes of expressions and conditions, by which values are told apart.
use Rattle.std.specs.Prelude.{ℕ, zero, suc, Bool, true, false, List, [], ◌∷◌, Option, Some, None, ◌≡◌, refl}
use base.Stored.{Coded, Gv, gnil, gnum, gcons}
use Rattle.std.specs.Coded.{code_by}
use denote.Struct.Codes.{itself}
use Rattle.base_values.specs.Equal.{list_to}
use Rattle.imp_syntax.specs.declared.words.Operator.{Operator}
use Rattle.imp_syntax.specs.declared.words.Operator.TheVariants.{Add, Subtract, Multiply, Divide, Remainder}
use Rattle.imp_syntax.specs.declared.words.Relation.{Relation}
use Rattle.imp_syntax.specs.declared.words.Relation.TheVariants.{Equal, NotEqual, Less, AtMost, Greater, AtLeast}
use Rattle.imp_slots.specs.Plain.{Term, Literal, Slot, Length, Negative, Binary, Guard, Compare, CompareLinks, Not, And, Or}

-- lists, where a code of an item is given and taken back
abbrev pub list_from : {A : Type 0} → (Gv → A) → Gv → List A
list_from from (gcons a b) = from a ∷ list_from from b
list_from from _ = []

pub list_from_to : {A : Type 0} (to : A → Gv) (from : Gv → A) → ((x : A) → from (to x) ≡ x) → (xs : List A) → list_from from (list_to to xs) ≡ xs
list_from_to to from back [] = refl
list_from_to to from back (x ∷ xs) = λ i. back x i ∷ list_from_to to from back xs i

abbrev pub bool_to : Bool → Gv
bool_to false = gnum 0
bool_to true = gnum 1

abbrev pub bool_from : Gv → Bool
bool_from (gnum (suc n)) = true
bool_from _ = false

pub bool_from_to : (b : Bool) → bool_from (bool_to b) ≡ b
bool_from_to false = refl
bool_from_to true = refl

-- a slot, or none
abbrev pub slot_to : Option ℕ → Gv
slot_to None = gnil
slot_to (Some x) = gnum x

abbrev pub slot_from : Gv → Option ℕ
slot_from (gnum x) = Some x
slot_from _ = None

pub slot_from_to : (x : Option ℕ) → slot_from (slot_to x) ≡ x
slot_from_to None = refl
slot_from_to (Some x) = refl

abbrev pub operator_to : Operator → Gv
operator_to Add = gnum 0
operator_to Subtract = gnum 1
operator_to Multiply = gnum 2
operator_to Divide = gnum 3
operator_to Remainder = gnum 4

abbrev pub operator_from : Gv → Operator
operator_from (gnum (suc zero)) = Subtract
operator_from (gnum (suc (suc zero))) = Multiply
operator_from (gnum (suc (suc (suc zero)))) = Divide
operator_from (gnum (suc (suc (suc (suc n))))) = Remainder
operator_from _ = Add

pub operator_from_to : (o : Operator) → operator_from (operator_to o) ≡ o
operator_from_to Add = refl
operator_from_to Subtract = refl
operator_from_to Multiply = refl
operator_from_to Divide = refl
operator_from_to Remainder = refl

abbrev pub relation_to : Relation → Gv
relation_to Equal = gnum 0
relation_to NotEqual = gnum 1
relation_to Less = gnum 2
relation_to AtMost = gnum 3
relation_to Greater = gnum 4
relation_to AtLeast = gnum 5

abbrev pub relation_from : Gv → Relation
relation_from (gnum (suc zero)) = NotEqual
relation_from (gnum (suc (suc zero))) = Less
relation_from (gnum (suc (suc (suc zero)))) = AtMost
relation_from (gnum (suc (suc (suc (suc zero))))) = Greater
relation_from (gnum (suc (suc (suc (suc (suc n)))))) = AtLeast
relation_from _ = Equal

pub relation_from_to : (r : Relation) → relation_from (relation_to r) ≡ r
relation_from_to Equal = refl
relation_from_to NotEqual = refl
relation_from_to Less = refl
relation_from_to AtMost = refl
relation_from_to Greater = refl
relation_from_to AtLeast = refl

abbrev pub term_to : Term → Gv
term_to (Literal n) = gcons (gnum 0) (gnum n)
term_to (Slot x) = gcons (gnum 1) (gnum x)
term_to (Length a) = gcons (gnum 2) (gnum a)
term_to (Negative e) = gcons (gnum 3) (term_to e)
term_to (Binary o e f) = gcons (gnum 4) (gcons (operator_to o) (gcons (term_to e) (term_to f)))

abbrev pub term_from : Gv → Term
term_from (gcons (gnum zero) (gnum n)) = Literal n
term_from (gcons (gnum (suc zero)) (gnum x)) = Slot x
term_from (gcons (gnum (suc (suc zero))) (gnum a)) = Length a
term_from (gcons (gnum (suc (suc (suc zero)))) e) = Negative (term_from e)
term_from (gcons (gnum (suc (suc (suc (suc k))))) (gcons o (gcons e f))) = Binary (operator_from o) (term_from e) (term_from f)
term_from _ = Literal 0

pub term_from_to : (e : Term) → term_from (term_to e) ≡ e
term_from_to (Literal n) = refl
term_from_to (Slot x) = refl
term_from_to (Length a) = refl
term_from_to (Negative e) = λ i. Negative (term_from_to e i)
term_from_to (Binary o e f) = λ i. Binary (operator_from_to o i) (term_from_to e i) (term_from_to f i)

abbrev pub term_code : Coded Term
term_code = code_by Gv itself term_to term_from term_from_to

abbrev pub guard_to : Guard → Gv
guard_to (Compare r e f) = gcons (gnum 0) (gcons (relation_to r) (gcons (term_to e) (term_to f)))
guard_to (CompareLinks equal p q) = gcons (gnum 1) (gcons (bool_to equal) (gcons (slot_to p) (slot_to q)))
guard_to (Not c) = gcons (gnum 2) (guard_to c)
guard_to (And c d) = gcons (gnum 3) (gcons (guard_to c) (guard_to d))
guard_to (Or c d) = gcons (gnum 4) (gcons (guard_to c) (guard_to d))

abbrev pub guard_from : Gv → Guard
guard_from (gcons (gnum zero) (gcons r (gcons e f))) = Compare (relation_from r) (term_from e) (term_from f)
guard_from (gcons (gnum (suc zero)) (gcons equal (gcons p q))) = CompareLinks (bool_from equal) (slot_from p) (slot_from q)
guard_from (gcons (gnum (suc (suc zero))) c) = Not (guard_from c)
guard_from (gcons (gnum (suc (suc (suc zero)))) (gcons c d)) = And (guard_from c) (guard_from d)
guard_from (gcons (gnum (suc (suc (suc (suc k))))) (gcons c d)) = Or (guard_from c) (guard_from d)
guard_from _ = CompareLinks false None None

pub guard_from_to : (c : Guard) → guard_from (guard_to c) ≡ c
guard_from_to (Compare r e f) = λ i. Compare (relation_from_to r i) (term_from_to e i) (term_from_to f i)
guard_from_to (CompareLinks equal p q) = λ i. CompareLinks (bool_from_to equal i) (slot_from_to p i) (slot_from_to q i)
guard_from_to (Not c) = λ i. Not (guard_from_to c i)
guard_from_to (And c d) = λ i. And (guard_from_to c i) (guard_from_to d i)
guard_from_to (Or c d) = λ i. Or (guard_from_to c i) (guard_from_to d i)

abbrev pub guard_code : Coded Guard
guard_code = code_by Gv itself guard_to guard_from guard_from_to
