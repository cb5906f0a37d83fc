-- The codes of plain programs, by which their equality is decided.
use Rattle.std.specs.Prelude.{ℕ, zero, suc, List, [], ◌∷◌, ◌≡◌, refl}
use Rattle.std.specs.Coded.{code_by}
use Rattle.base_values.specs.Equal.{list_to, text_to, text_from, text_from_to}
use Rattle.imp_syntax.specs.Plain.{Expression, Literal, Variable, Length, Negative, Binary, Operand, Null, Value, Condition, Compare, Not, And, Or}
use Rattle.imp_syntax.specs.declared.words.Operator.{Operator}
use Rattle.imp_syntax.specs.declared.words.Operator.TheVariants.{Add, Subtract, Multiply, Divide, Remainder}
use Rattle.imp_syntax.specs.declared.words.Relation.{Relation}
use Rattle.imp_syntax.specs.declared.words.Relation.TheVariants.{Equal, NotEqual, Less, AtMost, Greater, AtLeast}
use base.Stored.{Coded, Gv, gnil, gnum, gcons}
use denote.Struct.Codes.{itself}

abbrev pub operator_number : Operator → ℕ
operator_number Add = 0
operator_number Subtract = 1
operator_number Multiply = 2
operator_number Divide = 3
operator_number Remainder = 4

abbrev pub operator_at : ℕ → Operator
operator_at zero = Add
operator_at (suc zero) = Subtract
operator_at (suc (suc zero)) = Multiply
operator_at (suc (suc (suc zero))) = Divide
operator_at (suc (suc (suc (suc n)))) = Remainder

pub operator_back : (o : Operator) → operator_at (operator_number o) ≡ o
operator_back Add = refl
operator_back Subtract = refl
operator_back Multiply = refl
operator_back Divide = refl
operator_back Remainder = refl

abbrev pub relation_number : Relation → ℕ
relation_number Equal = 0
relation_number NotEqual = 1
relation_number Less = 2
relation_number AtMost = 3
relation_number Greater = 4
relation_number AtLeast = 5

abbrev pub relation_at : ℕ → Relation
relation_at zero = Equal
relation_at (suc zero) = NotEqual
relation_at (suc (suc zero)) = Less
relation_at (suc (suc (suc zero))) = AtMost
relation_at (suc (suc (suc (suc zero)))) = Greater
relation_at (suc (suc (suc (suc (suc n))))) = AtLeast

pub relation_back : (r : Relation) → relation_at (relation_number r) ≡ r
relation_back Equal = refl
relation_back NotEqual = refl
relation_back Less = refl
relation_back AtMost = refl
relation_back Greater = refl
relation_back AtLeast = refl

-- the list of a code, where from gives its items back
abbrev pub list_from : {A : Type 0} → (Gv → A) → Gv → List A
list_from from gnil = []
list_from from (gnum n) = []
list_from from (gcons x xs) = from x ∷ list_from from xs

pub list_back : {A : Type 0} (to : A → Gv) (from : Gv → A) → ((x : A) → from (to x) ≡ x) → (xs : List A) → list_from from (list_to to xs) ≡ xs
list_back to from back [] = refl
list_back to from back (x ∷ xs) = λ i. back x i ∷ list_back to from back xs i

-- the number of a code
abbrev pub number_from : Gv → ℕ
number_from gnil = 0
number_from (gnum n) = n
number_from (gcons a b) = 0

abbrev pub expression_to : Expression → Gv
expression_to (Literal n) = gcons (gnum 0) (gnum n)
expression_to (Variable x) = gcons (gnum 1) (text_to x)
expression_to (Length x) = gcons (gnum 2) (text_to x)
expression_to (Negative e) = gcons gnil (expression_to e)
expression_to (Binary o a b) = gcons (gcons (gnum (operator_number o)) (expression_to a)) (expression_to b)

abbrev leaf_from : ℕ → Gv → Expression
leaf_from zero p = Literal (number_from p)
leaf_from (suc zero) p = Variable (text_from p)
leaf_from (suc (suc n)) p = Length (text_from p)

abbrev pub expression_from : Gv → Expression
expression_from gnil = Literal 0
expression_from (gnum n) = Literal 0
expression_from (gcons gnil e) = Negative (expression_from e)
expression_from (gcons (gnum k) p) = leaf_from k p
expression_from (gcons (gcons o a) b) = Binary (operator_at (number_from o)) (expression_from a) (expression_from b)

pub expression_back : (e : Expression) → expression_from (expression_to e) ≡ e
expression_back (Literal n) = refl
expression_back (Variable x) = λ i. Variable (text_from_to x i)
expression_back (Length x) = λ i. Length (text_from_to x i)
expression_back (Negative e) = λ i. Negative (expression_back e i)
expression_back (Binary o a b) = λ i. Binary (operator_back o i) (expression_back a i) (expression_back b i)

abbrev pub expression_code : Coded Expression
expression_code = code_by Gv itself expression_to expression_from expression_back

abbrev pub operand_to : Operand → Gv
operand_to Null = gnil
operand_to (Value e) = gcons gnil (expression_to e)

abbrev pub operand_from : Gv → Operand
operand_from gnil = Null
operand_from (gnum n) = Null
operand_from (gcons a e) = Value (expression_from e)

pub operand_back : (s : Operand) → operand_from (operand_to s) ≡ s
operand_back Null = refl
operand_back (Value e) = λ i. Value (expression_back e i)

abbrev pub condition_to : Condition → Gv
condition_to (Compare r a b) = gcons (gnum (relation_number r)) (gcons (operand_to a) (operand_to b))
condition_to (Not c) = gcons gnil (condition_to c)
condition_to (And c d) = gcons (gcons gnil (condition_to c)) (condition_to d)
condition_to (Or c d) = gcons (gcons (gnum 0) (condition_to c)) (condition_to d)

-- the parts of a code
abbrev pub left : Gv → Gv
left gnil = gnil
left (gnum n) = gnil
left (gcons a b) = a

abbrev pub right : Gv → Gv
right gnil = gnil
right (gnum n) = gnil
right (gcons a b) = b

abbrev comparison_from : ℕ → Gv → Condition
comparison_from r p = Compare (relation_at r) (operand_from (left p)) (operand_from (right p))

abbrev pub condition_from : Gv → Condition
condition_from gnil = Compare Equal Null Null
condition_from (gnum n) = Compare Equal Null Null
condition_from (gcons gnil c) = Not (condition_from c)
condition_from (gcons (gnum r) p) = comparison_from r p
condition_from (gcons (gcons gnil c) d) = And (condition_from c) (condition_from d)
condition_from (gcons (gcons (gnum n) c) d) = Or (condition_from c) (condition_from d)
condition_from (gcons (gcons (gcons a b) c) d) = Compare Equal Null Null

pub condition_back : (c : Condition) → condition_from (condition_to c) ≡ c
condition_back (Compare r a b) = λ i. Compare (relation_back r i) (operand_back a i) (operand_back b i)
condition_back (Not c) = λ i. Not (condition_back c i)
condition_back (And c d) = λ i. And (condition_back c i) (condition_back d i)
condition_back (Or c d) = λ i. Or (condition_back c i) (condition_back d i)

abbrev pub condition_code : Coded Condition
condition_code = code_by Gv itself condition_to condition_from condition_back
