-- No tokens of a tree have fewer operators than those printed, and no comparison of a text begins with a parenthesis.
use Rattle.std.proofs.Common.{◌≡◌, ℕ, suc, ◌+◌, ◌≤◌, Bool, true, false, List, [], ◌∷◌, ◌++◌, refl, sym, ap, subst, ◌∙◌, arith}
use Rattle.std.specs.Prelude.{Some, nat_lt, ◌||◌}
use Rattle.imp_lex.specs.declared.token.TokenKind.{TokenKind}
use Rattle.imp_lex.specs.declared.token.TokenKind.TheVariants as k
use Rattle.imp_lex.specs.declared.token.Mark.TheVariants as m
use Rattle.imp_syntax.specs.declared.words.Operator.{Operator}
use Rattle.imp_syntax.specs.declared.words.Operator.TheVariants as o
use Rattle.imp_syntax.specs.declared.words.Relation.{Relation}
use Rattle.imp_syntax.specs.declared.words.Relation.TheVariants as r
use Rattle.imp_syntax.specs.Plain.{Expression, Literal, Variable, Length, Negative, Binary, Operand, Null, Value, Condition, Compare, Not, And, Or}
use Rattle.imp_parse.specs.Tables.{additive, multiplicative, relation_of}
use Rattle.imp_parse.specs.Grammar.{IsExpression, sum, IsSum, sum_ends, sum_more, IsTerm, product, IsProduct, product_ends, product_more, IsFactor, negative, number, name, length_of, group, IsSide, null, value, begins_group, IsCondition, disjunction, IsOr, or_ends, or_more, IsConjunction, conjunction, IsAnd, and_ends, and_more, IsUnit, opposite, grouped as in_group, compare}
use Rattle.imp_print.specs.Expressions.{operator_rank, expression_rank, condition_rank}
use Rattle.imp_round_trip.proofs.Tokens.{grouped, expression_tokens, side_tokens, condition_tokens}
use Rattle.imp_round_trip.proofs.SpelledExpressions.{opens, opens_side, IsUngrouped}
use Rattle.imp_round_trip.proofs.Weights.{IsCounted, Weighs, empty, plain, counted, weighs_both, number_plain, name_plain, len_plain, null_plain, close_plain, open_counted, not_counted, and_counted, or_counted, operator_counted, relation_counted}
use Rattle.base_values.proofs.Cases.{or_second}

-- ---- the operators of what is printed

-- one more in parentheses
abbrev pub enclosing : Bool → ℕ → ℕ
enclosing true n = suc n
enclosing false n = n

abbrev pub operators : Expression → ℕ
operators (Literal n) = 0
operators (Variable x) = 0
operators (Length x) = 0
operators (Negative e) = suc (enclosing (nat_lt (expression_rank e) 3) (operators e))
operators (Binary op a b) = enclosing (nat_lt (expression_rank a) (operator_rank op)) (operators a) + suc (enclosing (nat_lt (expression_rank b) (operator_rank op + 1)) (operators b))

-- of an operand that has to bind at least so much
abbrev pub operators_of : ℕ → Expression → ℕ
operators_of least e = enclosing (nat_lt (expression_rank e) least) (operators e)

abbrev pub side_operators : Operand → ℕ
side_operators Null = 0
side_operators (Value e) = operators e

abbrev pub condition_operators : Condition → ℕ
condition_operators (Compare rel a b) = side_operators a + suc (side_operators b)
condition_operators (Not c) = suc (suc (condition_operators c))
condition_operators (And c d) = enclosing (nat_lt (condition_rank c) 2) (condition_operators c) + suc (enclosing (nat_lt (condition_rank d) 3) (condition_operators d))
condition_operators (Or c d) = enclosing (nat_lt (condition_rank c) 1) (condition_operators c) + suc (enclosing (nat_lt (condition_rank d) 2) (condition_operators d))

abbrev pub part_operators : ℕ → Condition → ℕ
part_operators least c = enclosing (nat_lt (condition_rank c) least) (condition_operators c)

group_weighs : (ts : List TokenKind) (n : ℕ) → Weighs ts n → Weighs (grouped true ts) (suc n)
group_weighs ts n h = let e : n + 0 ≡ n = omega arith in counted open_counted (subst (Weighs (ts ++ k.Mark m.CloseParenthesis ∷ [])) e (weighs_both h (plain close_plain empty)))

enclosed_weighs : (v : Bool) (ts : List TokenKind) (n : ℕ) → Weighs ts n → Weighs (grouped v ts) (enclosing v n)
enclosed_weighs true ts n h = group_weighs ts n h
enclosed_weighs false ts n h = h

pub expression_weighs : (e : Expression) → Weighs (expression_tokens e) (operators e)
expression_weighs (Literal n) = plain (number_plain n) empty
expression_weighs (Variable x) = plain (name_plain x) empty
expression_weighs (Length x) = plain len_plain (plain (name_plain x) empty)
expression_weighs (Negative e) = counted (operator_counted o.Subtract) (enclosed_weighs (nat_lt (expression_rank e) 3) (expression_tokens e) (operators e) (expression_weighs e))
expression_weighs (Binary op a b) =
    weighs_both (enclosed_weighs (nat_lt (expression_rank a) (operator_rank op)) (expression_tokens a) (operators a) (expression_weighs a))
    (counted (operator_counted op) (enclosed_weighs (nat_lt (expression_rank b) (operator_rank op + 1)) (expression_tokens b) (operators b) (expression_weighs b)))

pub side_weighs : (a : Operand) → Weighs (side_tokens a) (side_operators a)
side_weighs Null = plain null_plain empty
side_weighs (Value e) = expression_weighs e

pub condition_weighs : (c : Condition) → Weighs (condition_tokens c) (condition_operators c)
condition_weighs (Compare rel a b) = weighs_both (side_weighs a) (counted (relation_counted rel) (side_weighs b))
condition_weighs (Not c) = counted not_counted (group_weighs (condition_tokens c) (condition_operators c) (condition_weighs c))
condition_weighs (And c d) =
    weighs_both (enclosed_weighs (nat_lt (condition_rank c) 2) (condition_tokens c) (condition_operators c) (condition_weighs c))
    (counted and_counted (enclosed_weighs (nat_lt (condition_rank d) 3) (condition_tokens d) (condition_operators d) (condition_weighs d)))
condition_weighs (Or c d) =
    weighs_both (enclosed_weighs (nat_lt (condition_rank c) 1) (condition_tokens c) (condition_operators c) (condition_weighs c))
    (counted or_counted (enclosed_weighs (nat_lt (condition_rank d) 2) (condition_tokens d) (condition_operators d) (condition_weighs d)))

-- ---- ranks

additive_rank : (t : TokenKind) (op : Operator) → additive t ≡ Some op → operator_rank op ≡ 1
additive_rank (k.Mark m.Plus) op e = let q : o.Add ≡ op = cc in sym (ap operator_rank q)
additive_rank (k.Mark m.Minus) op e = let q : o.Subtract ≡ op = cc in sym (ap operator_rank q)
additive_rank t op e = absurd cc

additive_counted : (t : TokenKind) (op : Operator) → additive t ≡ Some op → IsCounted t
additive_counted (k.Mark m.Plus) op e = operator_counted o.Add
additive_counted (k.Mark m.Minus) op e = operator_counted o.Subtract
additive_counted t op e = absurd cc

multiplicative_rank : (t : TokenKind) (op : Operator) → multiplicative t ≡ Some op → operator_rank op ≡ 2
multiplicative_rank (k.Mark m.Star) op e = let q : o.Multiply ≡ op = cc in sym (ap operator_rank q)
multiplicative_rank (k.Mark m.Slash) op e = let q : o.Divide ≡ op = cc in sym (ap operator_rank q)
multiplicative_rank (k.Mark m.Percent) op e = let q : o.Remainder ≡ op = cc in sym (ap operator_rank q)
multiplicative_rank t op e = absurd cc

multiplicative_counted : (t : TokenKind) (op : Operator) → multiplicative t ≡ Some op → IsCounted t
multiplicative_counted (k.Mark m.Star) op e = operator_counted o.Multiply
multiplicative_counted (k.Mark m.Slash) op e = operator_counted o.Divide
multiplicative_counted (k.Mark m.Percent) op e = operator_counted o.Remainder
multiplicative_counted t op e = absurd cc

relation_of_counted : (t : TokenKind) (rel : Relation) → relation_of t ≡ Some rel → IsCounted t
relation_of_counted (k.Mark m.EqualTo) rel e = relation_counted r.Equal
relation_of_counted (k.Mark m.NotEqualTo) rel e = relation_counted r.NotEqual
relation_of_counted (k.Mark m.Less) rel e = relation_counted r.Less
relation_of_counted (k.Mark m.AtMost) rel e = relation_counted r.AtMost
relation_of_counted (k.Mark m.Greater) rel e = relation_counted r.Greater
relation_of_counted (k.Mark m.AtLeast) rel e = relation_counted r.AtLeast
relation_of_counted t rel e = absurd cc

rank_some : (e : Expression) → nat_lt (expression_rank e) 1 ≡ false
rank_some (Literal n) = refl
rank_some (Variable x) = refl
rank_some (Length x) = refl
rank_some (Negative e) = refl
rank_some (Binary o.Add a b) = refl
rank_some (Binary o.Subtract a b) = refl
rank_some (Binary o.Multiply a b) = refl
rank_some (Binary o.Divide a b) = refl
rank_some (Binary o.Remainder a b) = refl

-- begins with a parenthesis, where it has to bind at least so much
abbrev opens_in : ℕ → Expression → Bool
opens_in least e = nat_lt (expression_rank e) least || opens e

sum_operators : (t : TokenKind) (op : Operator) (a b : Expression) → additive t ≡ Some op → operators (Binary op a b) ≡ operators a + suc (operators_of 2 b)
sum_operators t op a b is = rw (additive_rank t op is, rank_some a) refl

sum_opens : (t : TokenKind) (op : Operator) (a b : Expression) → additive t ≡ Some op → opens (Binary op a b) ≡ opens a
sum_opens t op a b is = rw (additive_rank t op is, rank_some a) refl

product_operators : (t : TokenKind) (op : Operator) (a b : Expression) → multiplicative t ≡ Some op → operators_of 2 (Binary op a b) ≡ operators_of 2 a + suc (operators_of 3 b)
product_operators t op a b is = rw (multiplicative_rank t op is) refl

product_opens : (t : TokenKind) (op : Operator) (a b : Expression) → multiplicative t ≡ Some op → opens_in 2 (Binary op a b) ≡ opens_in 2 a
product_opens t op a b is = rw (multiplicative_rank t op is) refl

enclosing_more : (v : Bool) (n : ℕ) → n ≤ enclosing v n
enclosing_more true n = omega arith
enclosing_more false n = omega arith

enclosing_one : (v : Bool) (n : ℕ) → enclosing v n ≤ suc n
enclosing_one true n = omega arith
enclosing_one false n = omega arith

factor_more : (e : Expression) → operators_of 2 e ≤ operators_of 3 e
factor_more (Literal n) = omega arith
factor_more (Variable x) = omega arith
factor_more (Length x) = omega arith
factor_more (Negative e) = omega arith
factor_more (Binary o.Add a b) = omega arith
factor_more (Binary o.Subtract a b) = omega arith
factor_more (Binary o.Multiply a b) = omega arith
factor_more (Binary o.Divide a b) = omega arith
factor_more (Binary o.Remainder a b) = omega arith

factor_opens : (e : Expression) → opens_in 3 e ≡ false → opens_in 2 e ≡ false
factor_opens (Literal n) h = refl
factor_opens (Variable x) h = refl
factor_opens (Length x) h = refl
factor_opens (Negative e) h = refl
factor_opens (Binary o.Add a b) h = absurd cc
factor_opens (Binary o.Subtract a b) h = absurd cc
factor_opens (Binary o.Multiply a b) h = absurd cc
factor_opens (Binary o.Divide a b) h = absurd cc
factor_opens (Binary o.Remainder a b) h = absurd cc

-- ---- texts of expressions

-- the tokens have so many operators at least, and begin with a parenthesis where the tree has to
record Holds (ts : List TokenKind) (least : ℕ) (opening : Bool) : Type 0 where
  pub number : ℕ
  pub weighs : Weighs ts number
  pub enough : least ≤ number
  pub begins : begins_group ts ≡ false → opening ≡ false

-- so do tokens after others
record HoldsBehind (ts : List TokenKind) (before least : ℕ) (begun opening : Bool) : Type 0 where
  pub number : ℕ
  pub weighs : Weighs ts number
  pub enough : least ≤ before + number
  pub begins : begun ≡ false → opening ≡ false

begins_before : (v w : List TokenKind) → begins_group (v ++ w) ≡ false → begins_group v ≡ false
begins_before [] w e = refl
begins_before (k.Mark m.OpenParenthesis ∷ v) w e = e
begins_before (t ∷ v) w e = refl

mutual
  expression_holds : (w : List TokenKind) (e : Expression) → IsExpression w e → Holds w (operators e) (opens e)
  expression_holds w e (sum {v = v} {w = x} {a = a} g h) =
      let front = term_holds v a g in
      let back = sum_holds a x e h in
      record {
        number = front.number + back.number;
        weighs = weighs_both front.weighs back.weighs;
        enough = omega (arith, front.enough, back.enough, enclosing_more (nat_lt (expression_rank a) 2) (operators a));
        begins = λ q. back.begins (or_second (nat_lt (expression_rank a) 2) (opens a) (front.begins (begins_before v x q)));
      }

  sum_holds : (a : Expression) (w : List TokenKind) (e : Expression) → IsSum a w e → HoldsBehind w (operators a) (operators e) (opens a) (opens e)
  sum_holds a w e sum_ends = record { number = 0; weighs = empty; enough = omega arith; begins = λ q. q }
  sum_holds a w e (sum_more {b = b} {o = op} {t = t} {v = v} {w = x} is g h) =
      let front = term_holds v b g in
      let back = sum_holds (Binary op a b) x e h in
      record {
        number = suc (front.number + back.number);
        weighs = counted (additive_counted t op is) (weighs_both front.weighs back.weighs);
        enough = omega (arith, front.enough, back.enough, sum_operators t op a b is);
        begins = λ q. back.begins (sum_opens t op a b is ∙ q);
      }

  term_holds : (w : List TokenKind) (e : Expression) → IsTerm w e → Holds w (operators_of 2 e) (opens_in 2 e)
  term_holds w e (product {v = v} {w = x} {a = a} g h) =
      let front = factor_holds v a g in
      let back = product_holds a x e h in
      record {
        number = front.number + back.number;
        weighs = weighs_both front.weighs back.weighs;
        enough = omega (arith, front.enough, back.enough, factor_more a);
        begins = λ q. back.begins (factor_opens a (front.begins (begins_before v x q)));
      }

  product_holds : (a : Expression) (w : List TokenKind) (e : Expression) → IsProduct a w e → HoldsBehind w (operators_of 2 a) (operators_of 2 e) (opens_in 2 a) (opens_in 2 e)
  product_holds a w e product_ends = record { number = 0; weighs = empty; enough = omega arith; begins = λ q. q }
  product_holds a w e (product_more {b = b} {o = op} {t = t} {v = v} {w = x} is g h) =
      let front = factor_holds v b g in
      let back = product_holds (Binary op a b) x e h in
      record {
        number = suc (front.number + back.number);
        weighs = counted (multiplicative_counted t op is) (weighs_both front.weighs back.weighs);
        enough = omega (arith, front.enough, back.enough, product_operators t op a b is);
        begins = λ q. back.begins (product_opens t op a b is ∙ q);
      }

  factor_holds : (w : List TokenKind) (e : Expression) → IsFactor w e → Holds w (operators_of 3 e) (opens_in 3 e)
  factor_holds w e (negative {u = u} {a = a} g) =
      let inner = factor_holds u a g in
      record { number = suc inner.number; weighs = counted (operator_counted o.Subtract) inner.weighs; enough = omega (arith, inner.enough); begins = λ q. refl }
  factor_holds w e (number {n = n}) = record { number = 0; weighs = plain (number_plain n) empty; enough = omega arith; begins = λ q. refl }
  factor_holds w e (name {x = x}) = record { number = 0; weighs = plain (name_plain x) empty; enough = omega arith; begins = λ q. refl }
  factor_holds w e (length_of {x = x}) = record { number = 0; weighs = plain len_plain (plain (name_plain x) empty); enough = omega arith; begins = λ q. refl }
  factor_holds w e (group {u = u} {a = a} g) =
      let inner = expression_holds u a g in
      record { number = suc inner.number; weighs = group_weighs u inner.number inner.weighs; enough = omega (arith, inner.enough, enclosing_one (nat_lt (expression_rank a) 3) (operators a)); begins = λ q. absurd cc }

side_holds : (w : List TokenKind) (a : Operand) → IsSide w a → Holds w (side_operators a) (opens_side a)
side_holds w a null = record { number = 0; weighs = plain null_plain empty; enough = omega arith; begins = λ q. refl }
side_holds w a (value {u = u} {e = e} g) = expression_holds u e g

-- ---- texts of conditions

-- the tokens have so many operators at least, and no comparison begins with a parenthesis
record HasCondition (ts : List TokenKind) (least : ℕ) (c : Condition) : Type 0 where
  pub number : ℕ
  pub weighs : Weighs ts number
  pub enough : least ≤ number
  pub ungrouped : IsUngrouped c

record HasConditionBehind (ts : List TokenKind) (before least : ℕ) (a c : Condition) : Type 0 where
  pub number : ℕ
  pub weighs : Weighs ts number
  pub enough : least ≤ before + number
  pub ungrouped : IsUngrouped a → IsUngrouped c

condition_rank_some : (c : Condition) → nat_lt (condition_rank c) 1 ≡ false
condition_rank_some (Compare rel a b) = refl
condition_rank_some (Not c) = refl
condition_rank_some (And c d) = refl
condition_rank_some (Or c d) = refl

or_operators : (a b : Condition) → condition_operators (Or a b) ≡ condition_operators a + suc (part_operators 2 b)
or_operators a b = rw (condition_rank_some a) refl

unit_more : (c : Condition) → part_operators 2 c ≤ part_operators 3 c
unit_more (Compare rel a b) = omega arith
unit_more (Not c) = omega arith
unit_more (And c d) = omega arith
unit_more (Or c d) = omega arith

mutual
  condition_holds : (w : List TokenKind) (c : Condition) → IsCondition w c → HasCondition w (condition_operators c) c
  condition_holds w c (disjunction {v = v} {w = x} {a = a} g h) =
      let front = conjunction_holds v a g in
      let back = or_holds a x c h in
      record {
        number = front.number + back.number;
        weighs = weighs_both front.weighs back.weighs;
        enough = omega (arith, front.enough, back.enough, enclosing_more (nat_lt (condition_rank a) 2) (condition_operators a));
        ungrouped = back.ungrouped front.ungrouped;
      }

  or_holds : (a : Condition) (w : List TokenKind) (c : Condition) → IsOr a w c → HasConditionBehind w (condition_operators a) (condition_operators c) a c
  or_holds a w c or_ends = record { number = 0; weighs = empty; enough = omega arith; ungrouped = λ q. q }
  or_holds a w c (or_more {b = b} {v = v} {w = x} g h) =
      let front = conjunction_holds v b g in
      let back = or_holds (Or a b) x c h in
      record {
        number = suc (front.number + back.number);
        weighs = counted or_counted (weighs_both front.weighs back.weighs);
        enough = omega (arith, front.enough, back.enough, or_operators a b);
        ungrouped = λ q. back.ungrouped (q, front.ungrouped);
      }

  conjunction_holds : (w : List TokenKind) (c : Condition) → IsConjunction w c → HasCondition w (part_operators 2 c) c
  conjunction_holds w c (conjunction {v = v} {w = x} {a = a} g h) =
      let front = unit_holds v a g in
      let back = and_holds a x c h in
      record {
        number = front.number + back.number;
        weighs = weighs_both front.weighs back.weighs;
        enough = omega (arith, front.enough, back.enough, unit_more a);
        ungrouped = back.ungrouped front.ungrouped;
      }

  and_holds : (a : Condition) (w : List TokenKind) (c : Condition) → IsAnd a w c → HasConditionBehind w (part_operators 2 a) (part_operators 2 c) a c
  and_holds a w c and_ends = record { number = 0; weighs = empty; enough = omega arith; ungrouped = λ q. q }
  and_holds a w c (and_more {b = b} {v = v} {w = x} g h) =
      let front = unit_holds v b g in
      let back = and_holds (And a b) x c h in
      record {
        number = suc (front.number + back.number);
        weighs = counted and_counted (weighs_both front.weighs back.weighs);
        enough = omega (arith, front.enough, back.enough);
        ungrouped = λ q. back.ungrouped (q, front.ungrouped);
      }

  unit_holds : (w : List TokenKind) (c : Condition) → IsUnit w c → HasCondition w (part_operators 3 c) c
  unit_holds w c (opposite {u = u} {c = d} g) =
      let inner = condition_holds u d g in
      record { number = suc (suc inner.number); weighs = counted not_counted (group_weighs u inner.number inner.weighs); enough = omega (arith, inner.enough); ungrouped = inner.ungrouped }
  unit_holds w c (in_group {u = u} {c = d} g) =
      let inner = condition_holds u d g in
      record { number = suc inner.number; weighs = group_weighs u inner.number inner.weighs; enough = omega (arith, inner.enough, enclosing_one (nat_lt (condition_rank d) 3) (condition_operators d)); ungrouped = inner.ungrouped }
  unit_holds w c (compare {v = v} {w = x} t {a = a} {b = b} {r = rel} g begins is h) =
      let left = side_holds v a g in
      let right = side_holds x b h in
      record {
        number = left.number + suc right.number;
        weighs = weighs_both left.weighs (counted (relation_of_counted t rel is) right.weighs);
        enough = omega (arith, left.enough, right.enough);
        ungrouped = left.begins begins;
      }

-- ---- what is printed has no more operators than any tokens of the same tree

pub least_expression : (w : List TokenKind) (e : Expression) → IsExpression w e → (i : ℕ) × Weighs w i × (operators e ≤ i)
least_expression w e h = let p = expression_holds w e h in (p.number, p.weighs, p.enough)

pub least_condition : (w : List TokenKind) (c : Condition) → IsCondition w c → (i : ℕ) × Weighs w i × (condition_operators c ≤ i) × IsUngrouped c
least_condition w c h = let p = condition_holds w c h in (p.number, p.weighs, p.enough, p.ungrouped)
