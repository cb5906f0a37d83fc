-- The grammar has the tokens of each expression, and of each condition whose comparisons begin with no parenthesis.
use Rattle.std.proofs.Common.{◌≡◌, ◌+◌, Bool, true, false, List, [], ◌∷◌, ◌++◌, refl, sym, ap, subst, ◌∙◌, append_assoc}
use Rattle.std.specs.Prelude.{nat_lt, Some, ◌||◌}
use Rattle.std.proofs.lemmas.List.{append-nil}
use Rattle.imp_lex.specs.declared.token.TokenKind.{TokenKind}
use Rattle.imp_lex.specs.declared.token.TokenKind.TheVariants as k
use Rattle.imp_lex.specs.declared.token.Mark.TheVariants as m
use Rattle.imp_syntax.specs.declared.words.Operator.{Operator}
use Rattle.imp_syntax.specs.declared.words.Operator.TheVariants as o
use Rattle.imp_syntax.specs.declared.words.Relation.{Relation}
use Rattle.imp_syntax.specs.declared.words.Relation.TheVariants as r
use Rattle.imp_syntax.specs.Plain.{Expression, Literal, Variable, Length, Negative, Binary, Operand, Null, Value, Condition, Compare, Not, And, Or}
use Rattle.imp_parse.specs.Tables.{additive, multiplicative, relation_of}
use Rattle.imp_parse.specs.Grammar.{IsExpression, sum, IsSum, sum_ends, sum_more, IsTerm, product, IsProduct, product_ends, product_more, IsFactor, negative, number, name, length_of, group, IsSide, null, value, begins_group, IsCondition, disjunction, IsOr, or_ends, or_more, IsConjunction, conjunction, IsAnd, and_ends, and_more, IsUnit, opposite, grouped as in_group, compare}
use Rattle.imp_print.specs.Expressions.{operator_rank, expression_rank}
use Rattle.imp_round_trip.proofs.Tokens.{operator_mark, relation_mark, grouped, expression_tokens, operand_tokens, side_tokens, condition_tokens, part_tokens}

-- ---- one more operand after

sum_behind : (a b e : Expression) (w v : List TokenKind) (t : TokenKind) (op : Operator) → IsSum a w e → additive t ≡ Some op → IsTerm v b → IsSum a (w ++ t ∷ v) (Binary op e b)
sum_behind a b e w v t op sum_ends is h = subst (λ (q : List TokenKind). IsSum a (t ∷ q) (Binary op a b)) (append-nil v) (sum_more is h sum_ends)
sum_behind a b e w v t op (sum_more {b = c} {o = first} {t = s} {v = x} {w = y} was g i) is h = subst (λ (q : List TokenKind). IsSum a (s ∷ q) (Binary op e b)) (sym (append_assoc x y (t ∷ v))) (sum_more was g (sum_behind (Binary first a c) b e y v t op i is h))

product_behind : (a b e : Expression) (w v : List TokenKind) (t : TokenKind) (op : Operator) → IsProduct a w e → multiplicative t ≡ Some op → IsFactor v b → IsProduct a (w ++ t ∷ v) (Binary op e b)
product_behind a b e w v t op product_ends is h = subst (λ (q : List TokenKind). IsProduct a (t ∷ q) (Binary op a b)) (append-nil v) (product_more is h product_ends)
product_behind a b e w v t op (product_more {b = c} {o = first} {t = s} {v = x} {w = y} was g i) is h = subst (λ (q : List TokenKind). IsProduct a (s ∷ q) (Binary op e b)) (sym (append_assoc x y (t ∷ v))) (product_more was g (product_behind (Binary first a c) b e y v t op i is h))

added : (e b : Expression) (w v : List TokenKind) (t : TokenKind) (op : Operator) → IsExpression w e → additive t ≡ Some op → IsTerm v b → IsExpression (w ++ t ∷ v) (Binary op e b)
added e b w v t op (sum {v = x} {w = y} {a = a} g i) is h = subst (λ (q : List TokenKind). IsExpression q (Binary op e b)) (sym (append_assoc x y (t ∷ v))) (sum g (sum_behind a b e y v t op i is h))

multiplied : (e b : Expression) (w v : List TokenKind) (t : TokenKind) (op : Operator) → IsTerm w e → multiplicative t ≡ Some op → IsFactor v b → IsTerm (w ++ t ∷ v) (Binary op e b)
multiplied e b w v t op (product {v = x} {w = y} {a = a} g i) is h = subst (λ (q : List TokenKind). IsTerm q (Binary op e b)) (sym (append_assoc x y (t ∷ v))) (product g (product_behind a b e y v t op i is h))

alone_term : (w : List TokenKind) (e : Expression) → IsFactor w e → IsTerm w e
alone_term w e h = subst (λ (q : List TokenKind). IsTerm q e) (append-nil w) (product h product_ends)

alone_expression : (w : List TokenKind) (e : Expression) → IsTerm w e → IsExpression w e
alone_expression w e h = subst (λ (q : List TokenKind). IsExpression q e) (append-nil w) (sum h sum_ends)

-- ---- expressions

-- what is printed as an expression, as a term and as a factor is one
pub record IsSpelled (e : Expression) : Type 0 where
  pub expression : IsExpression (expression_tokens e) e
  pub term : IsTerm (operand_tokens 2 e) e
  pub factor : IsFactor (operand_tokens 3 e) e

-- every expression binds at least as a sum
pub least_operand : (e : Expression) → operand_tokens 1 e ≡ expression_tokens e
least_operand (Literal n) = refl
least_operand (Variable x) = refl
least_operand (Length x) = refl
least_operand (Negative e) = refl
least_operand (Binary o.Add a b) = refl
least_operand (Binary o.Subtract a b) = refl
least_operand (Binary o.Multiply a b) = refl
least_operand (Binary o.Divide a b) = refl
least_operand (Binary o.Remainder a b) = refl

of_factor : (e : Expression) (w : List TokenKind) → IsFactor w e → IsExpression w e × IsTerm w e × IsFactor w e
of_factor e w h = (alone_expression w e (alone_term w e h), alone_term w e h, h)

of_sum : (e : Expression) (w : List TokenKind) → IsExpression w e → IsExpression w e × IsTerm (grouped true w) e × IsFactor (grouped true w) e
of_sum e w h = (h, alone_term (grouped true w) e (group h), group h)

of_product : (e : Expression) (w : List TokenKind) → IsTerm w e → IsExpression w e × IsTerm w e × IsFactor (grouped true w) e
of_product e w h = (alone_expression w e h, h, group (alone_expression w e h))

added_to : (op : Operator) (t : TokenKind) (a b : Expression) → additive t ≡ Some op → IsSpelled a → IsSpelled b → IsExpression (operand_tokens 1 a ++ t ∷ operand_tokens 2 b) (Binary op a b)
added_to op t a b is g h = subst (λ (q : List TokenKind). IsExpression (q ++ t ∷ operand_tokens 2 b) (Binary op a b)) (sym (least_operand a)) (added a b (expression_tokens a) (operand_tokens 2 b) t op g.expression is h.term)

pub spelled : (e : Expression) → IsSpelled e
spelled (Literal n) = let p = of_factor (Literal n) (k.Number n ∷ []) number in record { expression = p.0; term = p.1; factor = p.2 }
spelled (Variable x) = let p = of_factor (Variable x) (k.Name x ∷ []) name in record { expression = p.0; term = p.1; factor = p.2 }
spelled (Length x) = let p = of_factor (Length x) (expression_tokens (Length x)) length_of in record { expression = p.0; term = p.1; factor = p.2 }
spelled (Negative e) = let p = of_factor (Negative e) (expression_tokens (Negative e)) (negative (spelled e).factor) in record { expression = p.0; term = p.1; factor = p.2 }
spelled (Binary o.Add a b) = let p = of_sum (Binary o.Add a b) (expression_tokens (Binary o.Add a b)) (added_to o.Add (k.Mark m.Plus) a b refl (spelled a) (spelled b)) in record { expression = p.0; term = p.1; factor = p.2 }
spelled (Binary o.Subtract a b) = let p = of_sum (Binary o.Subtract a b) (expression_tokens (Binary o.Subtract a b)) (added_to o.Subtract (k.Mark m.Minus) a b refl (spelled a) (spelled b)) in record { expression = p.0; term = p.1; factor = p.2 }
spelled (Binary o.Multiply a b) = let p = of_product (Binary o.Multiply a b) (expression_tokens (Binary o.Multiply a b)) (multiplied a b (operand_tokens 2 a) (operand_tokens 3 b) (k.Mark m.Star) o.Multiply (spelled a).term refl (spelled b).factor) in record { expression = p.0; term = p.1; factor = p.2 }
spelled (Binary o.Divide a b) = let p = of_product (Binary o.Divide a b) (expression_tokens (Binary o.Divide a b)) (multiplied a b (operand_tokens 2 a) (operand_tokens 3 b) (k.Mark m.Slash) o.Divide (spelled a).term refl (spelled b).factor) in record { expression = p.0; term = p.1; factor = p.2 }
spelled (Binary o.Remainder a b) = let p = of_product (Binary o.Remainder a b) (expression_tokens (Binary o.Remainder a b)) (multiplied a b (operand_tokens 2 a) (operand_tokens 3 b) (k.Mark m.Percent) o.Remainder (spelled a).term refl (spelled b).factor) in record { expression = p.0; term = p.1; factor = p.2 }

pub side_spelled : (a : Operand) → IsSide (side_tokens a) a
side_spelled Null = null
side_spelled (Value e) = value (spelled e).expression

-- ---- what begins with a parenthesis

-- the printed expression begins with one
abbrev pub opens : Expression → Bool
opens (Literal n) = false
opens (Variable x) = false
opens (Length x) = false
opens (Negative e) = false
opens (Binary op a b) = nat_lt (expression_rank a) (operator_rank op) || opens a

abbrev pub opens_side : Operand → Bool
opens_side Null = false
opens_side (Value e) = opens e

grouped_begins : (v : Bool) (w rest : List TokenKind) (x : Bool) → begins_group (w ++ rest) ≡ x → begins_group (grouped v w ++ rest) ≡ (v || x)
grouped_begins true w rest x h = refl
grouped_begins false w rest x h = h

expression_begins : (e : Expression) (rest : List TokenKind) → begins_group (expression_tokens e ++ rest) ≡ opens e
expression_begins (Literal n) rest = refl
expression_begins (Variable x) rest = refl
expression_begins (Length x) rest = refl
expression_begins (Negative e) rest = refl
expression_begins (Binary op a b) rest =
    let left : List TokenKind = grouped (nat_lt (expression_rank a) (operator_rank op)) (expression_tokens a) in
    let right : List TokenKind = operator_mark op ∷ grouped (nat_lt (expression_rank b) (operator_rank op + 1)) (expression_tokens b) in
    ap begins_group (append_assoc left right rest) ∙ grouped_begins (nat_lt (expression_rank a) (operator_rank op)) (expression_tokens a) (right ++ rest) (opens a) (expression_begins a (right ++ rest))

side_begins : (a : Operand) → begins_group (side_tokens a) ≡ opens_side a
side_begins Null = refl
side_begins (Value e) = ap begins_group (sym (append-nil (expression_tokens e))) ∙ expression_begins e []

-- ---- conditions

-- no left side of a comparison begins with a parenthesis
abbrev pub IsUngrouped : Condition → Type 0
IsUngrouped (Compare rel a b) = opens_side a ≡ false
IsUngrouped (Not c) = IsUngrouped c
IsUngrouped (And c d) = IsUngrouped c × IsUngrouped d
IsUngrouped (Or c d) = IsUngrouped c × IsUngrouped d

or_behind : (a b c : Condition) (w v : List TokenKind) → IsOr a w c → IsConjunction v b → IsOr a (w ++ k.Mark m.Or ∷ v) (Or c b)
or_behind a b c w v or_ends h = subst (λ (q : List TokenKind). IsOr a (k.Mark m.Or ∷ q) (Or a b)) (append-nil v) (or_more h or_ends)
or_behind a b c w v (or_more {b = d} {v = x} {w = y} g i) h = subst (λ (q : List TokenKind). IsOr a (k.Mark m.Or ∷ q) (Or c b)) (sym (append_assoc x y (k.Mark m.Or ∷ v))) (or_more g (or_behind (Or a d) b c y v i h))

and_behind : (a b c : Condition) (w v : List TokenKind) → IsAnd a w c → IsUnit v b → IsAnd a (w ++ k.Mark m.And ∷ v) (And c b)
and_behind a b c w v and_ends h = subst (λ (q : List TokenKind). IsAnd a (k.Mark m.And ∷ q) (And a b)) (append-nil v) (and_more h and_ends)
and_behind a b c w v (and_more {b = d} {v = x} {w = y} g i) h = subst (λ (q : List TokenKind). IsAnd a (k.Mark m.And ∷ q) (And c b)) (sym (append_assoc x y (k.Mark m.And ∷ v))) (and_more g (and_behind (And a d) b c y v i h))

either_of : (c b : Condition) (w v : List TokenKind) → IsCondition w c → IsConjunction v b → IsCondition (w ++ k.Mark m.Or ∷ v) (Or c b)
either_of c b w v (disjunction {v = x} {w = y} {a = a} g i) h = subst (λ (q : List TokenKind). IsCondition q (Or c b)) (sym (append_assoc x y (k.Mark m.Or ∷ v))) (disjunction g (or_behind a b c y v i h))

both_of : (c b : Condition) (w v : List TokenKind) → IsConjunction w c → IsUnit v b → IsConjunction (w ++ k.Mark m.And ∷ v) (And c b)
both_of c b w v (conjunction {v = x} {w = y} {a = a} g i) h = subst (λ (q : List TokenKind). IsConjunction q (And c b)) (sym (append_assoc x y (k.Mark m.And ∷ v))) (conjunction g (and_behind a b c y v i h))

alone_conjunction : (w : List TokenKind) (c : Condition) → IsUnit w c → IsConjunction w c
alone_conjunction w c h = subst (λ (q : List TokenKind). IsConjunction q c) (append-nil w) (conjunction h and_ends)

alone_condition : (w : List TokenKind) (c : Condition) → IsConjunction w c → IsCondition w c
alone_condition w c h = subst (λ (q : List TokenKind). IsCondition q c) (append-nil w) (disjunction h or_ends)

-- what is printed as a condition, as a conjunction and as a unit is one
pub record IsConditionSpelled (c : Condition) : Type 0 where
  pub condition : IsCondition (condition_tokens c) c
  pub conjunction : IsConjunction (part_tokens 2 c) c
  pub unit : IsUnit (part_tokens 3 c) c

pub least_part : (c : Condition) → part_tokens 1 c ≡ condition_tokens c
least_part (Compare rel a b) = refl
least_part (Not c) = refl
least_part (And c d) = refl
least_part (Or c d) = refl

relation_is : (rel : Relation) → relation_of (relation_mark rel) ≡ Some rel
relation_is r.Equal = refl
relation_is r.NotEqual = refl
relation_is r.Less = refl
relation_is r.AtMost = refl
relation_is r.Greater = refl
relation_is r.AtLeast = refl

of_unit : (c : Condition) (w : List TokenKind) → IsUnit w c → IsCondition w c × IsConjunction w c × IsUnit w c
of_unit c w h = (alone_condition w c (alone_conjunction w c h), alone_conjunction w c h, h)

pub condition_spelled : (c : Condition) → IsUngrouped c → IsConditionSpelled c
condition_spelled (Compare rel a b) h =
    let p = of_unit (Compare rel a b) (condition_tokens (Compare rel a b)) (compare (relation_mark rel) (side_spelled a) (side_begins a ∙ h) (relation_is rel) (side_spelled b)) in
    record { condition = p.0; conjunction = p.1; unit = p.2 }
condition_spelled (Not c) h =
    let p = of_unit (Not c) (condition_tokens (Not c)) (opposite (condition_spelled c h).condition) in
    record { condition = p.0; conjunction = p.1; unit = p.2 }
condition_spelled (And c d) h =
    let both = both_of c d (part_tokens 2 c) (part_tokens 3 d) (condition_spelled c h.0).conjunction (condition_spelled d h.1).unit in
    let whole = alone_condition (condition_tokens (And c d)) (And c d) both in
    record { condition = whole; conjunction = both; unit = in_group whole }
condition_spelled (Or c d) h =
    let left : IsCondition (part_tokens 1 c) c = subst (λ (q : List TokenKind). IsCondition q c) (sym (least_part c)) (condition_spelled c h.0).condition in
    let whole = either_of c d (part_tokens 1 c) (part_tokens 2 d) left (condition_spelled d h.1).conjunction in
    record { condition = whole; conjunction = alone_conjunction (grouped true (condition_tokens (Or c d))) (Or c d) (in_group whole); unit = in_group whole }
