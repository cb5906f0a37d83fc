-- The readers of conditions are exact.
use Rattle.std.proofs.Common.{◌≡◌, ℕ, ◌<◌, Bool, false, List, [], ◌∷◌, ◌++◌, length, Some, refl, sym, subst, arith, length-append}
use Rattle.std.specs.Prelude.{is_some, ◌||◌}
use Rattle.std.proofs.lemmas.List.{append-nil}
use Rattle.imp_lex.specs.declared.token.Mark.TheVariants as m
use Rattle.imp_lex.specs.declared.token.Word.TheVariants as word
use Rattle.imp_lex.specs.declared.token.TokenKind.{TokenKind}
use Rattle.imp_lex.specs.declared.token.TokenKind.TheVariants as k
use Rattle.imp_syntax.specs.declared.words.Relation.{Relation}
use Rattle.imp_syntax.specs.declared.words.Relation.TheVariants as r
use Rattle.imp_syntax.specs.Plain.{Expression, Literal, Operand, Null, Value, Condition, Compare, Not, And, Or}
use Rattle.imp_parse.specs.Language.{Language, Opens}
use Rattle.imp_parse.specs.Reader.{◌>>=◌, fix}
use Rattle.imp_parse.specs.Tables.{relation_of, and_of, or_of, same_mark}
use Rattle.imp_parse.specs.Grammar.{IsExpression, sum, sum_ends, product, product_ends, negative, number, name, length_of, group, IsSide, null, value, begins_group, IsCondition, disjunction, IsOr, or_ends, or_more, IsConjunction, conjunction, IsAnd, and_ends, and_more, IsUnit, opposite, grouped, compare}
use Rattle.imp_parse.specs.Reading.{Part, Whole, Inner, High, Low, Parts, expression_at, side_at, unit_by, condition_step, condition_at, and_by, or_by}
use Rattle.imp_parse.proofs.Exact.{Free, Exact, Both, both}
use Rattle.imp_parse.proofs.Pack.{Layer, Strict, Loose, loose, Nothing, nothing, done, nothing_follows, call, read, Follows, then, next, Arm, Live, Other, IsOther, live, other, choose, strict_stops}
use Rattle.imp_parse.proofs.Layers.{Turn, layer_eq, layer_exact, alone, no_calls, alone_exact}
use Rattle.imp_parse.proofs.Chains.{Tail, ends, more, Chains, low_on, layer, turn, whole_eq, high_eq, low_eq}
use Rattle.imp_parse.proofs.Singles.{IsMark, mark, a_mark, IsPicked, picked_as, a_relation}
use Rattle.imp_parse.proofs.Expressions.{operator_on, expression_exact}

-- ---- a side

pub expression_some : {w : List TokenKind} {e : Expression} → IsExpression w e → 0 < length w
expression_some (sum (product (negative g) h) l) = omega arith
expression_some (sum (product number h) l) = omega arith
expression_some (sum (product name h) l) = omega arith
expression_some (sum (product length_of h) l) = omega arith
expression_some (sum (product (group g) h) l) = omega arith

pub number_spells : Opens IsExpression []
number_spells = (k.Number 0 ∷ [], Literal 0, sum (product number product_ends) sum_ends)

abbrev pub an_expression : {L : Layer} → Strict L Expression operator_on
an_expression = read IsExpression operator_on expression_at expression_exact number_spells (λ w a g. expression_some g)

abbrev pub value_pack : {L : Layer} → Strict L Operand operator_on
value_pack = then an_expression (λ e. loose (done operator_on (Value e))) (λ e. nothing_follows operator_on (Value e))

abbrev pub side_arm : {L : Layer} → TokenKind → Arm L Operand operator_on
side_arm (k.Word word.Null) = Live (loose (done operator_on Null))
side_arm t = Other

abbrev pub side_pack : {L : Layer} → Strict L Operand operator_on
side_pack = choose side_arm value_pack (strict_stops side_arm value_pack) (k.Word word.Null ∷ [], Null, live {t = k.Word word.Null} nothing)

-- ---- what a side spells

side_to : (w : List TokenKind) (a : Operand) → (side_pack {L = alone}).lang w a → IsSide w a
side_to w a (live {t = k.Word word.Null} nothing) = null
side_to w a (live {t = t} g) = absurd g
side_to w a (other o (both {v = v} {a = e} g nothing)) = subst (λ (q : List TokenKind). IsSide q (Value e)) (sym (append-nil v)) (value g)

expression_other : {w : List TokenKind} {e : Expression} → IsExpression w e → IsOther (side_arm {L = alone}) w
expression_other (sum (product (negative g) h) l) = refl
expression_other (sum (product number h) l) = refl
expression_other (sum (product name h) l) = refl
expression_other (sum (product length_of h) l) = refl
expression_other (sum (product (group g) h) l) = refl

side_from : (w : List TokenKind) (a : Operand) → IsSide w a → (side_pack {L = alone}).lang w a
side_from w a null = live {t = k.Word word.Null} nothing
side_from w a (value {u = u} {e = e} g) = other (expression_other g) (subst (λ (q : List TokenKind). Both IsExpression (λ x. Nothing (Value x)) q (Value e)) (append-nil u) (both g nothing))

side_is : (ts : List TokenKind) → side_at ts ≡ (side_pack {L = alone}).reader no_calls ts
side_is [] = refl
side_is (k.Word word.Null ∷ rest) = refl
side_is (t ∷ rest) = refl

pub side_exact : (n : ℕ) → Exact n IsSide operator_on side_at
side_exact n = alone_exact side_pack IsSide side_at side_to side_from side_is n

pub side_some : {w : List TokenKind} {a : Operand} → IsSide w a → 0 < length w
side_some null = omega arith
side_some (value g) = expression_some g

abbrev pub a_side : {L : Layer} → Strict L Operand operator_on
a_side = read IsSide operator_on side_at side_exact (k.Word word.Null ∷ [], Null, null) (λ w a g. side_some g)

-- ---- the languages of chains

pub whole_from : (w : List TokenKind) (a : Condition) → IsCondition w a → Both IsConjunction IsOr w a
whole_from w a (disjunction g h) = both g h

pub whole_to : (w : List TokenKind) (a : Condition) → Both IsConjunction IsOr w a → IsCondition w a
whole_to w a (both g h) = disjunction g h

pub part_from : (w : List TokenKind) (a : Condition) → IsConjunction w a → Both IsUnit IsAnd w a
part_from w a (conjunction g h) = both g h

pub part_to : (w : List TokenKind) (a : Condition) → Both IsUnit IsAnd w a → IsConjunction w a
part_to w a (both g h) = conjunction g h

pub low_from : (a : Condition) (w : List TokenKind) (e : Condition) → IsOr a w e → Tail or_of (λ u. Or) IsConjunction IsOr a w e
low_from a w e or_ends = ends
low_from a w e (or_more g h) = more {op = tt} {t = k.Mark m.Or} refl g h

pub low_to : (a : Condition) (w : List TokenKind) (e : Condition) → Tail or_of (λ u. Or) IsConjunction IsOr a w e → IsOr a w e
low_to a w e ends = or_ends
low_to a w e (more {t = k.Mark m.Or} is g h) = or_more g h
low_to a w e (more {t = t} is g h) = absurd cc

pub high_from : (a : Condition) (w : List TokenKind) (e : Condition) → IsAnd a w e → Tail and_of (λ u. And) IsUnit IsAnd a w e
high_from a w e and_ends = ends
high_from a w e (and_more g h) = more {op = tt} {t = k.Mark m.And} refl g h

pub high_to : (a : Condition) (w : List TokenKind) (e : Condition) → Tail and_of (λ u. And) IsUnit IsAnd a w e → IsAnd a w e
high_to a w e ends = and_ends
high_to a w e (more {t = k.Mark m.And} is g h) = and_more g h
high_to a w e (more {t = t} is g h) = absurd cc

pub high_apart : (t : TokenKind) (op : Unit {0}) → and_of t ≡ Some op → operator_on t ≡ false
high_apart (k.Mark m.And) op e = refl
high_apart t op e = absurd cc

pub low_apart : (t : TokenKind) (op : Unit {0}) → or_of t ≡ Some op → (is_some (and_of t) || operator_on t) ≡ false
low_apart (k.Mark m.Or) op e = refl
low_apart t op e = absurd cc

pub unit_spells : Opens IsUnit []
unit_spells = (k.Word word.Null ∷ k.Mark m.Less ∷ k.Word word.Null ∷ [], Compare r.Less Null Null, compare {v = k.Word word.Null ∷ []} {w = k.Word word.Null ∷ []} (k.Mark m.Less) null refl refl null)

abbrev pub chains : Chains Condition (Unit {0}) and_of or_of (λ u. And) (λ u. Or) operator_on
chains = record {
  Whole = IsCondition;
  Part = IsConjunction;
  Unit_ = IsUnit;
  High = IsAnd;
  Low = IsOr;
  whole_to = whole_to;
  whole_from = whole_from;
  part_to = part_to;
  part_from = part_from;
  high_to = high_to;
  high_from = high_from;
  low_to = low_to;
  low_from = low_from;
  unit_some = unit_spells;
  high_apart = high_apart;
  low_apart = low_apart;
}

abbrev pub conditions : Layer
conditions = layer and_of or_of (λ u. And) (λ u. Or) operator_on chains

-- goes on with an operator, && or ||
abbrev pub junction_on : TokenKind → Bool
junction_on = low_on chains

-- ---- a unit

pub close_follows : (a : Condition) (w : List TokenKind) (e : Condition) (rest : List TokenKind) → Both (IsMark m.CloseParenthesis) (λ z. Nothing a) w e → Free operator_on rest → Free junction_on (w ++ rest)
close_follows a w e rest (both mark h) free = refl

abbrev pub grouped_pack : (Condition → Condition) → Loose conditions Condition operator_on
grouped_pack made = then (call {L = conditions} Whole) (λ c. loose (next (a_mark m.CloseParenthesis) (λ z. loose (done operator_on (made c))))) (λ c. close_follows (made c))

pub relation_stops : (t : TokenKind) (x : Relation) → relation_of t ≡ Some x → operator_on t ≡ false
relation_stops (k.Mark m.EqualTo) x e = refl
relation_stops (k.Mark m.NotEqualTo) x e = refl
relation_stops (k.Mark m.Less) x e = refl
relation_stops (k.Mark m.AtMost) x e = refl
relation_stops (k.Mark m.Greater) x e = refl
relation_stops (k.Mark m.AtLeast) x e = refl
relation_stops t x e = absurd cc

pub relation_follows : {A : Type 0} (H : Relation → Language A) → Follows operator_on (Both (IsPicked relation_of) H) operator_on
relation_follows H w a rest (both {a = x} (picked_as t is) h) free = relation_stops t x is

abbrev pub compare_pack : Strict conditions Condition operator_on
compare_pack = then a_side (λ a. loose (next a_relation (λ r. loose (then a_side (λ b. loose (done operator_on (Compare r a b))) (λ b. nothing_follows operator_on (Compare r a b)))))) (λ a. relation_follows _)

abbrev pub unit_arm : TokenKind → Arm conditions Condition operator_on
unit_arm (k.Mark m.Not) = Live (loose (next (a_mark m.OpenParenthesis) (λ z. grouped_pack (λ c. Not c))))
unit_arm (k.Mark m.OpenParenthesis) = Live (grouped_pack (λ c. c))
unit_arm t = Other

pub side_other : {v : List TokenKind} {a : Operand} → IsSide v a → begins_group v ≡ false → (rest : List TokenKind) → IsOther unit_arm (v ++ rest)
side_other null closed rest = refl
side_other (value (sum (product (negative g) h) l)) closed rest = refl
side_other (value (sum (product number h) l)) closed rest = refl
side_other (value (sum (product name h) l)) closed rest = refl
side_other (value (sum (product length_of h) l)) closed rest = refl
side_other (value (sum (product (group g) h) l)) closed rest = absurd cc

abbrev pub unit_pack : Strict conditions Condition operator_on
unit_pack = choose unit_arm compare_pack (strict_stops unit_arm compare_pack) (k.Word word.Null ∷ k.Mark m.Less ∷ k.Word word.Null ∷ [], Compare r.Less Null Null, other refl (both null (both (picked_as (k.Mark m.Less) refl) (both null nothing))))

closed_of : (v rest : List TokenKind) → IsOther unit_arm (v ++ rest) → begins_group v ≡ false
closed_of [] rest o = refl
closed_of (k.Mark m.OpenParenthesis ∷ v) rest o = absurd cc
closed_of (t ∷ v) rest o = refl

pub unit_to : (w : List TokenKind) (c : Condition) → unit_pack.lang w c → IsUnit w c
unit_to w c (live {t = k.Mark m.Not} (both mark (both g (both mark nothing)))) = opposite g
unit_to w c (live {t = k.Mark m.OpenParenthesis} (both g (both mark nothing))) = grouped g
unit_to w c (live {t = t} g) = absurd g
unit_to w c (other o (both {v = v} {a = a} g (both {a = x} (picked_as t is) (both {v = u} {a = b} h nothing)))) = subst (λ (q : List TokenKind). IsUnit (v ++ t ∷ q) (Compare x a b)) (sym (append-nil u)) (compare t g (closed_of v (t ∷ (u ++ [])) o) is h)

pub unit_from : (w : List TokenKind) (c : Condition) → IsUnit w c → unit_pack.lang w c
unit_from w c (opposite g) = live {t = k.Mark m.Not} (both mark (both g (both mark nothing)))
unit_from w c (grouped g) = live {t = k.Mark m.OpenParenthesis} (both g (both mark nothing))
unit_from w c (compare {v = v} {w = u} t {a = a} {b = b} {r = x} g closed is h) = other (side_other g closed (t ∷ u)) (both g (both (picked_as t is) (subst (λ (q : List TokenKind). Both IsSide (λ y. Nothing (Compare x a y)) q (Compare x a b)) (append-nil u) (both h nothing))))

pub unit_is : (f : Parts Condition) (ts : List TokenKind) → unit_by f ts ≡ unit_pack.reader f ts
unfolding same_mark
unit_is f [] = refl
unit_is f (k.Mark m.Not ∷ rest) = refl
unit_is f (k.Mark m.OpenParenthesis ∷ rest) = refl
unit_is f (t ∷ rest) = refl

-- ---- the layer

pub turns : (i : Part Condition) → Turn conditions condition_step i
unfolding condition_step
turns i = turn and_of or_of (λ u. And) (λ u. Or) operator_on chains unit_pack unit_to unit_from unit_by unit_is i

pub condition_exact : (n : ℕ) → Exact n IsCondition junction_on condition_at
condition_exact n = layer_exact conditions condition_step turns n Whole

pub condition_spells : Opens IsCondition []
condition_spells = conditions.some Whole

unit_length : {w : List TokenKind} {c : Condition} → IsUnit w c → 0 < length w
unit_length (opposite g) = omega arith
unit_length (grouped g) = omega arith
unit_length (compare {v = v} {w = u} t g closed is h) = omega (arith, side_some g, length-append v (t ∷ u))

pub condition_length : {w : List TokenKind} {c : Condition} → IsCondition w c → 0 < length w
condition_length (disjunction {v = vw} {w = u2} (conjunction {v = v} {w = u} g h) l) = omega (arith, unit_length g, length-append v u, length-append vw u2)

abbrev pub a_condition : {L : Layer} → Strict L Condition junction_on
a_condition = read IsCondition junction_on condition_at condition_exact condition_spells (λ w a g. condition_length g)

-- ---- the equations of the readers

pub condition_eq : (ts : List TokenKind) → fix condition_step Whole ts ≡ (fix condition_step Inner ts >>= λ x. fix condition_step (High x.0) x.1) >>= λ x. fix condition_step (Low x.0) x.1
unfolding condition_step
condition_eq ts = whole_eq and_of or_of (λ u. And) (λ u. Or) operator_on chains unit_pack unit_to unit_from unit_by unit_is ts

pub unit_eq : (ts : List TokenKind) → fix condition_step Inner ts ≡ unit_by (fix condition_step) ts
unfolding condition_step
unit_eq ts = layer_eq conditions condition_step turns Inner ts

pub and_eq : (a : Condition) (ts : List TokenKind) → fix condition_step (High a) ts ≡ and_by a ts
unfolding condition_step
and_eq a ts = high_eq and_of or_of (λ u. And) (λ u. Or) operator_on chains unit_pack unit_to unit_from unit_by unit_is a ts

pub or_eq : (a : Condition) (ts : List TokenKind) → fix condition_step (Low a) ts ≡ or_by a ts
unfolding condition_step
or_eq a ts = low_eq and_of or_of (λ u. And) (λ u. Or) operator_on chains unit_pack unit_to unit_from unit_by unit_is a ts
