-- The readers of expressions are exact.
use Rattle.std.proofs.Common.{◌≡◌, ℕ, Bool, false, List, [], ◌∷◌, ◌++◌, Some, refl, sym, subst}
use Rattle.std.specs.Prelude.{is_some, ◌||◌}
use Rattle.std.proofs.lemmas.List.{append-nil}
use Rattle.imp_lex.specs.declared.token.Mark.TheVariants as m
use Rattle.imp_lex.specs.declared.token.Word.TheVariants as word
use Rattle.imp_lex.specs.declared.token.TokenKind.{TokenKind}
use Rattle.imp_lex.specs.declared.token.TokenKind.TheVariants as k
use Rattle.imp_syntax.specs.declared.words.Operator.{Operator}
use Rattle.imp_syntax.specs.Plain.{Expression, Literal, Variable, Length, Negative, Binary}
use Rattle.imp_parse.specs.Reader.{◌>>=◌, fix}
use Rattle.imp_parse.specs.Tables.{additive, multiplicative, same_mark}
use Rattle.imp_parse.specs.Grammar.{IsExpression, sum, IsSum, sum_ends, sum_more, IsTerm, product, IsProduct, product_ends, product_more, IsFactor, negative, number, name, length_of, group}
use Rattle.imp_parse.specs.Reading.{Part, Whole, Inner, High, Low, Parts, factor_by, expression_step, expression_at, product_at, sum_at, product_by, sum_by}
use Rattle.imp_parse.proofs.Exact.{Free, Exact, Both, both}
use Rattle.imp_parse.proofs.Pack.{Layer, Strict, loose, Nothing, nothing, done, call, then, next, never, Arm, Live, Other, live, other, choose, strict_stops}
use Rattle.imp_parse.proofs.Layers.{Turn, layer_eq, layer_exact}
use Rattle.imp_parse.proofs.Chains.{Tail, ends, more, Chains, high_on, low_on, layer, turn, whole_eq, high_eq, low_eq}
use Rattle.imp_parse.proofs.Singles.{IsMark, mark, a_mark, named, a_name}

-- ---- the languages

pub whole_from : (w : List TokenKind) (a : Expression) → IsExpression w a → Both IsTerm IsSum w a
whole_from w a (sum g h) = both g h

pub whole_to : (w : List TokenKind) (a : Expression) → Both IsTerm IsSum w a → IsExpression w a
whole_to w a (both g h) = sum g h

pub part_from : (w : List TokenKind) (a : Expression) → IsTerm w a → Both IsFactor IsProduct w a
part_from w a (product g h) = both g h

pub part_to : (w : List TokenKind) (a : Expression) → Both IsFactor IsProduct w a → IsTerm w a
part_to w a (both g h) = product g h

pub low_from : (a : Expression) (w : List TokenKind) (e : Expression) → IsSum a w e → Tail additive Binary IsTerm IsSum a w e
low_from a w e sum_ends = ends
low_from a w e (sum_more is g h) = more is g h

pub low_to : (a : Expression) (w : List TokenKind) (e : Expression) → Tail additive Binary IsTerm IsSum a w e → IsSum a w e
low_to a w e ends = sum_ends
low_to a w e (more is g h) = sum_more is g h

pub high_from : (a : Expression) (w : List TokenKind) (e : Expression) → IsProduct a w e → Tail multiplicative Binary IsFactor IsProduct a w e
high_from a w e product_ends = ends
high_from a w e (product_more is g h) = more is g h

pub high_to : (a : Expression) (w : List TokenKind) (e : Expression) → Tail multiplicative Binary IsFactor IsProduct a w e → IsProduct a w e
high_to a w e ends = product_ends
high_to a w e (more is g h) = product_more is g h

pub high_apart : (t : TokenKind) (op : Operator) → multiplicative t ≡ Some op → never t ≡ false
high_apart t op e = refl

pub low_apart : (t : TokenKind) (op : Operator) → additive t ≡ Some op → (is_some (multiplicative t) || never t) ≡ false
low_apart (k.Mark m.Plus) op e = refl
low_apart (k.Mark m.Minus) op e = refl
low_apart t op e = absurd cc

abbrev pub chains : Chains Expression Operator multiplicative additive Binary Binary never
chains = record {
  Whole = IsExpression;
  Part = IsTerm;
  Unit_ = IsFactor;
  High = IsProduct;
  Low = IsSum;
  whole_to = whole_to;
  whole_from = whole_from;
  part_to = part_to;
  part_from = part_from;
  high_to = high_to;
  high_from = high_from;
  low_to = low_to;
  low_from = low_from;
  unit_some = (k.Number 0 ∷ [], Literal 0, number);
  high_apart = high_apart;
  low_apart = low_apart;
}

abbrev pub expressions : Layer
expressions = layer multiplicative additive Binary Binary never chains

-- goes on with an operator
abbrev pub operator_on : TokenKind → Bool
operator_on = low_on chains

-- ---- a factor

pub close_follows : {A : Type 0} (a : A) (w : List TokenKind) (e : A) (rest : List TokenKind) → Both (IsMark m.CloseParenthesis) (λ z. Nothing a) w e → Free never rest → Free operator_on (w ++ rest)
close_follows a w e rest (both mark h) free = refl

abbrev pub group_pack : Strict expressions Expression never
group_pack = next (a_mark m.OpenParenthesis) (λ o. then (call {L = expressions} Whole) (λ a. loose (next (a_mark m.CloseParenthesis) (λ z. loose (done never a)))) close_follows)

abbrev pub factor_arm : TokenKind → Arm expressions Expression never
factor_arm (k.Name x) = Live (loose (done never (Variable x)))
factor_arm (k.Number n) = Live (loose (done never (Literal n)))
factor_arm (k.Word word.Len) = Live (loose (next a_name (λ x. loose (done never (Length x)))))
factor_arm (k.Mark m.Minus) = Live (next (call {L = expressions} Inner) (λ a. loose (done never (Negative a))))
factor_arm t = Other

abbrev pub factor_pack : Strict expressions Expression never
factor_pack = choose factor_arm group_pack (strict_stops factor_arm group_pack) (k.Number 0 ∷ [], Literal 0, live {t = k.Number 0} nothing)

pub factor_to : (w : List TokenKind) (e : Expression) → factor_pack.lang w e → IsFactor w e
factor_to w e (live {t = k.Name x} nothing) = name
factor_to w e (live {t = k.Number n} nothing) = number
factor_to w e (live {t = k.Word word.Len} (both named nothing)) = length_of
factor_to w e (live {t = k.Mark m.Minus} (both {v = v} {w = u} {a = a} g nothing)) = subst (λ (q : List TokenKind). IsFactor (k.Mark m.Minus ∷ q) (Negative a)) (sym (append-nil v)) (negative g)
factor_to w e (live {t = t} g) = absurd g
factor_to w e (other o (both mark (both g (both mark nothing)))) = group g

pub factor_from : (w : List TokenKind) (e : Expression) → IsFactor w e → factor_pack.lang w e
factor_from w e (negative {u = u} {a = a} g) = live {t = k.Mark m.Minus} (subst (λ (q : List TokenKind). Both IsFactor (λ b. Nothing (Negative b)) q (Negative a)) (append-nil u) (both g nothing))
factor_from w e (number {n = n}) = live {t = k.Number n} nothing
factor_from w e (name {x = x}) = live {t = k.Name x} nothing
factor_from w e length_of = live {t = k.Word word.Len} (both named nothing)
factor_from w e (group g) = other refl (both mark (both g (both mark nothing)))

pub factor_is : (f : Parts Expression) (ts : List TokenKind) → factor_by f ts ≡ factor_pack.reader f ts
unfolding same_mark
factor_is f [] = refl
factor_is f (k.Number n ∷ rest) = refl
factor_is f (k.Name x ∷ rest) = refl
factor_is f (k.Word word.Len ∷ rest) = refl
factor_is f (k.Mark m.Minus ∷ rest) = refl
factor_is f (k.Mark m.OpenParenthesis ∷ rest) = refl
factor_is f (t ∷ rest) = refl

-- ---- the layer

pub turns : (i : Part Expression) → Turn expressions expression_step i
unfolding expression_step
turns i = turn multiplicative additive Binary Binary never chains factor_pack factor_to factor_from factor_by factor_is i

pub expression_exact : (n : ℕ) → Exact n IsExpression operator_on expression_at
expression_exact n = layer_exact expressions expression_step turns n Whole

pub product_exact : (a : Expression) (n : ℕ) → Exact n (IsProduct a) (high_on chains) (product_at a)
product_exact a n = layer_exact expressions expression_step turns n (High a)

pub sum_exact : (a : Expression) (n : ℕ) → Exact n (IsSum a) operator_on (sum_at a)
sum_exact a n = layer_exact expressions expression_step turns n (Low a)

-- ---- the equations of the readers

pub expression_eq : (ts : List TokenKind) → fix expression_step Whole ts ≡ (fix expression_step Inner ts >>= λ x. fix expression_step (High x.0) x.1) >>= λ x. fix expression_step (Low x.0) x.1
unfolding expression_step
expression_eq ts = whole_eq multiplicative additive Binary Binary never chains factor_pack factor_to factor_from factor_by factor_is ts

pub factor_eq : (ts : List TokenKind) → fix expression_step Inner ts ≡ factor_by (fix expression_step) ts
unfolding expression_step
factor_eq ts = layer_eq expressions expression_step turns Inner ts

pub product_eq : (a : Expression) (ts : List TokenKind) → fix expression_step (High a) ts ≡ product_by a ts
unfolding expression_step
product_eq a ts = high_eq multiplicative additive Binary Binary never chains factor_pack factor_to factor_from factor_by factor_is a ts

pub sum_eq : (a : Expression) (ts : List TokenKind) → fix expression_step (Low a) ts ≡ sum_by a ts
unfolding expression_step
sum_eq a ts = low_eq multiplicative additive Binary Binary never chains factor_pack factor_to factor_from factor_by factor_is a ts
