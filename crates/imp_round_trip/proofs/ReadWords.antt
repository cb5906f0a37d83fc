-- The names and numbers of what good tokens spell are the language's.
use Rattle.std.proofs.Common.{List, [], ◌∷◌}
use Rattle.imp_lex.specs.declared.token.TokenKind.{TokenKind}
use Rattle.imp_lex.specs.declared.token.TokenKind.TheVariants as k
use Rattle.imp_lex.specs.declared.token.Mark.TheVariants as m
use Rattle.imp_syntax.specs.Plain.{Expression, Binary, Operand, Condition, And, Or}
use Rattle.imp_parse.specs.Grammar.{IsExpression, sum, IsSum, sum_ends, sum_more, IsTerm, product, IsProduct, product_ends, product_more, IsFactor, negative, number, name, length_of, group, IsSide, null, value, IsCondition, disjunction, IsOr, or_ends, or_more, IsConjunction, conjunction, IsAnd, and_ends, and_more, IsUnit, opposite, grouped as in_group, compare}
use Rattle.imp_round_trip.specs.Printable.{HasWords, HasSideWords, HasConditionWords}
use Rattle.imp_round_trip.proofs.GoodTokens.{AreGood, good_front, good_behind}

mutual
  pub expression_words : (w : List TokenKind) (e : Expression) → IsExpression w e → AreGood w → HasWords e
  expression_words w e (sum {v = v} {w = x} {a = a} g h) good = sum_words a x e h (term_words v a g (good_front v x good)) (good_behind v x good)

  sum_words : (a : Expression) (w : List TokenKind) (e : Expression) → IsSum a w e → HasWords a → AreGood w → HasWords e
  sum_words a w e sum_ends words good = words
  sum_words a w e (sum_more {b = b} {o = op} {v = v} {w = x} is g h) words good = sum_words (Binary op a b) x e h (words, term_words v b g (good_front v x good.1)) (good_behind v x good.1)

  term_words : (w : List TokenKind) (e : Expression) → IsTerm w e → AreGood w → HasWords e
  term_words w e (product {v = v} {w = x} {a = a} g h) good = product_words a x e h (factor_words v a g (good_front v x good)) (good_behind v x good)

  product_words : (a : Expression) (w : List TokenKind) (e : Expression) → IsProduct a w e → HasWords a → AreGood w → HasWords e
  product_words a w e product_ends words good = words
  product_words a w e (product_more {b = b} {o = op} {v = v} {w = x} is g h) words good = product_words (Binary op a b) x e h (words, factor_words v b g (good_front v x good.1)) (good_behind v x good.1)

  factor_words : (w : List TokenKind) (e : Expression) → IsFactor w e → AreGood w → HasWords e
  factor_words w e (negative {u = u} {a = a} g) good = factor_words u a g good.1
  factor_words w e number good = good.0
  factor_words w e name good = good.0
  factor_words w e length_of good = good.1.0
  factor_words w e (group {u = u} {a = a} g) good = expression_words u a g (good_front u (k.Mark m.CloseParenthesis ∷ []) good.1)

side_words : (w : List TokenKind) (a : Operand) → IsSide w a → AreGood w → HasSideWords a
side_words w a null good = tt
side_words w a (value {u = u} {e = e} g) good = expression_words u e g good

mutual
  pub condition_words : (w : List TokenKind) (c : Condition) → IsCondition w c → AreGood w → HasConditionWords c
  condition_words w c (disjunction {v = v} {w = x} {a = a} g h) good = or_words a x c h (conjunction_words v a g (good_front v x good)) (good_behind v x good)

  or_words : (a : Condition) (w : List TokenKind) (c : Condition) → IsOr a w c → HasConditionWords a → AreGood w → HasConditionWords c
  or_words a w c or_ends words good = words
  or_words a w c (or_more {b = b} {v = v} {w = x} g h) words good = or_words (Or a b) x c h (words, conjunction_words v b g (good_front v x good.1)) (good_behind v x good.1)

  conjunction_words : (w : List TokenKind) (c : Condition) → IsConjunction w c → AreGood w → HasConditionWords c
  conjunction_words w c (conjunction {v = v} {w = x} {a = a} g h) good = and_words a x c h (unit_words v a g (good_front v x good)) (good_behind v x good)

  and_words : (a : Condition) (w : List TokenKind) (c : Condition) → IsAnd a w c → HasConditionWords a → AreGood w → HasConditionWords c
  and_words a w c and_ends words good = words
  and_words a w c (and_more {b = b} {v = v} {w = x} g h) words good = and_words (And a b) x c h (words, unit_words v b g (good_front v x good.1)) (good_behind v x good.1)

  unit_words : (w : List TokenKind) (c : Condition) → IsUnit w c → AreGood w → HasConditionWords c
  unit_words w c (opposite {u = u} {c = d} g) good = condition_words u d g (good_front u (k.Mark m.CloseParenthesis ∷ []) good.1.1)
  unit_words w c (in_group {u = u} {c = d} g) good = condition_words u d g (good_front u (k.Mark m.CloseParenthesis ∷ []) good.1)
  unit_words w c (compare {v = v} {w = x} t {a = a} {b = b} g begins is h) good =
      let behind = good_behind v (t ∷ x) good in
      (side_words v a g (good_front v (t ∷ x) good), side_words x b h behind.1)
