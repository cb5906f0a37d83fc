-- Printed expressions and conditions have their tokens.
use Rattle.std.proofs.Common.{◌≡◌, ℕ, ◌+◌, Bool, true, false, List, [], ◌∷◌, ◌++◌, refl, arith}
use Rattle.std.specs.Prelude.{nat_lt, nat_eq}
use Rattle.std.specs.Fmt.{decimal}
use Rattle.std.proofs.lemmas.Bool.Decides.{nat_tests}
use Rattle.imp_lex.specs.declared.token.TokenKind.{TokenKind}
use Rattle.imp_lex.specs.Front.{is_letter, is_digit}
use Rattle.imp_syntax.specs.declared.words.Operator.{Operator}
use Rattle.imp_syntax.specs.declared.words.Operator.TheVariants as o
use Rattle.imp_syntax.specs.declared.words.Relation.{Relation}
use Rattle.imp_syntax.specs.declared.words.Relation.TheVariants as r
use Rattle.imp_syntax.specs.Plain.{Expression, Literal, Variable, Length, Negative, Binary, Operand, Null, Value, Condition, Compare, Not, And, Or}
use Rattle.imp_print.specs.Expressions.{operator_text, operator_rank, relation_text, enclosed, expression_rank, expression_text, side_text, condition_rank, condition_text}
use Rattle.imp_round_trip.specs.Printable.{HasWords, HasSideWords, HasConditionWords}
use Rattle.imp_round_trip.proofs.Tokens.{operator_mark, relation_mark, grouped, expression_tokens, side_tokens, condition_tokens}
use Rattle.imp_round_trip.proofs.Lexed.{Closed, Open, Apart, left_open, closed_closed, closed_open, open_closed, open_closed_open, space, begins_greater, signs, not_group, open_parenthesis, close_parenthesis, plus, minus, star, slash, percent, equal_to, not_equal_to, less, at_most, greater, at_least, both, either}
use Rattle.imp_round_trip.proofs.Words.{IsLetterFirst, name_letter, names, len_word, null_word, Writes, decimal_writes, numbers_open}

pub enclosed_open : (v : Bool) (text : List ℕ) (ks : List TokenKind) → Open text ks → Open (enclosed v text) (grouped v ks)
enclosed_open true text ks h = left_open (enclosed true text) (grouped true ks) (closed_closed open_parenthesis (open_closed h (λ rest. refl) close_parenthesis))
enclosed_open false text ks h = h

-- ---- operators

operator_closed : (op : Operator) → Closed (operator_text op) (operator_mark op ∷ [])
operator_closed o.Add = closed_closed space (closed_closed plus space)
operator_closed o.Subtract = closed_closed space minus
operator_closed o.Multiply = closed_closed space (closed_closed star space)
operator_closed o.Divide = closed_closed space slash
operator_closed o.Remainder = closed_closed space (closed_closed percent space)

operator_apart : (op : Operator) → Apart (operator_text op)
operator_apart o.Add rest = refl
operator_apart o.Subtract rest = refl
operator_apart o.Multiply rest = refl
operator_apart o.Divide rest = refl
operator_apart o.Remainder rest = refl

relation_closed : (rel : Relation) → Closed (relation_text rel) (relation_mark rel ∷ [])
relation_closed r.Equal = closed_closed space (closed_closed equal_to space)
relation_closed r.NotEqual = closed_closed space (closed_closed not_equal_to space)
relation_closed r.Less = closed_closed space less
relation_closed r.AtMost = closed_closed space (closed_closed at_most space)
relation_closed r.Greater = closed_closed space greater
relation_closed r.AtLeast = closed_closed space (closed_closed at_least space)

relation_apart : (rel : Relation) → Apart (relation_text rel)
relation_apart r.Equal rest = refl
relation_apart r.NotEqual rest = refl
relation_apart r.Less rest = refl
relation_apart r.AtMost rest = refl
relation_apart r.Greater rest = refl
relation_apart r.AtLeast rest = refl

-- ---- what stands after a sign

digit_not_greater : (b : ℕ) → is_digit b ≡ true → nat_eq b 62 ≡ false
digit_not_greater b e = grind (arith, nat_tests)

letter_not_greater : (b : ℕ) → is_letter b ≡ true → nat_eq b 62 ≡ false
letter_not_greater b e = grind (arith, nat_tests)

digits_no_greater : (n : ℕ) (ds rest : List ℕ) → Writes n ds → begins_greater (ds ++ rest) ≡ false
digits_no_greater n [] rest h = absurd h
digits_no_greater n (b ∷ ds) rest h = digit_not_greater b h.0

name_no_greater : (x rest : List ℕ) → IsLetterFirst x → begins_greater (x ++ rest) ≡ false
name_no_greater [] rest h = absurd h
name_no_greater (b ∷ bs) rest h = letter_not_greater b h

signed_no_greater : (e : Expression) → HasWords e → (rest : List ℕ) → begins_greater (enclosed (nat_lt (expression_rank e) 3) (expression_text e) ++ rest) ≡ false
signed_no_greater (Literal n) h rest = digits_no_greater n (decimal n) rest (decimal_writes n (omega arith))
signed_no_greater (Variable x) h rest = name_no_greater x rest (name_letter x h)
signed_no_greater (Length x) h rest = refl
signed_no_greater (Negative e) h rest = refl
signed_no_greater (Binary o.Add a b) h rest = refl
signed_no_greater (Binary o.Subtract a b) h rest = refl
signed_no_greater (Binary o.Multiply a b) h rest = refl
signed_no_greater (Binary o.Divide a b) h rest = refl
signed_no_greater (Binary o.Remainder a b) h rest = refl

-- ---- expressions

pub expression_open : (e : Expression) → HasWords e → Open (expression_text e) (expression_tokens e)
expression_open (Literal n) h = numbers_open n h
expression_open (Variable x) h = names x h
expression_open (Length x) h = closed_open (open_closed len_word (λ rest. refl) space) (names x h)
expression_open (Negative e) h =
    let inner : Open (enclosed (nat_lt (expression_rank e) 3) (expression_text e)) (grouped (nat_lt (expression_rank e) 3) (expression_tokens e)) = enclosed_open (nat_lt (expression_rank e) 3) (expression_text e) (expression_tokens e) (expression_open e h) in
    record { on = λ rest more apart l. signs (enclosed (nat_lt (expression_rank e) 3) (expression_text e) ++ rest) (grouped (nat_lt (expression_rank e) 3) (expression_tokens e) ++ more) (signed_no_greater e h rest) (inner.on rest more apart l) }
expression_open (Binary op a b) h =
    open_closed_open (enclosed_open (nat_lt (expression_rank a) (operator_rank op)) (expression_text a) (expression_tokens a) (expression_open a h.0))
    (operator_apart op) (operator_closed op)
    (enclosed_open (nat_lt (expression_rank b) (operator_rank op + 1)) (expression_text b) (expression_tokens b) (expression_open b h.1))

pub side_open : (a : Operand) → HasSideWords a → Open (side_text a) (side_tokens a)
side_open Null h = null_word
side_open (Value e) h = expression_open e h

-- ---- conditions

pub condition_open : (c : Condition) → HasConditionWords c → Open (condition_text c) (condition_tokens c)
condition_open (Compare rel a b) h = open_closed_open (side_open a h.0) (relation_apart rel) (relation_closed rel) (side_open b h.1)
condition_open (Not c) h = left_open (condition_text (Not c)) (condition_tokens (Not c)) (closed_closed not_group (open_closed (condition_open c h) (λ rest. refl) close_parenthesis))
condition_open (And c d) h =
    open_closed_open (enclosed_open (nat_lt (condition_rank c) 2) (condition_text c) (condition_tokens c) (condition_open c h.0))
    (λ rest. refl) (closed_closed space (closed_closed both space))
    (enclosed_open (nat_lt (condition_rank d) 3) (condition_text d) (condition_tokens d) (condition_open d h.1))
condition_open (Or c d) h =
    open_closed_open (enclosed_open (nat_lt (condition_rank c) 1) (condition_text c) (condition_tokens c) (condition_open c h.0))
    (λ rest. refl) (closed_closed space (closed_closed either space))
    (enclosed_open (nat_lt (condition_rank d) 2) (condition_text d) (condition_tokens d) (condition_open d h.1))
