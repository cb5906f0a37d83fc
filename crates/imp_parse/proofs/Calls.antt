-- The readers of calls are exact.
use Rattle.std.proofs.Common.{◌≡◌, ℕ, ◌<◌, false, List, [], ◌∷◌, ◌++◌, length, refl, ap, subst, arith}
use Rattle.imp_lex.specs.declared.token.Mark.TheVariants as m
use Rattle.imp_lex.specs.declared.token.Word.TheVariants as word
use Rattle.imp_lex.specs.declared.token.TokenKind.{TokenKind}
use Rattle.imp_lex.specs.declared.token.TokenKind.TheVariants as k
use Rattle.imp_syntax.specs.Plain.{Operand, Null}
use Rattle.imp_syntax.specs.declared.expr.Side.{Side}
use Rattle.imp_syntax.specs.Views.{operand_of}
use Rattle.imp_syntax.specs.ActionViews.{operands_of}
use Rattle.imp_parse.specs.Grammar.{sum, product, negative, number, name, length_of, group, IsSide, null, value}
use Rattle.imp_parse.specs.Statements.{IsSides, sides_end, sides_more, IsArguments, no_arguments, arguments, IsInvoke, invoke}
use Rattle.imp_parse.specs.Lists.{begun}
use Rattle.imp_parse.specs.Reading.{side_at}
use Rattle.imp_parse.specs.StatementReading.{invoke_at}
use Rattle.imp_parse.proofs.Exact.{Exact, both}
use Rattle.imp_parse.proofs.Pack.{Layer, Strict, loose, read, next, never, give, made_of, made}
use Rattle.imp_parse.proofs.Layers.{alone, no_calls, alone_exact}
use Rattle.imp_parse.proofs.Commas.{IsCommas, no_more, one_more, IsListed, none, some, is_close, Commas, listed}
use Rattle.imp_parse.proofs.Singles.{mark, a_mark, named, a_name}
use Rattle.imp_parse.proofs.Expressions.{operator_on}
use Rattle.imp_parse.proofs.Conditions.{side_exact, side_some}

-- ---- arguments

pub many_to : (w : List TokenKind) (es : List Operand) → IsCommas IsSide IsSides w es → IsSides w es
many_to w es no_more = sides_end
many_to w es (one_more g h) = sides_more g h

pub many_from : (w : List TokenKind) (es : List Operand) → IsSides w es → IsCommas IsSide IsSides w es
many_from w es sides_end = no_more
many_from w es (sides_more g h) = one_more g h

pub all_to : (w : List TokenKind) (es : List Operand) → IsListed IsSide IsSides w es → IsArguments w es
all_to w es none = no_arguments
all_to w es (some g h) = arguments g h

pub all_from : (w : List TokenKind) (es : List Operand) → IsArguments w es → IsListed IsSide IsSides w es
all_from w es no_arguments = none
all_from w es (arguments g h) = some g h

pub side_front : (v : List TokenKind) (e : Operand) → IsSide v e → (rest : List TokenKind) → begun is_close (v ++ rest) ≡ false
side_front v e null rest = refl
side_front v e (value (sum (product (negative g) h) l)) rest = refl
side_front v e (value (sum (product number h) l)) rest = refl
side_front v e (value (sum (product name h) l)) rest = refl
side_front v e (value (sum (product length_of h) l)) rest = refl
side_front v e (value (sum (product (group g) h) l)) rest = refl

abbrev pub sides : Commas IsSide IsSides IsArguments operator_on side_at
sides = record {
  exact = side_exact;
  opens = (k.Word word.Null ∷ [], Null, null);
  nonempty = λ w e g. side_some g;
  comma_apart = refl;
  close_apart = refl;
  front = side_front;
  many_to = many_to;
  many_from = many_from;
  all_to = all_to;
  all_from = all_from;
}

-- ---- a call after its first word

abbrev pub invoke_pack : Strict alone (List ℕ × List Operand) never
invoke_pack = next a_name (λ f. loose (next (a_mark m.OpenParenthesis) (λ z. loose (give (listed sides) (λ es. (f, es))))))

pub invoke_to : (w : List TokenKind) (i : List ℕ × List Operand) → invoke_pack.lang w i → IsInvoke w i
invoke_to w i (both {a = f} named (both {w = u} mark g)) = let q = made_of (λ es. (f, es)) IsArguments u i g in subst (IsInvoke (k.Name f ∷ k.Mark m.OpenParenthesis ∷ u)) q.2 (invoke q.1)

pub invoke_from : (w : List TokenKind) (i : List ℕ × List Operand) → IsInvoke w i → invoke_pack.lang w i
invoke_from w i (invoke {f = f} {w = u} {es = es} g) = both named (both mark (made (λ es. (f, es)) IsArguments u es g))

pub invoke_is : (ts : List TokenKind) → invoke_at ts ≡ invoke_pack.reader no_calls ts
unfolding invoke_at
invoke_is ts = refl

pub invoke_exact : (n : ℕ) → Exact n IsInvoke never invoke_at
invoke_exact n = alone_exact invoke_pack IsInvoke invoke_at invoke_to invoke_from invoke_is n

pub invoke_some : (w : List TokenKind) (i : List ℕ × List Operand) → IsInvoke w i → 0 < length w
invoke_some w i (invoke g) = omega arith

abbrev pub a_call : {L : Layer} → Strict L (List ℕ × List Operand) never
a_call = read IsInvoke never invoke_at invoke_exact (k.Name [] ∷ k.Mark m.OpenParenthesis ∷ k.Mark m.CloseParenthesis ∷ [], ([], []), invoke no_arguments) invoke_some

pub operands_push : (es : List Side) (e : Side) → operands_of (es ++ e ∷ []) ≡ operands_of es ++ operand_of e ∷ []
operands_push [] e = refl
operands_push (x ∷ es) e = ap (λ q. operand_of x ∷ q) (operands_push es e)
