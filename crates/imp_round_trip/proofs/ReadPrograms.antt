-- What texts of the language spell is printable.
use Rattle.std.proofs.Common.{◌≡◌, ℕ, ◌+◌, ◌-◌, ◌≤◌, ◌<◌, true, false, List, [], ◌∷◌, ◌++◌, refl, sym, subst, ◌∙◌, arith, append_assoc}
use Rattle.std.specs.Prelude.{Option, Some, nat_lt}
use Rattle.std.proofs.lemmas.Bool.Decides.{nat_tests}
use Rattle.std.proofs.lemmas.List.{append-nil}
use Rattle.imp_lex.specs.declared.token.TokenKind.{TokenKind}
use Rattle.imp_lex.specs.declared.token.TokenKind.TheVariants as k
use Rattle.imp_lex.specs.declared.token.Mark.TheVariants as m
use Rattle.imp_lex.specs.declared.token.Word.{Word}
use Rattle.imp_lex.specs.declared.token.Word.TheVariants as word
use Rattle.imp_syntax.specs.declared.words.VariableKind as kinds
use Rattle.imp_syntax.specs.declared.words.Declaration.{Declaration}
use Rattle.imp_syntax.specs.Plain.{Expression, Operand, Condition, Statement, Statements, Procedure, block_of}
use Rattle.imp_parse.specs.Answer.{Fits}
use Rattle.imp_parse.specs.Tables.{kind_of}
use Rattle.imp_parse.specs.Limits.{most, inside, outside}
use Rattle.imp_parse.specs.Grammar as e
use Rattle.imp_parse.specs.Grammar.{IsExpression, IsSide, IsCondition}
use Rattle.imp_parse.specs.Statements as g
use Rattle.imp_parse.specs.Statements.{IsSides, IsArguments, IsInvoke, IsAssigned, IsSimple, IsStatement, IsBlock, IsStatements}
use Rattle.imp_parse.specs.Programs as q
use Rattle.imp_parse.specs.Programs.{IsDeclaration, IsDeclarations, IsParameters, IsOutcome, IsLocals, IsProcedure, IsProcedures, IsProgram}
use Rattle.imp_round_trip.specs.Printable.{IsNamed, IsExpressionOfText, IsConditionOfText, IsSideOfText, AreSidesOfText, IsPrintableStatement, IsPrintableBlock, AreDeclarationsNamed, IsOutcomeNamed, IsPrintableProcedure, ArePrintable, IsPrintable}
use Rattle.imp_round_trip.proofs.Weights.{IsPlain, none_less, counted_back, weighs_fits, fits_before, name_plain, null_plain, close_plain}
use Rattle.imp_round_trip.proofs.Least.{least_expression, least_condition}
use Rattle.imp_round_trip.proofs.Budgets.{Safe, IsSeparator, semicolon, comma, equals, open_bracket, close_bracket, dot, colon, arrow, heads, word_plain, head_is, named_head_is, opening_is, closing_is}
use Rattle.imp_round_trip.proofs.GoodTokens.{AreGood, good_front, good_behind}
use Rattle.imp_round_trip.proofs.ReadWords.{expression_words, condition_words}

-- ---- single tokens

plain_back : (t : TokenKind) (depth used : ℕ) (more : List TokenKind) → IsPlain t → Safe depth used (t ∷ more) → Safe depth used more
plain_back t depth used more is h = record { none = none_less _ (sym (is.is depth used more) ∙ h.none) }

apart_back : (t : TokenKind) (depth used : ℕ) (more : List TokenKind) → IsSeparator t → Safe depth used (t ∷ more) → Safe depth 0 more
apart_back t depth used more is h = record { none = none_less _ (sym (is.is depth used more) ∙ h.none) }

head_back : (x : Word) (depth used : ℕ) (more : List TokenKind) → heads x ≡ true → Safe depth used (k.Word x ∷ k.Mark m.OpenParenthesis ∷ more) → Safe depth 0 more
head_back x depth used more is h = record { none = none_less _ (none_less _ (sym (head_is x depth used more is) ∙ h.none)) }

named_head_back : (x : Word) (f : List ℕ) (depth used : ℕ) (more : List TokenKind) → heads x ≡ true → Safe depth used (k.Word x ∷ k.Name f ∷ k.Mark m.OpenParenthesis ∷ more) → Safe depth 0 more
named_head_back x f depth used more is h = record { none = none_less _ (none_less _ (none_less _ (sym (named_head_is x f depth used more is) ∙ h.none))) }

shallow_back : (depth : ℕ) → nat_lt most depth ≡ false → depth ≤ most
shallow_back depth e = grind (arith, nat_tests)

opening_back : (depth used : ℕ) (more : List TokenKind) → Safe depth used (k.Mark m.OpenBrace ∷ more) → (depth ≤ most) × Safe (depth + 1) 0 more
opening_back depth used more h =
    let back = counted_back (nat_lt most depth) _ (sym (opening_is depth used more) ∙ h.none) in
    (shallow_back depth back.0, record { none = back.1 })

closing_back : (depth used : ℕ) (more : List TokenKind) → Safe (depth + 1) used (k.Mark m.CloseBrace ∷ more) → Safe depth 0 more
closing_back depth used more h =
    let at : Safe ((depth + 1) - 1) 0 more = record { none = none_less _ (sym (closing_is (depth + 1) used more) ∙ h.none) } in
    subst (λ (d : ℕ). Safe d 0 more) (omega arith) at

ungroup : (depth used : ℕ) (x y z : List TokenKind) → Safe depth used ((x ++ y) ++ z) → Safe depth used (x ++ (y ++ z))
ungroup depth used x y z h = subst (Safe depth used) (append_assoc x y z) h

name_back : (x : List ℕ) (depth used : ℕ) (more : List TokenKind) → Safe depth used (k.Name x ∷ more) → Safe depth used more
name_back x depth used more h = plain_back (k.Name x) depth used more (name_plain x) h

word_back : (x : Word) (depth used : ℕ) (more : List TokenKind) → heads x ≡ false → Safe depth used (k.Word x ∷ more) → Safe depth used more
word_back x depth used more e h = plain_back (k.Word x) depth used more (word_plain x e) h

end_back : (depth used : ℕ) (more : List TokenKind) → Safe depth used (k.Mark m.Semicolon ∷ more) → Safe depth 0 more
end_back depth used more h = apart_back (k.Mark m.Semicolon) depth used more semicolon h

-- ---- expressions and conditions

-- what stands after is safe, with some operators used
record Behind (depth : ℕ) (more : List TokenKind) : Type 0 where
  pub used : ℕ
  pub safe : Safe depth used more

expression_back : (w : List TokenKind) (a : Expression) (depth : ℕ) (more : List TokenKind) → IsExpression w a → AreGood w → Safe depth 0 (w ++ more) → IsExpressionOfText a × Behind depth more
expression_back w a depth more h good safe =
    let least = least_expression w a h in
    let split = fits_before w more least.0 depth 0 least.1 (omega arith) safe.none in
    let fits : Fits inside w = subst (λ (ts : List TokenKind). Fits inside ts) (append-nil w) (weighs_fits w [] least.0 1 0 least.1 split.0 refl) in
    (record { words = expression_words w a h good; tokens = w; spelled = h; fits = fits }, record { used = 0 + least.0; safe = record { none = split.1 } })

condition_back : (w : List TokenKind) (c : Condition) (depth : ℕ) (more : List TokenKind) → IsCondition w c → AreGood w → Safe depth 0 (w ++ more) → IsConditionOfText c × Behind depth more
condition_back w c depth more h good safe =
    let least = least_condition w c h in
    let split = fits_before w more least.0 depth 0 least.1 (omega arith) safe.none in
    let fits : Fits inside w = subst (λ (ts : List TokenKind). Fits inside ts) (append-nil w) (weighs_fits w [] least.0 1 0 least.1 split.0 refl) in
    (record { words = condition_words w c h good; tokens = w; spelled = h; fits = fits }, record { used = 0 + least.0; safe = record { none = split.1 } })

side_back : (w : List TokenKind) (a : Operand) (depth : ℕ) (more : List TokenKind) → IsSide w a → AreGood w → Safe depth 0 (w ++ more) → IsSideOfText a × Behind depth more
side_back w a depth more e.null good safe = (tt, record { used = 0; safe = plain_back (k.Word word.Null) depth 0 more null_plain safe })
side_back w a depth more (e.value {u = u} {e = x} h) good safe = expression_back u x depth more h good safe

sides_back : (w : List TokenKind) (es : List Operand) (depth used : ℕ) (more : List TokenKind) → IsSides w es → AreGood w → Safe depth used (w ++ more) → AreSidesOfText es × Behind depth more
sides_back w es depth used more g.sides_end good safe = (tt, record { used = used; safe = safe })
sides_back w es depth used more (g.sides_more {v = x} {w = y} {e = a} {es = as'} h i) good safe =
    let first = side_back x a depth (y ++ more) h (good_front x y good.1) (ungroup depth 0 x y more (apart_back (k.Mark m.Comma) depth used _ comma safe)) in
    let rest = sides_back y as' depth first.1.used more i (good_behind x y good.1) first.1.safe in
    ((first.0, rest.0), rest.1)

arguments_back : (w : List TokenKind) (es : List Operand) (depth : ℕ) (more : List TokenKind) → IsArguments w es → AreGood w → Safe depth 0 (w ++ more) → AreSidesOfText es × Behind depth more
arguments_back w es depth more g.no_arguments good safe = (tt, record { used = 0; safe = plain_back (k.Mark m.CloseParenthesis) depth 0 more close_plain safe })
arguments_back w es depth more (g.arguments {v = x} {w = y} {e = a} {es = as'} h i) good safe =
    let close : List TokenKind = k.Mark m.CloseParenthesis ∷ [] in
    let first = side_back x a depth ((y ++ close) ++ more) h (good_front x (y ++ close) good) (ungroup depth 0 x (y ++ close) more safe) in
    let rest = sides_back y as' depth first.1.used (k.Mark m.CloseParenthesis ∷ more) i (good_front y close (good_behind x (y ++ close) good)) (ungroup depth first.1.used y close more first.1.safe) in
    ((first.0, rest.0), record { used = rest.1.used; safe = plain_back (k.Mark m.CloseParenthesis) depth rest.1.used more close_plain rest.1.safe })

invoke_back : (w : List TokenKind) (i : List ℕ × List Operand) (depth : ℕ) (more : List TokenKind) → IsInvoke w i → AreGood w → Safe depth 0 (k.Word word.Call ∷ (w ++ more)) → IsNamed i.0 × AreSidesOfText i.1 × Behind depth more
invoke_back ts i depth more (g.invoke {f = f} {w = x} {es = es} h) good safe =
    let all = arguments_back x es depth more h good.1.1 (named_head_back word.Call f depth 0 (x ++ more) refl safe) in
    (good.0, all.0, all.1)

-- ---- statements

-- the end of a statement whose tokens end an expression
done_back : (depth : ℕ) (more : List TokenKind) → Behind depth (k.Mark m.Semicolon ∷ more) → Safe depth 0 more
done_back depth more b = end_back depth b.used more b.safe

-- what is assigned, and the end
assigned_back : (n : ℕ) (x : List ℕ) (ts : List TokenKind) (s : Statement) (depth level : ℕ) (more : List TokenKind) → IsAssigned n x ts s → IsNamed x → AreGood ts → Safe depth 0 (ts ++ k.Mark m.Semicolon ∷ more) → IsPrintableStatement level s × Safe depth 0 more
assigned_back n x ts s depth level more g.input named good safe = (named, end_back depth 0 more (word_back word.Input depth 0 _ refl safe))
assigned_back n x ts s depth level more (g.array {w = u} {e = a} h) named good safe =
    let all = expression_back u a depth (k.Mark m.Semicolon ∷ more) h good.1 (word_back word.Array depth 0 _ refl safe) in
    ((named, all.0), done_back depth more all.1)
assigned_back n x ts s depth level more g.null named good safe = (named, end_back depth 0 more (word_back word.Null depth 0 _ refl safe))
assigned_back n x ts s depth level more g.new named good safe = (named, end_back depth 0 more (word_back word.New depth 0 _ refl safe))
assigned_back n x ts s depth level more (g.outcome {w = u} {f = f} {es = es} h) named good safe =
    let all = invoke_back u (f, es) depth (k.Mark m.Semicolon ∷ more) h good.1 safe in
    ((named, all.0, all.1), done_back depth more all.2)
assigned_back n x ts s depth level more (g.next {q = p}) named good safe = ((named, good.0), end_back depth 0 more (word_back word.Next depth 0 _ refl (plain_back (k.Mark m.Dot) depth 0 _ dot (name_back p depth 0 _ safe))))
assigned_back n x ts s depth level more (g.item {q = p}) named good safe = ((named, good.0), end_back depth 0 more (word_back word.Item depth 0 _ refl (plain_back (k.Mark m.Dot) depth 0 _ dot (name_back p depth 0 _ safe))))
assigned_back n x ts s depth level more (g.element {a = a} {w = u} {e = i} h) named good safe =
    let inner = ungroup depth 0 u (k.Mark m.CloseBracket ∷ []) (k.Mark m.Semicolon ∷ more) (apart_back (k.Mark m.OpenBracket) depth 0 _ open_bracket (name_back a depth 0 _ safe)) in
    let all = expression_back u i depth (k.Mark m.CloseBracket ∷ k.Mark m.Semicolon ∷ more) h (good_front u (k.Mark m.CloseBracket ∷ []) good.1.1) inner in
    ((named, good.0, all.0), end_back depth 0 more (apart_back (k.Mark m.CloseBracket) depth all.1.used _ close_bracket all.1.safe))
assigned_back n x ts s depth level more (g.value {w = u} {e = a} h) named good safe =
    let all = expression_back u a depth (k.Mark m.Semicolon ∷ more) h good safe in
    ((named, all.0), done_back depth more all.1)

abbrev semi : List TokenKind
semi = k.Mark m.Semicolon ∷ []

pub simple_back : (n : ℕ) (ts : List TokenKind) (s : Statement) (depth level : ℕ) (more : List TokenKind) → IsSimple n ts s → AreGood ts → Safe depth 0 (ts ++ more) → IsPrintableStatement level s × Safe depth 0 more
simple_back n ts s depth level more g.skip good safe = (tt, end_back depth 0 more (word_back word.Skip depth 0 _ refl safe))
simple_back n ts s depth level more g.break good safe = (tt, end_back depth 0 more (word_back word.Break depth 0 _ refl safe))
simple_back n ts s depth level more (g.assert {w = u} {c = c} h) good safe =
    let all = condition_back u c depth (k.Mark m.Semicolon ∷ more) h (good_front u semi good.1) (ungroup depth 0 u semi more (word_back word.Assert depth 0 _ refl safe)) in
    (all.0, done_back depth more all.1)
simple_back n ts s depth level more (g.call {w = u} {f = f} {es = es} h) good safe =
    let inner : Safe depth 0 (k.Word word.Call ∷ (u ++ (k.Mark m.Semicolon ∷ more))) = ungroup depth 0 (k.Word word.Call ∷ u) semi more safe in
    let all = invoke_back u (f, es) depth (k.Mark m.Semicolon ∷ more) h (good_front u semi good.1) inner in
    ((tt, all.0, all.1), done_back depth more all.2)
simple_back n ts s depth level more (g.assign {x = x} {w = u} {s = t} h) good safe =
    assigned_back n x u t depth level more h good.0 (good_front u semi good.1.1) (ungroup depth 0 u semi more (apart_back (k.Mark m.Equals) depth 0 _ equals (name_back x depth 0 _ safe)))
simple_back n ts s depth level more (g.write_element {a = a} {v = u} {w = v'} {e = i} {f = f} h j) good safe =
    let behind : List TokenKind = k.Mark m.CloseBracket ∷ k.Mark m.Equals ∷ (v' ++ semi) in
    let first = expression_back u i depth (behind ++ more) h (good_front u behind good.1.1) (ungroup depth 0 u behind more (apart_back (k.Mark m.OpenBracket) depth 0 _ open_bracket (name_back a depth 0 _ safe))) in
    let later : Safe depth 0 (v' ++ (semi ++ more)) = ungroup depth 0 v' semi more (apart_back (k.Mark m.Equals) depth 0 _ equals (apart_back (k.Mark m.CloseBracket) depth first.1.used _ close_bracket first.1.safe)) in
    let rest = good_behind u behind good.1.1 in
    let second = expression_back v' f depth (k.Mark m.Semicolon ∷ more) j (good_front v' semi rest.1.1) later in
    ((good.0, first.0, second.0), done_back depth more second.1)
simple_back n ts s depth level more (g.write_next {p = p} {q = x}) good safe =
    ((good.0, good.1.1.1.1.0), end_back depth 0 more (name_back x depth 0 _ (apart_back (k.Mark m.Equals) depth 0 _ equals (word_back word.Next depth 0 _ refl (plain_back (k.Mark m.Dot) depth 0 _ dot (name_back p depth 0 _ safe))))))
simple_back n ts s depth level more (g.write_item {p = p} {w = u} {e = a} h) good safe =
    let inner = apart_back (k.Mark m.Equals) depth 0 _ equals (word_back word.Item depth 0 _ refl (plain_back (k.Mark m.Dot) depth 0 _ dot (name_back p depth 0 _ safe))) in
    let all = expression_back u a depth (k.Mark m.Semicolon ∷ more) h (good_front u semi good.1.1.1.1) (ungroup depth 0 u semi more inner) in
    ((good.0, all.0), done_back depth more all.1)

-- a condition after its word, up to the block
test_back : (x : Word) (u rest : List TokenKind) (c : Condition) (depth : ℕ) (more : List TokenKind) → heads x ≡ true → IsCondition u c → AreGood (k.Word x ∷ k.Mark m.OpenParenthesis ∷ (u ++ (k.Mark m.CloseParenthesis ∷ rest)))
    → Safe depth 0 ((k.Word x ∷ k.Mark m.OpenParenthesis ∷ (u ++ (k.Mark m.CloseParenthesis ∷ rest))) ++ more) → IsConditionOfText c × AreGood rest × Behind depth (rest ++ more)
test_back x u rest c depth more is h good safe =
    let inner = ungroup depth 0 u (k.Mark m.CloseParenthesis ∷ rest) more (head_back x depth 0 _ is safe) in
    let all = condition_back u c depth (k.Mark m.CloseParenthesis ∷ (rest ++ more)) h (good_front u (k.Mark m.CloseParenthesis ∷ rest) good.1.1) inner in
    let behind = good_behind u (k.Mark m.CloseParenthesis ∷ rest) good.1.1 in
    (all.0, behind.1, record { used = all.1.used; safe = plain_back (k.Mark m.CloseParenthesis) depth all.1.used _ close_plain all.1.safe })

deep_enough : (depth : ℕ) → depth + 1 ≤ most → depth < most
deep_enough depth h = omega arith

mutual
  statement_back : (n : ℕ) (ts : List TokenKind) (s : Statement) (j depth : ℕ) (more : List TokenKind) → IsStatement n ts s j → AreGood ts → Safe (depth + 1) 0 (ts ++ more) → IsPrintableStatement depth s × Safe (depth + 1) 0 more
  statement_back n ts s j depth more (g.simple h) good safe = simple_back n ts s (depth + 1) depth more h good safe
  statement_back n ts s j depth more (g.if_ {u = u} {v = v'} {c = c} {t = t} h i) good safe =
      let head = test_back word.If u v' c (depth + 1) more refl h good safe in
      let then = block_back (n + 1) v' t j depth head.2.used more i head.1 head.2.safe in
      ((head.0, then.0, then.1, tt), then.2)
  statement_back n ts s j depth more (g.if_else {i = mid} {u = u} {v = v'} {w = o} {c = c} {t = t} {e = b} h i l) good safe =
      let head = test_back word.If u (v' ++ (k.Word word.Else ∷ o)) c (depth + 1) more refl h good safe in
      let then = block_back (n + 1) v' t mid depth head.2.used ((k.Word word.Else ∷ o) ++ more) i (good_front v' (k.Word word.Else ∷ o) head.1) (ungroup (depth + 1) head.2.used v' (k.Word word.Else ∷ o) more head.2.safe) in
      let behind = good_behind v' (k.Word word.Else ∷ o) head.1 in
      let otherwise = block_back mid o b j depth 0 more l behind.1 (word_back word.Else (depth + 1) 0 _ refl then.2) in
      ((head.0, then.0, then.1, otherwise.1), otherwise.2)
  statement_back n ts s j depth more (g.while {u = u} {v = v'} {c = c} {b = b} h i) good safe =
      let head = test_back word.While u v' c (depth + 1) more refl h good safe in
      let body = block_back (n + 1) v' b j depth head.2.used more i head.1 head.2.safe in
      ((head.0, body.0, body.1), body.2)

  block_back : (n : ℕ) (ts : List TokenKind) (b : Statements) (j depth used : ℕ) (more : List TokenKind) → IsBlock n ts b j → AreGood ts → Safe (depth + 1) used (ts ++ more) → (depth < most) × IsPrintableBlock (depth + 1) b × Safe (depth + 1) 0 more
  block_back n ts b j depth used more (g.block {w = u} {ss = ss} h) good safe =
      let inner = opening_back (depth + 1) used ((u ++ k.Mark m.CloseBrace ∷ []) ++ more) safe in
      let all = statements_back n u ss j (depth + 1) (k.Mark m.CloseBrace ∷ more) h (good_front u (k.Mark m.CloseBrace ∷ []) good.1) (ungroup (depth + 1 + 1) 0 u (k.Mark m.CloseBrace ∷ []) more inner.1) in
      (deep_enough depth inner.0, all.0, closing_back (depth + 1) 0 more all.1)

  pub statements_back : (n : ℕ) (ts : List TokenKind) (ss : List Statement) (j depth : ℕ) (more : List TokenKind) → IsStatements n ts ss j → AreGood ts → Safe (depth + 1) 0 (ts ++ more) → IsPrintableBlock depth (block_of ss) × Safe (depth + 1) 0 more
  statements_back n ts ss j depth more g.none good safe = (tt, safe)
  statements_back n ts ss j depth more (g.onward {i = mid} {v = u} {w = v'} {s = s} {ss = rest} h i) good safe =
      let first = statement_back n u s mid depth (v' ++ more) h (good_front u v' good) (ungroup (depth + 1) 0 u v' more safe) in
      let all = statements_back mid v' rest j depth more i (good_behind u v' good) first.1 in
      ((first.0, all.0), all.1)

-- ---- procedures

kind_plain : (t : TokenKind) (kind : kinds.VariableKind) → kind_of t ≡ Some kind → IsPlain t
kind_plain (k.Word word.Int) kind is = word_plain word.Int refl
kind_plain (k.Word word.Array) kind is = word_plain word.Array refl
kind_plain (k.Word word.List) kind is = word_plain word.List refl
kind_plain t kind is = absurd cc

declaration_back : (ts : List TokenKind) (d : Declaration) (depth used : ℕ) (more : List TokenKind) → IsDeclaration ts d → AreGood ts → Safe depth used (ts ++ more) → IsNamed d.name × Safe depth used more
declaration_back ts d depth used more (q.declaration {x = x} t {kind = kind} is) good safe = (good.0, plain_back t depth used more (kind_plain t kind is) (plain_back (k.Mark m.Colon) depth used _ colon (name_back x depth used _ safe)))

declarations_back : (ts : List TokenKind) (ds : List Declaration) (depth used : ℕ) (more : List TokenKind) → IsDeclarations ts ds → AreGood ts → Safe depth used (ts ++ more) → AreDeclarationsNamed ds × Behind depth more
declarations_back ts ds depth used more q.declarations_end good safe = (tt, record { used = used; safe = safe })
declarations_back ts ds depth used more (q.declarations_more {v = u} {w = v'} {d = d} {ds = rest} h i) good safe =
    let first = declaration_back u d depth 0 (v' ++ more) h (good_front u v' good.1) (ungroup depth 0 u v' more (apart_back (k.Mark m.Comma) depth used _ comma safe)) in
    let all = declarations_back v' rest depth 0 more i (good_behind u v' good.1) first.1 in
    ((first.0, all.0), all.1)

parameters_back : (ts : List TokenKind) (ds : List Declaration) (depth : ℕ) (more : List TokenKind) → IsParameters ts ds → AreGood ts → Safe depth 0 (ts ++ more) → AreDeclarationsNamed ds × Behind depth more
parameters_back ts ds depth more q.no_parameters good safe = (tt, record { used = 0; safe = plain_back (k.Mark m.CloseParenthesis) depth 0 more close_plain safe })
parameters_back ts ds depth more (q.parameters {v = u} {w = v'} {d = d} {ds = rest} h i) good safe =
    let close : List TokenKind = k.Mark m.CloseParenthesis ∷ [] in
    let first = declaration_back u d depth 0 ((v' ++ close) ++ more) h (good_front u (v' ++ close) good) (ungroup depth 0 u (v' ++ close) more safe) in
    let all = declarations_back v' rest depth 0 (k.Mark m.CloseParenthesis ∷ more) i (good_front v' close (good_behind u (v' ++ close) good)) (ungroup depth 0 v' close more first.1) in
    ((first.0, all.0), record { used = all.1.used; safe = plain_back (k.Mark m.CloseParenthesis) depth all.1.used more close_plain all.1.safe })

outcome_back : (ts : List TokenKind) (d : Option Declaration) (depth used : ℕ) (more : List TokenKind) → IsOutcome ts d → AreGood ts → Safe depth used (ts ++ more) → IsOutcomeNamed d × Safe depth used more
outcome_back ts d depth used more q.no_outcome good safe = (tt, safe)
outcome_back ts d depth used more (q.outcome {w = u} {d = x} h) good safe = declaration_back u x depth used more h good.1 (plain_back (k.Mark m.Arrow) depth used _ arrow safe)

locals_back : (ts : List TokenKind) (ds : List Declaration) (depth : ℕ) (more : List TokenKind) → IsLocals ts ds → AreGood ts → Safe depth 0 (ts ++ more) → AreDeclarationsNamed ds × Safe depth 0 more
locals_back ts ds depth more q.locals_end good safe = (tt, safe)
locals_back ts ds depth more (q.locals_more {v = u} {w = v'} {d = d} {ds = rest} h i) good safe =
    let behind = ungroup depth 0 (u ++ semi) v' more (word_back word.Var depth 0 _ refl safe) in
    let first = declaration_back u d depth 0 (semi ++ (v' ++ more)) h (good_front u semi (good_front (u ++ semi) v' good.1)) (ungroup depth 0 u semi (v' ++ more) behind) in
    let all = locals_back v' rest depth more i (good_behind (u ++ semi) v' good.1) (end_back depth 0 _ first.1) in
    ((first.0, all.0), all.1)

pub procedure_back : (n : ℕ) (ts : List TokenKind) (p : Procedure) (j : ℕ) (more : List TokenKind) → IsProcedure n ts p j → AreGood ts → Safe 0 0 (ts ++ more) → IsPrintableProcedure p × Safe 0 0 more
procedure_back n ts p j more (q.procedure {x = x} {u = u} {v = o} {w = l} {y = y} {ps = ps} {ls = ls} {o = out} {ss = ss} h i a b) good safe =
    let close : List TokenKind = k.Mark m.CloseBrace ∷ [] in
    let body : List TokenKind = y ++ close in
    let inner : List TokenKind = l ++ body in
    let later : List TokenKind = o ++ (k.Mark m.OpenBrace ∷ inner) in
    let signature = parameters_back u ps 0 (later ++ more) h (good_front u later good.1.1.1) (ungroup 0 0 u later more (named_head_back word.Proc x 0 0 _ refl safe)) in
    let good_later = good_behind u later good.1.1.1 in
    let outcome = outcome_back o out 0 signature.1.used ((k.Mark m.OpenBrace ∷ inner) ++ more) i (good_front o (k.Mark m.OpenBrace ∷ inner) good_later) (ungroup 0 signature.1.used o (k.Mark m.OpenBrace ∷ inner) more signature.1.safe) in
    let good_inner = good_behind o (k.Mark m.OpenBrace ∷ inner) good_later in
    let opened = opening_back 0 signature.1.used (inner ++ more) outcome.1 in
    let locals = locals_back l ls 1 (body ++ more) a (good_front l body good_inner.1) (ungroup 1 0 l body more opened.1) in
    let statements = statements_back n y ss j 0 (k.Mark m.CloseBrace ∷ more) b (good_front y close (good_behind l body good_inner.1)) (ungroup 1 0 y close more locals.1) in
    (record { name = good.1.0; parameters = signature.0; outcome = outcome.0; locals = locals.0; body = statements.0 }, closing_back 0 0 more statements.1)

procedures_back : (n : ℕ) (ts : List TokenKind) (ps : List Procedure) (j : ℕ) → IsProcedures n ts ps j → AreGood ts → Safe 0 0 ts → ArePrintable ps
procedures_back n ts ps j q.procedures_end good safe = tt
procedures_back n ts ps j (q.procedures_more {i = mid} {v = u} {w = v'} {p = p} {ps = rest} h i) good safe =
    let first = procedure_back n u p mid v' h (good_front u v' good) safe in
    (first.0, procedures_back mid v' rest j i (good_behind u v' good) first.1)

pub program_back : (ts : List TokenKind) (ps : List Procedure) → IsProgram ts ps → AreGood ts → Fits outside ts → IsPrintable ps
program_back ts ps (q.program {i = mid} {j = j} {v = u} {w = v'} {p = p} {ps = rest} h i) good fits =
    let first = procedure_back 1 u p mid v' h (good_front u v' good) (record { none = fits }) in
    (first.0, procedures_back mid v' rest j i (good_behind u v' good) first.1)
