-- The tokens of printable programs are within the budgets.
use Rattle.std.proofs.Common.{◌≡◌, ℕ, suc, ◌+◌, ◌-◌, ◌≤◌, Bool, true, false, cond, List, [], ◌∷◌, ◌++◌, refl, sym, subst, ◌∙◌, arith, append_assoc}
use Rattle.std.specs.Prelude.{Option, Some, None, option_map, nat_lt}
use Rattle.std.proofs.lemmas.Bool.Decides.{nat_tests}
use Rattle.imp_lex.specs.declared.token.TokenKind.{TokenKind}
use Rattle.imp_lex.specs.declared.token.TokenKind.TheVariants as k
use Rattle.imp_lex.specs.declared.token.Mark.TheVariants as m
use Rattle.imp_lex.specs.declared.token.Word.{Word}
use Rattle.imp_lex.specs.declared.token.Word.TheVariants as w
use Rattle.imp_syntax.specs.declared.words.VariableKind as kinds
use Rattle.imp_syntax.specs.declared.words.VariableKind.TheVariants as v
use Rattle.imp_syntax.specs.declared.words.Declaration.{Declaration}
use Rattle.imp_syntax.specs.Plain as plain
use Rattle.imp_syntax.specs.Plain.{Expression, Operand, Null, Value, Condition, Statement, Simple, Break, Call, If, While, Statements, Ends, Starts, Procedure}
use Rattle.imp_parse.specs.Answer.{Fits}
use Rattle.imp_parse.specs.Limits.{most, role_of, place, too_deep, outside}
use Rattle.imp_print.specs.Statements.{is_empty}
use Rattle.imp_round_trip.specs.Printable.{IsExpressionOfText, IsConditionOfText, IsSideOfText, AreSidesOfText, IsPrintableAction, IsPrintableStatement, IsPrintableBlock, IsPrintableProcedure, ArePrintable}
use Rattle.imp_round_trip.proofs.Tokens.{expression_tokens, side_tokens, condition_tokens, action_tokens, more_sides_tokens, sides_tokens, call_tokens, ended, braced, if_tokens, statement_tokens, block_tokens, kind_word, declaration_tokens, more_declarations_tokens, declarations_tokens, outcome_tokens, locals_tokens, signature_tokens, procedure_tokens, program_tokens}
use Rattle.imp_round_trip.proofs.Weights.{IsPlain, none_more, counted_within, weighs_fits, fits_weighs, name_plain, null_plain, close_plain}
use Rattle.imp_round_trip.proofs.Least.{operators, expression_weighs, condition_operators, condition_weighs, least_expression, least_condition}

-- none of these tokens is too deep, where so many braces are open and so many operators used
pub record Safe (depth used : ℕ) (ts : List TokenKind) : Type 0 where
  pub none : too_deep (place depth used false) ts ≡ None

-- ---- single tokens

-- ends an expression
pub record IsSeparator (t : TokenKind) : Type 0 where
  pub is : (depth used : ℕ) (more : List TokenKind) → too_deep (place depth used false) (t ∷ more) ≡ option_map suc (too_deep (place depth 0 false) more)

pub semicolon : IsSeparator (k.Mark m.Semicolon)
unfolding role_of
semicolon = record { is = λ depth used more. refl }

pub comma : IsSeparator (k.Mark m.Comma)
unfolding role_of
comma = record { is = λ depth used more. refl }

pub equals : IsSeparator (k.Mark m.Equals)
unfolding role_of
equals = record { is = λ depth used more. refl }

pub open_bracket : IsSeparator (k.Mark m.OpenBracket)
unfolding role_of
open_bracket = record { is = λ depth used more. refl }

pub close_bracket : IsSeparator (k.Mark m.CloseBracket)
unfolding role_of
close_bracket = record { is = λ depth used more. refl }

pub dot : IsPlain (k.Mark m.Dot)
unfolding role_of
dot = record { is = λ depth used more. refl }

pub colon : IsPlain (k.Mark m.Colon)
unfolding role_of
colon = record { is = λ depth used more. refl }

pub arrow : IsPlain (k.Mark m.Arrow)
unfolding role_of
arrow = record { is = λ depth used more. refl }

-- a word whose parenthesis is not counted
abbrev pub heads : Word → Bool
heads w.If = true
heads w.While = true
heads w.Call = true
heads w.Proc = true
heads x = false

pub word_plain : (x : Word) → heads x ≡ false → IsPlain (k.Word x)
unfolding role_of
word_plain w.If e = absurd cc
word_plain w.While e = absurd cc
word_plain w.Call e = absurd cc
word_plain w.Proc e = absurd cc
word_plain x e = record { is = λ depth used more. refl }

plain_on : (t : TokenKind) (depth used : ℕ) (more : List TokenKind) → IsPlain t → Safe depth used more → Safe depth used (t ∷ more)
plain_on t depth used more is h = record { none = is.is depth used more ∙ none_more _ h.none }

apart_on : (t : TokenKind) (depth used : ℕ) (more : List TokenKind) → IsSeparator t → Safe depth 0 more → Safe depth used (t ∷ more)
apart_on t depth used more is h = record { none = is.is depth used more ∙ none_more _ h.none }

pub head_is : (x : Word) (depth used : ℕ) (more : List TokenKind) → heads x ≡ true → too_deep (place depth used false) (k.Word x ∷ k.Mark m.OpenParenthesis ∷ more) ≡ option_map suc (option_map suc (too_deep (place depth 0 false) more))
unfolding role_of
head_is w.If depth used more e = refl
head_is w.While depth used more e = refl
head_is w.Call depth used more e = refl
head_is w.Proc depth used more e = refl
head_is x depth used more e = absurd cc

head_on : (x : Word) (depth used : ℕ) (more : List TokenKind) → heads x ≡ true → Safe depth 0 more → Safe depth used (k.Word x ∷ k.Mark m.OpenParenthesis ∷ more)
head_on x depth used more e h = record { none = head_is x depth used more e ∙ none_more _ (none_more _ h.none) }

pub named_head_is : (x : Word) (f : List ℕ) (depth used : ℕ) (more : List TokenKind) → heads x ≡ true → too_deep (place depth used false) (k.Word x ∷ k.Name f ∷ k.Mark m.OpenParenthesis ∷ more) ≡ option_map suc (option_map suc (option_map suc (too_deep (place depth 0 false) more)))
unfolding role_of
named_head_is w.If f depth used more e = refl
named_head_is w.While f depth used more e = refl
named_head_is w.Call f depth used more e = refl
named_head_is w.Proc f depth used more e = refl
named_head_is x f depth used more e = absurd cc

named_head_on : (x : Word) (f : List ℕ) (depth used : ℕ) (more : List TokenKind) → heads x ≡ true → Safe depth 0 more → Safe depth used (k.Word x ∷ k.Name f ∷ k.Mark m.OpenParenthesis ∷ more)
named_head_on x f depth used more e h = record { none = named_head_is x f depth used more e ∙ none_more _ (none_more _ (none_more _ h.none)) }

pub opening_is : (depth used : ℕ) (more : List TokenKind) → too_deep (place depth used false) (k.Mark m.OpenBrace ∷ more) ≡ cond (nat_lt most depth) (Some 0) (option_map suc (too_deep (place (depth + 1) 0 false) more))
unfolding role_of
opening_is depth used more = refl

shallow : (depth : ℕ) → depth ≤ most → nat_lt most depth ≡ false
shallow depth le = grind (arith, nat_tests)

opening_on : (depth used : ℕ) (more : List TokenKind) → depth ≤ most → Safe (depth + 1) 0 more → Safe depth used (k.Mark m.OpenBrace ∷ more)
opening_on depth used more le h = record { none = opening_is depth used more ∙ counted_within (nat_lt most depth) _ (shallow depth le) h.none }

pub closing_is : (depth used : ℕ) (more : List TokenKind) → too_deep (place depth used false) (k.Mark m.CloseBrace ∷ more) ≡ option_map suc (too_deep (place (depth - 1) 0 false) more)
unfolding role_of
closing_is depth used more = refl

closing_on : (depth used : ℕ) (more : List TokenKind) → Safe depth 0 more → Safe (depth + 1) used (k.Mark m.CloseBrace ∷ more)
closing_on depth used more h =
    let e : depth ≡ (depth + 1) - 1 = omega arith in
    let at : Safe ((depth + 1) - 1) 0 more = subst (λ (d : ℕ). Safe d 0 more) e h in
    record { none = closing_is (depth + 1) used more ∙ none_more _ at.none }

regroup : (depth used : ℕ) (x y z : List TokenKind) → Safe depth used (x ++ (y ++ z)) → Safe depth used ((x ++ y) ++ z)
regroup depth used x y z h = subst (Safe depth used) (sym (append_assoc x y z)) h

-- ---- expressions and conditions

-- whatever operators are used, what stands after is safe
abbrev Always : ℕ → List TokenKind → Type 0
Always depth ts = (used : ℕ) → Safe depth used ts

expression_on : (e : Expression) (depth : ℕ) (more : List TokenKind) → IsExpressionOfText e → Always depth more → Safe depth 0 (expression_tokens e ++ more)
expression_on e depth more h on =
    let least = least_expression h.tokens e h.spelled in
    let within : 0 + least.0 ≤ most = fits_weighs h.tokens least.0 1 0 least.1 (omega arith) h.fits in
    record { none = weighs_fits (expression_tokens e) more (operators e) depth 0 (expression_weighs e) (omega (arith, within, least.2)) (on (0 + operators e)).none }

condition_on : (c : Condition) (depth : ℕ) (more : List TokenKind) → IsConditionOfText c → Always depth more → Safe depth 0 (condition_tokens c ++ more)
condition_on c depth more h on =
    let least = least_condition h.tokens c h.spelled in
    let within : 0 + least.0 ≤ most = fits_weighs h.tokens least.0 1 0 least.1 (omega arith) h.fits in
    record { none = weighs_fits (condition_tokens c) more (condition_operators c) depth 0 (condition_weighs c) (omega (arith, within, least.2)) (on (0 + condition_operators c)).none }

side_on : (a : Operand) (depth : ℕ) (more : List TokenKind) → IsSideOfText a → Always depth more → Safe depth 0 (side_tokens a ++ more)
side_on Null depth more h on = plain_on (k.Word w.Null) depth 0 more null_plain (on 0)
side_on (Value e) depth more h on = expression_on e depth more h on

more_sides_on : (es : List Operand) (depth : ℕ) (more : List TokenKind) → AreSidesOfText es → Always depth more → Always depth (more_sides_tokens es ++ more)
more_sides_on [] depth more h on used = on used
more_sides_on (e ∷ es) depth more h on used =
    apart_on (k.Mark m.Comma) depth used _ comma (regroup depth 0 (side_tokens e) (more_sides_tokens es) more (side_on e depth (more_sides_tokens es ++ more) h.0 (more_sides_on es depth more h.1 on)))

sides_on : (es : List Operand) (depth : ℕ) (more : List TokenKind) → AreSidesOfText es → Always depth more → Safe depth 0 (sides_tokens es ++ more)
sides_on [] depth more h on = on 0
sides_on (e ∷ es) depth more h on = regroup depth 0 (side_tokens e) (more_sides_tokens es) more (side_on e depth (more_sides_tokens es ++ more) h.0 (more_sides_on es depth more h.1 on))

-- ---- statements

name_on : (x : List ℕ) (depth used : ℕ) (more : List TokenKind) → Safe depth used more → Safe depth used (k.Name x ∷ more)
name_on x depth used more h = plain_on (k.Name x) depth used more (name_plain x) h

word_on : (x : Word) (depth used : ℕ) (more : List TokenKind) → heads x ≡ false → Safe depth used more → Safe depth used (k.Word x ∷ more)
word_on x depth used more e h = plain_on (k.Word x) depth used more (word_plain x e) h

-- the end of a statement
end_on : (depth : ℕ) (more : List TokenKind) → Safe depth 0 more → Always depth (k.Mark m.Semicolon ∷ more)
end_on depth more h used = apart_on (k.Mark m.Semicolon) depth used more semicolon h

set_on : (x : List ℕ) (depth : ℕ) (more : List TokenKind) → Safe depth 0 more → Safe depth 0 (k.Name x ∷ k.Mark m.Equals ∷ more)
set_on x depth more h = name_on x depth 0 _ (apart_on (k.Mark m.Equals) depth 0 more equals h)

-- an expression and the end
value_on : (e : Expression) (depth : ℕ) (more : List TokenKind) → IsExpressionOfText e → Safe depth 0 more → Safe depth 0 ((expression_tokens e ++ k.Mark m.Semicolon ∷ []) ++ more)
value_on e depth more h on = regroup depth 0 (expression_tokens e) (k.Mark m.Semicolon ∷ []) more (expression_on e depth (k.Mark m.Semicolon ∷ more) h (end_on depth more on))

field_on : (x : Word) (p : List ℕ) (depth : ℕ) (more : List TokenKind) → heads x ≡ false → Safe depth 0 more → Safe depth 0 (k.Name p ∷ k.Mark m.Dot ∷ k.Word x ∷ more)
field_on x p depth more e h = name_on p depth 0 _ (plain_on (k.Mark m.Dot) depth 0 _ dot (word_on x depth 0 more e h))

action_on : (a : plain.Action) (depth : ℕ) (more : List TokenKind) → IsPrintableAction a → Safe depth 0 more → Safe depth 0 (ended (action_tokens a) ++ more)
action_on plain.Skip depth more h on = word_on w.Skip depth 0 _ refl (end_on depth more on 0)
action_on (plain.Assert c) depth more h on = word_on w.Assert depth 0 _ refl (regroup depth 0 (condition_tokens c) (k.Mark m.Semicolon ∷ []) more (condition_on c depth (k.Mark m.Semicolon ∷ more) h (end_on depth more on)))
action_on (plain.Assign x e) depth more h on = set_on x depth _ (value_on e depth more h.1 on)
action_on (plain.Input x) depth more h on = set_on x depth _ (word_on w.Input depth 0 _ refl (end_on depth more on 0))
action_on (plain.MakeArray x e) depth more h on = set_on x depth _ (word_on w.Array depth 0 _ refl (value_on e depth more h.1 on))
action_on (plain.SetNull x) depth more h on = set_on x depth _ (word_on w.Null depth 0 _ refl (end_on depth more on 0))
action_on (plain.MakeCell x) depth more h on = set_on x depth _ (word_on w.New depth 0 _ refl (end_on depth more on 0))
action_on (plain.ReadElement x a e) depth more h on =
    set_on x depth _ (name_on a depth 0 _ (apart_on (k.Mark m.OpenBracket) depth 0 _ open_bracket
    (regroup depth 0 (expression_tokens e ++ k.Mark m.CloseBracket ∷ []) (k.Mark m.Semicolon ∷ []) more
    (regroup depth 0 (expression_tokens e) (k.Mark m.CloseBracket ∷ []) (k.Mark m.Semicolon ∷ more)
    (expression_on e depth (k.Mark m.CloseBracket ∷ k.Mark m.Semicolon ∷ more) h.2 (λ used. apart_on (k.Mark m.CloseBracket) depth used _ close_bracket (end_on depth more on 0)))))))
action_on (plain.ReadNext x q) depth more h on = set_on x depth _ (field_on w.Next q depth _ refl (end_on depth more on 0))
action_on (plain.ReadItem x q) depth more h on = set_on x depth _ (field_on w.Item q depth _ refl (end_on depth more on 0))
action_on (plain.WriteElement a e f) depth more h on =
    name_on a depth 0 _ (apart_on (k.Mark m.OpenBracket) depth 0 _ open_bracket
    (regroup depth 0 (expression_tokens e ++ k.Mark m.CloseBracket ∷ k.Mark m.Equals ∷ expression_tokens f) (k.Mark m.Semicolon ∷ []) more
    (regroup depth 0 (expression_tokens e) (k.Mark m.CloseBracket ∷ k.Mark m.Equals ∷ expression_tokens f) (k.Mark m.Semicolon ∷ more)
    (expression_on e depth (k.Mark m.CloseBracket ∷ k.Mark m.Equals ∷ (expression_tokens f ++ k.Mark m.Semicolon ∷ more)) h.1
    (λ used. apart_on (k.Mark m.CloseBracket) depth used _ close_bracket (apart_on (k.Mark m.Equals) depth 0 _ equals (expression_on f depth (k.Mark m.Semicolon ∷ more) h.2 (end_on depth more on))))))))
action_on (plain.WriteNext p q) depth more h on = field_on w.Next p depth _ refl (apart_on (k.Mark m.Equals) depth 0 _ equals (name_on q depth 0 _ (end_on depth more on 0)))
action_on (plain.WriteItem p e) depth more h on = field_on w.Item p depth _ refl (apart_on (k.Mark m.Equals) depth 0 _ equals (value_on e depth more h.1 on))

invoke_on : (f : List ℕ) (es : List Operand) (depth : ℕ) (more : List TokenKind) → AreSidesOfText es → Safe depth 0 more → Safe depth 0 (k.Word w.Call ∷ k.Name f ∷ k.Mark m.OpenParenthesis ∷ (((sides_tokens es ++ k.Mark m.CloseParenthesis ∷ []) ++ k.Mark m.Semicolon ∷ []) ++ more))
invoke_on f es depth more h on =
    named_head_on w.Call f depth 0 _ refl
    (regroup depth 0 (sides_tokens es ++ k.Mark m.CloseParenthesis ∷ []) (k.Mark m.Semicolon ∷ []) more
    (regroup depth 0 (sides_tokens es) (k.Mark m.CloseParenthesis ∷ []) (k.Mark m.Semicolon ∷ more)
    (sides_on es depth (k.Mark m.CloseParenthesis ∷ k.Mark m.Semicolon ∷ more) h (λ used. plain_on (k.Mark m.CloseParenthesis) depth used _ close_plain (end_on depth more on used)))))

call_on : (x : Option (List ℕ)) (f : List ℕ) (es : List Operand) (depth : ℕ) (more : List TokenKind) → AreSidesOfText es → Safe depth 0 more → Safe depth 0 (ended (call_tokens x f es) ++ more)
call_on None f es depth more h on = invoke_on f es depth more h on
call_on (Some x) f es depth more h on = set_on x depth _ (invoke_on f es depth more h on)

-- a block in its braces, whose statements are safe one deeper
braced_on : (depth used : ℕ) (ts more : List TokenKind) → depth ≤ most → Safe (depth + 1) 0 (ts ++ k.Mark m.CloseBrace ∷ more) → Safe depth used (braced ts ++ more)
braced_on depth used ts more le h = opening_on depth used _ le (regroup (depth + 1) 0 ts (k.Mark m.CloseBrace ∷ []) more h)

-- a condition in its parentheses, after its word
test_on : (x : Word) (c : Condition) (depth : ℕ) (rest more : List TokenKind) → heads x ≡ true → IsConditionOfText c → Always depth (rest ++ more) → Safe depth 0 ((k.Word x ∷ k.Mark m.OpenParenthesis ∷ (condition_tokens c ++ (k.Mark m.CloseParenthesis ∷ rest))) ++ more)
test_on x c depth rest more e h on =
    head_on x depth 0 _ e (regroup depth 0 (condition_tokens c) (k.Mark m.CloseParenthesis ∷ rest) more
    (condition_on c depth (k.Mark m.CloseParenthesis ∷ (rest ++ more)) h (λ used. plain_on (k.Mark m.CloseParenthesis) depth used _ close_plain (on used))))

if_on : (x : Bool) (c : Condition) (t e : List TokenKind) (depth : ℕ) (more : List TokenKind) → IsConditionOfText c → depth ≤ most
    → ((rest : List TokenKind) → Safe (depth + 1) 0 rest → Safe (depth + 1) 0 (t ++ rest)) → ((rest : List TokenKind) → Safe (depth + 1) 0 rest → Safe (depth + 1) 0 (e ++ rest))
    → Safe depth 0 more → Safe depth 0 (if_tokens x (condition_tokens c) t e ++ more)
if_on true c t e depth more h le then otherwise on = test_on w.If c depth (braced t) more refl h (λ used. braced_on depth used t more le (then _ (closing_on depth 0 more on)))
if_on false c t e depth more h le then otherwise on =
    test_on w.If c depth (braced t ++ (k.Word w.Else ∷ braced e)) more refl h
    (λ used. regroup depth used (braced t) (k.Word w.Else ∷ braced e) more
    (braced_on depth used t ((k.Word w.Else ∷ braced e) ++ more) le (then _ (closing_on depth 0 _ (word_on w.Else depth 0 _ refl (braced_on depth 0 e more le (otherwise _ (closing_on depth 0 more on))))))))

mutual
  statement_on : (depth : ℕ) (s : Statement) (more : List TokenKind) → IsPrintableStatement depth s → Safe (depth + 1) 0 more → Safe (depth + 1) 0 (statement_tokens s ++ more)
  statement_on depth (Simple n a) more h on = action_on a (depth + 1) more h on
  statement_on depth (Break n) more h on = word_on w.Break (depth + 1) 0 _ refl (end_on (depth + 1) more on 0)
  statement_on depth (Call n x f es) more h on = call_on x f es (depth + 1) more h.2 on
  statement_on depth (If n c t e) more h on =
      if_on (is_empty e) c (block_tokens t) (block_tokens e) (depth + 1) more h.0 (let le = h.1 in omega arith) (λ rest. block_on (depth + 1) t rest h.2) (λ rest. block_on (depth + 1) e rest h.3) on
  statement_on depth (While n c b) more h on =
      test_on w.While c (depth + 1) (braced (block_tokens b)) more refl h.0
      (λ used. braced_on (depth + 1) used (block_tokens b) more (let le = h.1 in omega arith) (block_on (depth + 1) b _ h.2 (closing_on (depth + 1) 0 more on)))

  block_on : (depth : ℕ) (ss : Statements) (more : List TokenKind) → IsPrintableBlock depth ss → Safe (depth + 1) 0 more → Safe (depth + 1) 0 (block_tokens ss ++ more)
  block_on depth Ends more h on = on
  block_on depth (Starts s ss) more h on = regroup (depth + 1) 0 (statement_tokens s) (block_tokens ss) more (statement_on depth s (block_tokens ss ++ more) h.0 (block_on depth ss more h.1 on))

-- ---- procedures

kind_word_plain : (kind : kinds.VariableKind) → IsPlain (kind_word kind)
kind_word_plain v.Int = word_plain w.Int refl
kind_word_plain v.Array = word_plain w.Array refl
kind_word_plain v.List = word_plain w.List refl

declaration_on : (d : Declaration) (depth used : ℕ) (more : List TokenKind) → Safe depth used more → Safe depth used (declaration_tokens d ++ more)
declaration_on d depth used more h = name_on d.name depth used _ (plain_on (k.Mark m.Colon) depth used _ colon (plain_on (kind_word d.kind) depth used more (kind_word_plain d.kind) h))

more_declarations_on : (ds : List Declaration) (depth : ℕ) (more : List TokenKind) → Always depth more → Always depth (more_declarations_tokens ds ++ more)
more_declarations_on [] depth more on used = on used
more_declarations_on (d ∷ ds) depth more on used = apart_on (k.Mark m.Comma) depth used _ comma (declaration_on d depth 0 _ (more_declarations_on ds depth more on 0))

declarations_on : (ds : List Declaration) (depth : ℕ) (more : List TokenKind) → Always depth more → Safe depth 0 (declarations_tokens ds ++ more)
declarations_on [] depth more on = on 0
declarations_on (d ∷ ds) depth more on = declaration_on d depth 0 _ (more_declarations_on ds depth more on 0)

outcome_on : (d : Option Declaration) (depth : ℕ) (more : List TokenKind) → Always depth more → Always depth (outcome_tokens d ++ more)
outcome_on None depth more on used = on used
outcome_on (Some d) depth more on used = plain_on (k.Mark m.Arrow) depth used _ arrow (declaration_on d depth used more (on used))

locals_on : (ds : List Declaration) (depth : ℕ) (more : List TokenKind) → Safe depth 0 more → Safe depth 0 (locals_tokens ds ++ more)
locals_on [] depth more on = on
locals_on (d ∷ ds) depth more on = word_on w.Var depth 0 _ refl (declaration_on d depth 0 _ (end_on depth _ (locals_on ds depth more on) 0))

procedure_on : (p : Procedure) (more : List TokenKind) → IsPrintableProcedure p → Safe 0 0 more → Safe 0 0 (procedure_tokens p ++ more)
procedure_on p more h on =
    let body = p.body in
    let inner : List TokenKind = locals_tokens p.locals ++ (block_tokens p.body ++ k.Mark m.CloseBrace ∷ []) in
    let statements : Safe 1 0 ((block_tokens p.body ++ k.Mark m.CloseBrace ∷ []) ++ more) = regroup 1 0 (block_tokens p.body) (k.Mark m.CloseBrace ∷ []) more (block_on 0 p.body _ h.body (closing_on 0 0 more on)) in
    let inside : Safe 1 0 (inner ++ more) = regroup 1 0 (locals_tokens p.locals) _ more (locals_on p.locals 1 _ statements) in
    let behind : Always 0 ((outcome_tokens p.outcome ++ (k.Mark m.OpenBrace ∷ inner)) ++ more) = λ used. regroup 0 used (outcome_tokens p.outcome) (k.Mark m.OpenBrace ∷ inner) more (outcome_on p.outcome 0 _ (λ i. opening_on 0 i _ (omega arith) inside) used) in
    regroup 0 0 (signature_tokens p) _ more
    (named_head_on w.Proc p.name 0 0 _ refl (regroup 0 0 (declarations_tokens p.parameters) (k.Mark m.CloseParenthesis ∷ []) _ (declarations_on p.parameters 0 _ (λ used. plain_on (k.Mark m.CloseParenthesis) 0 used _ close_plain (behind used)))))

programs_on : (ps : List Procedure) → ArePrintable ps → Safe 0 0 (program_tokens ps)
programs_on [] h = record { none = refl }
programs_on (p ∷ ps) h = procedure_on p (program_tokens ps) h.0 (programs_on ps h.1)

pub program_fits : (ps : List Procedure) → ArePrintable ps → Fits outside (program_tokens ps)
program_fits ps h = (programs_on ps h).none
