-- The grammar has the tokens of each printable program, for the program numbered anew.
use Rattle.std.proofs.Common.{◌≡◌, ℕ, ◌+◌, true, List, [], ◌∷◌, ◌++◌, refl, sym, subst, arith, append_assoc}
use Rattle.std.specs.Prelude.{Option, Some, None}
use Rattle.imp_lex.specs.declared.token.TokenKind.{TokenKind}
use Rattle.imp_lex.specs.declared.token.TokenKind.TheVariants as k
use Rattle.imp_lex.specs.declared.token.Mark.TheVariants as m
use Rattle.imp_syntax.specs.declared.words.VariableKind as kinds
use Rattle.imp_syntax.specs.declared.words.VariableKind.TheVariants as v
use Rattle.imp_syntax.specs.declared.words.Declaration.{Declaration}
use Rattle.imp_syntax.specs.Plain as plain
use Rattle.imp_syntax.specs.Plain.{Operand, Condition, Statement, Simple, Break, Call, If, While, Statements, Ends, Starts, Procedure, statements_of}
use Rattle.imp_syntax.specs.Blocks.{block_again}
use Rattle.imp_parse.specs.Tables.{kind_of}
use Rattle.imp_parse.specs.Grammar.{IsCondition}
use Rattle.imp_parse.specs.Statements as g
use Rattle.imp_parse.specs.Statements.{IsSides, IsArguments, IsSimple, IsStatement, IsBlock, IsStatements}
use Rattle.imp_parse.specs.Programs as q
use Rattle.imp_parse.specs.Programs.{IsDeclaration, IsDeclarations, IsParameters, IsOutcome, IsLocals, IsProcedure, IsProcedures, IsProgram}
use Rattle.imp_print.specs.Statements.{is_empty}
use Rattle.imp_round_trip.specs.Printable.{IsConditionOfText, IsPrintableAction, IsPrintableStatement, IsPrintableBlock, IsPrintableProcedure, ArePrintable, IsPrintable}
use Rattle.imp_round_trip.specs.Renumbered.{count_in, count, statement_from, block_from, procedures_from, renumbered}
use Rattle.imp_round_trip.proofs.Tokens.{side_tokens, condition_tokens, expression_tokens, action_tokens, more_sides_tokens, sides_tokens, call_tokens, ended, braced, if_tokens, statement_tokens, block_tokens, kind_word, declaration_tokens, more_declarations_tokens, declarations_tokens, outcome_tokens, locals_tokens, procedure_tokens, program_tokens}
use Rattle.imp_round_trip.proofs.SpelledExpressions.{spelled, side_spelled, condition_spelled}
use Rattle.imp_round_trip.proofs.Least.{least_condition}

condition_is : (c : Condition) → IsConditionOfText c → IsCondition (condition_tokens c) c
condition_is c h = (condition_spelled c (least_condition h.tokens c h.spelled).3).condition

-- ---- simple statements

sides_are : (es : List Operand) → IsSides (more_sides_tokens es) es
sides_are [] = g.sides_end
sides_are (e ∷ es) = g.sides_more (side_spelled e) (sides_are es)

arguments_are : (es : List Operand) → IsArguments (sides_tokens es ++ k.Mark m.CloseParenthesis ∷ []) es
arguments_are [] = g.no_arguments
arguments_are (e ∷ es) = subst (λ (ts : List TokenKind). IsArguments ts (e ∷ es)) (sym (append_assoc (side_tokens e) (more_sides_tokens es) (k.Mark m.CloseParenthesis ∷ []))) (g.arguments (side_spelled e) (sides_are es))

call_is : (n : ℕ) (x : Option (List ℕ)) (f : List ℕ) (es : List Operand) → IsSimple n (ended (call_tokens x f es)) (Call n x f es)
call_is n None f es = g.call (g.invoke (arguments_are es))
call_is n (Some x) f es = g.assign (g.outcome (g.invoke (arguments_are es)))

action_is : (n : ℕ) (a : plain.Action) → IsPrintableAction a → IsSimple n (ended (action_tokens a)) (Simple n a)
action_is n plain.Skip h = g.skip
action_is n (plain.Assert c) h = g.assert (condition_is c h)
action_is n (plain.Assign x e) h = g.assign (g.value (spelled e).expression)
action_is n (plain.Input x) h = g.assign g.input
action_is n (plain.MakeArray x e) h = g.assign (g.array (spelled e).expression)
action_is n (plain.SetNull x) h = g.assign g.null
action_is n (plain.MakeCell x) h = g.assign g.new
action_is n (plain.ReadElement x a e) h = g.assign (g.element (spelled e).expression)
action_is n (plain.ReadNext x p) h = g.assign g.next
action_is n (plain.ReadItem x p) h = g.assign g.item
action_is n (plain.WriteElement a e f) h =
    subst (λ (ts : List TokenKind). IsSimple n (k.Name a ∷ k.Mark m.OpenBracket ∷ ts) (Simple n (plain.WriteElement a e f)))
    (sym (append_assoc (expression_tokens e) (k.Mark m.CloseBracket ∷ k.Mark m.Equals ∷ expression_tokens f) (k.Mark m.Semicolon ∷ [])))
    (g.write_element (spelled e).expression (spelled f).expression)
action_is n (plain.WriteNext p x) h = g.write_next
action_is n (plain.WriteItem p e) h = g.write_item (spelled e).expression

-- ---- statements

block_is : (n j : ℕ) (ts : List TokenKind) (b : Statements) → IsStatements n ts (statements_of b) j → IsBlock n (braced ts) b j
block_is n j ts b h = subst (λ (c : Statements). IsBlock n (braced ts) c j) (block_again b) (g.block h)

-- an if, its else empty or not
if_is : (n i : ℕ) (c : Condition) (ts : List TokenKind) (t e : Statements) → IsCondition (condition_tokens c) c → IsBlock (n + 1) (braced ts) t i
    → IsStatements i (block_tokens e) (statements_of (block_from i e)) (i + count e) → IsStatement n (if_tokens (is_empty e) (condition_tokens c) ts (block_tokens e)) (If n c t (block_from i e)) (i + count e)
if_is n i c ts t Ends h then otherwise = let same : i ≡ i + 0 = omega arith in subst (IsStatement n (if_tokens true (condition_tokens c) ts []) (If n c t Ends)) same (g.if_ h then)
if_is n i c ts t (Starts s ss) h then otherwise = g.if_else h then (block_is i (i + count (Starts s ss)) (block_tokens (Starts s ss)) (block_from i (Starts s ss)) otherwise)

mutual
  statement_is : (n depth : ℕ) (s : Statement) → IsPrintableStatement depth s → IsStatement n (statement_tokens s) (statement_from n s) (n + count_in s)
  statement_is n depth (Simple i a) h = g.simple (action_is n a h)
  statement_is n depth (Break i) h = g.simple g.break
  statement_is n depth (Call i x f es) h = g.simple (call_is n x f es)
  statement_is n depth (If i c t e) h =
      let then = block_is (n + 1) (n + 1 + count t) (block_tokens t) (block_from (n + 1) t) (statements_are (n + 1) (depth + 1) t h.2) in
      let same : n + 1 + count t + count e ≡ n + (1 + count t + count e) = omega arith in
      subst (IsStatement n (statement_tokens (If i c t e)) (statement_from n (If i c t e))) same
      (if_is n (n + 1 + count t) c (block_tokens t) (block_from (n + 1) t) e (condition_is c h.0) then (statements_are (n + 1 + count t) (depth + 1) e h.3))
  statement_is n depth (While i c b) h =
      let body = block_is (n + 1) (n + 1 + count b) (block_tokens b) (block_from (n + 1) b) (statements_are (n + 1) (depth + 1) b h.2) in
      let same : n + 1 + count b ≡ n + (1 + count b) = omega arith in
      subst (IsStatement n (statement_tokens (While i c b)) (statement_from n (While i c b))) same (g.while (condition_is c h.0) body)

  statements_are : (n depth : ℕ) (ss : Statements) → IsPrintableBlock depth ss → IsStatements n (block_tokens ss) (statements_of (block_from n ss)) (n + count ss)
  statements_are n depth Ends h = let same : n ≡ n + 0 = omega arith in subst (IsStatements n [] []) same g.none
  statements_are n depth (Starts s ss) h =
      let same : (n + count_in s) + count ss ≡ n + (count_in s + count ss) = omega arith in
      subst (IsStatements n (block_tokens (Starts s ss)) (statements_of (block_from n (Starts s ss)))) same (g.onward (statement_is n depth s h.0) (statements_are (n + count_in s) depth ss h.1))

-- ---- procedures

kind_is : (kind : kinds.VariableKind) → kind_of (kind_word kind) ≡ Some kind
kind_is v.Int = refl
kind_is v.Array = refl
kind_is v.List = refl

declaration_is : (d : Declaration) → IsDeclaration (declaration_tokens d) d
declaration_is d = q.declaration (kind_word d.kind) (kind_is d.kind)

declarations_are : (ds : List Declaration) → IsDeclarations (more_declarations_tokens ds) ds
declarations_are [] = q.declarations_end
declarations_are (d ∷ ds) = q.declarations_more (declaration_is d) (declarations_are ds)

parameters_are : (ds : List Declaration) → IsParameters (declarations_tokens ds ++ k.Mark m.CloseParenthesis ∷ []) ds
parameters_are [] = q.no_parameters
parameters_are (d ∷ ds) = subst (λ (ts : List TokenKind). IsParameters ts (d ∷ ds)) (sym (append_assoc (declaration_tokens d) (more_declarations_tokens ds) (k.Mark m.CloseParenthesis ∷ []))) (q.parameters (declaration_is d) (declarations_are ds))

outcome_is : (d : Option Declaration) → IsOutcome (outcome_tokens d) d
outcome_is None = q.no_outcome
outcome_is (Some d) = q.outcome (declaration_is d)

locals_are : (ds : List Declaration) → IsLocals (locals_tokens ds) ds
locals_are [] = q.locals_end
locals_are (d ∷ ds) = q.locals_more (declaration_is d) (locals_are ds)

procedure_is : (n : ℕ) (p : Procedure) → IsPrintableProcedure p → IsProcedure n (procedure_tokens p) (record p { body = block_from n p.body }) (n + count p.body)
procedure_is n p h =
    subst (λ (b : Statements). IsProcedure n (procedure_tokens p) (record p { body = b }) (n + count p.body)) (block_again (block_from n p.body))
    (q.procedure (parameters_are p.parameters) (outcome_is p.outcome) (locals_are p.locals) (statements_are n 0 p.body h.body))

procedures_are : (n : ℕ) (ps : List Procedure) → ArePrintable ps → (j : ℕ) × IsProcedures n (program_tokens ps) (procedures_from n ps) j
procedures_are n [] h = (n, q.procedures_end)
procedures_are n (p ∷ ps) h = let rest = procedures_are (n + count p.body) ps h.1 in (rest.0, q.procedures_more (procedure_is n p h.0) rest.1)

pub program_is : (ps : List Procedure) → IsPrintable ps → IsProgram (program_tokens ps) (renumbered ps)
program_is [] h = absurd h
program_is (p ∷ ps) h = q.program (procedure_is 1 p h.0) (procedures_are (1 + count p.body) ps h.1).1
