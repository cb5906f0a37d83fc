-- Printed statements and programs have their tokens.
use Rattle.std.proofs.Common.{◌≡◌, ℕ, ◌+◌, Bool, true, false, List, [], ◌∷◌, ◌++◌, refl, sym, ap, subst, ◌∙◌, append_assoc}
use Rattle.std.specs.Prelude.{Option, Some, None, codes}
use Rattle.std.proofs.lemmas.List.{append-nil}
use Rattle.imp_lex.specs.declared.token.TokenKind.{TokenKind}
use Rattle.imp_lex.specs.declared.token.TokenKind.TheVariants as k
use Rattle.imp_lex.specs.declared.token.Mark.TheVariants as m
use Rattle.imp_lex.specs.declared.token.Word.TheVariants as w
use Rattle.imp_syntax.specs.declared.words.VariableKind as kinds
use Rattle.imp_syntax.specs.declared.words.VariableKind.TheVariants as v
use Rattle.imp_syntax.specs.declared.words.Declaration.{Declaration}
use Rattle.imp_syntax.specs.Plain as plain
use Rattle.imp_syntax.specs.Plain.{Operand, Null, Value, Statement, Simple, Break, Call, If, While, Statements, Ends, Starts, Procedure}
use Rattle.imp_print.specs.Expressions.{condition_text}
use Rattle.imp_print.specs.Statements.{action_text, more_sides_text, sides_text, target_text, call_text, deeper, is_empty, else_text, statement_text, block_text}
use Rattle.imp_print.specs.Programs.{kind_text, declaration_text, more_declarations_text, declarations_text, outcome_text, locals_text, signature_text, procedure_text, program_text}
use Rattle.imp_round_trip.specs.Printable.{IsConditionOfText, IsSideOfText, AreSidesOfText, HasSideWords, IsPrintableAction, IsTargetNamed, IsPrintableStatement, IsPrintableBlock, AreDeclarationsNamed, IsOutcomeNamed, IsNamed, IsPrintableProcedure, ArePrintable}
use Rattle.imp_round_trip.proofs.Tokens.{condition_tokens, action_tokens, more_sides_tokens, sides_tokens, target_tokens, call_tokens, braced, if_tokens, statement_tokens, block_tokens, kind_word, declaration_tokens, more_declarations_tokens, declarations_tokens, outcome_tokens, locals_tokens, signature_tokens, procedure_tokens, program_tokens}
use Rattle.imp_round_trip.proofs.Lexed.{Lexes, lexes_nothing, Closed, Open, StaysApart, left_open, nothing, retold, closed_closed, closed_open, open_closed, open_open, open_closed_open, space, line_feed, equals, open_bracket, close_bracket, dot, comma, colon, semicolon, open_parenthesis, close_parenthesis, open_brace, close_brace, arrow}
use Rattle.imp_round_trip.proofs.Words.{names, proc_word, var_word, int_word, array_word, list_word, skip_word, input_word, null_word, new_word, next_word, item_word, assert_word, if_word, else_word, while_word, call_word, break_word}
use Rattle.imp_round_trip.proofs.PrintedExpressions.{expression_open, side_open, condition_open}

-- ---- what stands on a line

pub assigns : Closed (codes " = ") (k.Mark m.Equals ∷ [])
assigns = closed_closed space equals

next_of : Closed (codes ".next = ") (k.Mark m.Dot ∷ k.Word w.Next ∷ k.Mark m.Equals ∷ [])
next_of = closed_closed dot (open_closed next_word (λ rest. refl) assigns)

item_of : Closed (codes ".item = ") (k.Mark m.Dot ∷ k.Word w.Item ∷ k.Mark m.Equals ∷ [])
item_of = closed_closed dot (open_closed item_word (λ rest. refl) assigns)

-- a variable that is set, up to what it is set to
pub set : (x : List ℕ) → IsNamed x → Closed (x ++ codes " = ") (k.Name x ∷ k.Mark m.Equals ∷ [])
set x h = open_closed (names x h) (λ rest. refl) assigns

action_open : (a : plain.Action) → IsPrintableAction a → Open (action_text a) (action_tokens a)
action_open plain.Skip h = skip_word
action_open (plain.Assert c) h = closed_open (open_closed assert_word (λ rest. refl) space) (condition_open c h.words)
action_open (plain.Assign x e) h = closed_open (set x h.0) (expression_open e h.1.words)
action_open (plain.Input x) h = open_open (names x h) (λ rest e. refl) (closed_open assigns input_word)
action_open (plain.MakeArray x e) h = closed_open (open_closed (names x h.0) (λ rest. refl) (closed_closed assigns (open_closed array_word (λ rest. refl) space))) (expression_open e h.1.words)
action_open (plain.SetNull x) h = open_open (names x h) (λ rest e. refl) (closed_open assigns null_word)
action_open (plain.MakeCell x) h = open_open (names x h) (λ rest e. refl) (closed_open assigns new_word)
action_open (plain.ReadElement x a e) h = left_open (action_text (plain.ReadElement x a e)) (action_tokens (plain.ReadElement x a e)) (open_closed (closed_open (open_closed (closed_open (set x h.0) (names a h.1)) (λ rest. refl) open_bracket) (expression_open e h.2.words)) (λ rest. refl) close_bracket)
action_open (plain.ReadNext x q) h = open_open (closed_open (set x h.0) (names q h.1)) (λ rest e. refl) (closed_open dot next_word)
action_open (plain.ReadItem x q) h = open_open (closed_open (set x h.0) (names q h.1)) (λ rest e. refl) (closed_open dot item_word)
action_open (plain.WriteElement a e f) h = open_closed_open (closed_open (open_closed (names a h.0) (λ rest. refl) open_bracket) (expression_open e h.1.words)) (λ rest. refl) (closed_closed close_bracket assigns) (expression_open f h.2.words)
action_open (plain.WriteNext p q) h = closed_open (open_closed (names p h.0) (λ rest. refl) next_of) (names q h.1)
action_open (plain.WriteItem p e) h = closed_open (open_closed (names p h.0) (λ rest. refl) item_of) (expression_open e h.1.words)

side_words : (e : Operand) → IsSideOfText e → HasSideWords e
side_words Null h = tt
side_words (Value e) h = h.words

more_sides_apart : (es : List Operand) → StaysApart (more_sides_text es)
more_sides_apart [] rest e = e
more_sides_apart (e ∷ es) rest a = refl

more_sides_open : (es : List Operand) → AreSidesOfText es → Open (more_sides_text es) (more_sides_tokens es)
more_sides_open [] h = left_open [] [] nothing
more_sides_open (e ∷ es) h = closed_open (closed_closed comma space) (open_open (side_open e (side_words e h.0)) (more_sides_apart es) (more_sides_open es h.1))

sides_open : (es : List Operand) → AreSidesOfText es → Open (sides_text es) (sides_tokens es)
sides_open [] h = left_open [] [] nothing
sides_open (e ∷ es) h = open_open (side_open e (side_words e h.0)) (more_sides_apart es) (more_sides_open es h.1)

target_closed : (x : Option (List ℕ)) → IsTargetNamed x → Closed (target_text x) (target_tokens x)
target_closed None h = nothing
target_closed (Some x) h = open_closed (names x h) (λ rest. refl) assigns

six : (t c f p s q : List ℕ) → t ++ (c ++ (f ++ (p ++ (s ++ q)))) ≡ ((((t ++ c) ++ f) ++ p) ++ s) ++ q
six t c f p s q = simp append_assoc

call_closed : (x : Option (List ℕ)) (f : List ℕ) (es : List Operand) → IsTargetNamed x → IsNamed f → AreSidesOfText es → Closed (call_text x f es) (call_tokens x f es)
call_closed x f es target named sides =
    subst (λ (q : List ℕ). Closed q (call_tokens x f es)) (six (target_text x) (codes "call ") f (codes "(") (sides_text es) (codes ")"))
    (closed_closed (target_closed x target) (closed_closed (open_closed call_word (λ rest. refl) space) (open_closed (names f named) (λ rest. refl) (closed_closed open_parenthesis (open_closed (sides_open es sides) (λ rest. refl) close_parenthesis)))))

-- ---- lines and blocks

on_line : (right text : List ℕ) (ks : List TokenKind) → Closed right [] → Closed text ks → Closed ((right ++ text) ++ codes "\n") ks
on_line right text ks blank h = subst (λ (q : List TokenKind). Closed ((right ++ text) ++ codes "\n") q) (append-nil ks) (closed_closed (closed_closed blank h) line_feed)

-- three lines or more
lines : (x y z : List ℕ) (ks : List TokenKind) → Closed (x ++ (y ++ z)) ks → Closed ((x ++ y) ++ z) ks
lines x y z ks h = subst (λ (q : List ℕ). Closed q ks) (sym (append_assoc x y z)) h

further : (right : List ℕ) → Closed right [] → Closed (deeper right) []
further right blank = closed_closed blank (closed_closed space space)

-- a condition after its word, up to the brace
head_closed : (text : List ℕ) (word : TokenKind) (c : plain.Condition) → Closed text (word ∷ k.Mark m.OpenParenthesis ∷ []) → IsConditionOfText c → Closed (text ++ (condition_text c ++ codes ") {")) (word ∷ k.Mark m.OpenParenthesis ∷ (condition_tokens c ++ k.Mark m.CloseParenthesis ∷ k.Mark m.OpenBrace ∷ []))
head_closed text word c h g = closed_closed h (open_closed (condition_open c g.words) (λ rest. refl) (closed_closed close_parenthesis (closed_closed space open_brace)))

-- the tokens of a head and of what stands after it
head_and : (word : TokenKind) (c more : List TokenKind) → (word ∷ k.Mark m.OpenParenthesis ∷ (c ++ k.Mark m.CloseParenthesis ∷ k.Mark m.OpenBrace ∷ [])) ++ more ≡ word ∷ k.Mark m.OpenParenthesis ∷ (c ++ (k.Mark m.CloseParenthesis ∷ k.Mark m.OpenBrace ∷ more))
head_and word c more = ap (λ (q : List TokenKind). word ∷ k.Mark m.OpenParenthesis ∷ q) (append_assoc c (k.Mark m.CloseParenthesis ∷ k.Mark m.OpenBrace ∷ []) more)

-- what stands after the head of an if
if_tail : Bool → List TokenKind → List TokenKind → List TokenKind
if_tail true t e = t ++ k.Mark m.CloseBrace ∷ []
if_tail false t e = t ++ (k.Mark m.CloseBrace ∷ k.Word w.Else ∷ k.Mark m.OpenBrace ∷ (e ++ k.Mark m.CloseBrace ∷ []))

if_same : (v : Bool) (c t e : List TokenKind) → (k.Word w.If ∷ k.Mark m.OpenParenthesis ∷ (c ++ k.Mark m.CloseParenthesis ∷ k.Mark m.OpenBrace ∷ [])) ++ if_tail v t e ≡ if_tokens v c t e
unfolding if_tail
if_same true c t e = head_and (k.Word w.If) c (t ++ k.Mark m.CloseBrace ∷ [])
if_same false c t e =
    head_and (k.Word w.If) c (t ++ (k.Mark m.CloseBrace ∷ k.Word w.Else ∷ braced e))
    ∙ ap (λ (q : List TokenKind). k.Word w.If ∷ k.Mark m.OpenParenthesis ∷ (c ++ (k.Mark m.CloseParenthesis ∷ k.Mark m.OpenBrace ∷ q))) (sym (append_assoc t (k.Mark m.CloseBrace ∷ []) (k.Word w.Else ∷ braced e)))

if_tail_closed : (v : Bool) (right then otherwise : List ℕ) (t e : List TokenKind) → Closed right [] → Closed then t → Closed otherwise e → Closed (then ++ else_text false right v otherwise) (if_tail v t e)
unfolding if_tail
if_tail_closed true right then otherwise t e blank g h = closed_closed g (on_line right (codes "}") (k.Mark m.CloseBrace ∷ []) blank close_brace)
if_tail_closed false right then otherwise t e blank g h =
    closed_closed g (lines _ otherwise _ _
    (closed_closed (on_line right (codes "} else {") (k.Mark m.CloseBrace ∷ k.Word w.Else ∷ k.Mark m.OpenBrace ∷ []) blank (closed_closed (closed_closed close_brace space) (closed_closed (open_closed else_word (λ rest. refl) space) open_brace)))
    (closed_closed h (on_line right (codes "}") (k.Mark m.CloseBrace ∷ []) blank close_brace))))

mutual
  pub statement_closed : (depth : ℕ) (right : List ℕ) (s : Statement) → Closed right [] → IsPrintableStatement depth s → Closed (statement_text false right s) (statement_tokens s)
  statement_closed depth right (Simple n a) blank h = on_line right _ _ blank (open_closed (action_open a h) (λ rest. refl) semicolon)
  statement_closed depth right (Break n) blank h = on_line right (codes "break;") _ blank (open_closed break_word (λ rest. refl) semicolon)
  statement_closed depth right (Call n x f es) blank h = on_line right _ _ blank (closed_closed (call_closed x f es h.0 h.1 h.2) semicolon)
  statement_closed depth right (If n c t e) blank h =
      let head = on_line right _ _ blank (head_closed (codes "if (") (k.Word w.If) c (open_closed if_word (λ rest. refl) (closed_closed space open_parenthesis)) h.0) in
      let tail = if_tail_closed (is_empty e) right (block_text false (deeper right) t) (block_text false (deeper right) e) (block_tokens t) (block_tokens e) blank (block_closed (depth + 1) (deeper right) t (further right blank) h.2) (block_closed (depth + 1) (deeper right) e (further right blank) h.3) in
      lines _ (block_text false (deeper right) t) _ _ (retold _ (if_same (is_empty e) (condition_tokens c) (block_tokens t) (block_tokens e)) (closed_closed head tail))
  statement_closed depth right (While n c b) blank h =
      let head = on_line right _ _ blank (head_closed (codes "while (") (k.Word w.While) c (open_closed while_word (λ rest. refl) (closed_closed space open_parenthesis)) h.0) in
      let body = block_closed (depth + 1) (deeper right) b (further right blank) h.2 in
      lines _ (block_text false (deeper right) b) _ _ (retold _ (head_and (k.Word w.While) (condition_tokens c) (block_tokens b ++ k.Mark m.CloseBrace ∷ [])) (closed_closed head (closed_closed body (on_line right (codes "}") (k.Mark m.CloseBrace ∷ []) blank close_brace))))

  pub block_closed : (depth : ℕ) (right : List ℕ) (ss : Statements) → Closed right [] → IsPrintableBlock depth ss → Closed (block_text false right ss) (block_tokens ss)
  block_closed depth right Ends blank h = nothing
  block_closed depth right (Starts s ss) blank h = closed_closed (statement_closed depth right s blank h.0) (block_closed depth right ss blank h.1)

-- ---- procedures

kind_open : (kind : kinds.VariableKind) → Open (kind_text kind) (kind_word kind ∷ [])
kind_open v.Int = int_word
kind_open v.Array = array_word
kind_open v.List = list_word

declaration_open : (d : Declaration) → IsNamed d.name → Open (declaration_text d) (declaration_tokens d)
declaration_open d h = closed_open (open_closed (names d.name h) (λ rest. refl) (closed_closed colon space)) (kind_open d.kind)

more_declarations_apart : (ds : List Declaration) → StaysApart (more_declarations_text ds)
more_declarations_apart [] rest e = e
more_declarations_apart (d ∷ ds) rest e = refl

more_declarations_open : (ds : List Declaration) → AreDeclarationsNamed ds → Open (more_declarations_text ds) (more_declarations_tokens ds)
more_declarations_open [] h = left_open [] [] nothing
more_declarations_open (d ∷ ds) h = closed_open (closed_closed comma space) (open_open (declaration_open d h.0) (more_declarations_apart ds) (more_declarations_open ds h.1))

declarations_open : (ds : List Declaration) → AreDeclarationsNamed ds → Open (declarations_text ds) (declarations_tokens ds)
declarations_open [] h = left_open [] [] nothing
declarations_open (d ∷ ds) h = open_open (declaration_open d h.0) (more_declarations_apart ds) (more_declarations_open ds h.1)

outcome_open : (d : Option Declaration) → IsOutcomeNamed d → Open (outcome_text d) (outcome_tokens d)
outcome_open None h = left_open [] [] nothing
outcome_open (Some d) h = closed_open (closed_closed space (closed_closed arrow space)) (declaration_open d h)

signature_closed : (p : Procedure) → IsPrintableProcedure p → Closed (signature_text p) (signature_tokens p)
signature_closed p h = open_closed (closed_open (open_closed (closed_open (open_closed proc_word (λ rest. refl) space) (names p.name h.name)) (λ rest. refl) open_parenthesis) (declarations_open p.parameters h.parameters)) (λ rest. refl) close_parenthesis

locals_closed : (right : List ℕ) (ds : List Declaration) → Closed right [] → AreDeclarationsNamed ds → Closed (locals_text false right ds) (locals_tokens ds)
locals_closed right [] blank h = nothing
locals_closed right (d ∷ ds) blank h = closed_closed (on_line right _ _ blank (closed_closed (open_closed var_word (λ rest. refl) space) (open_closed (declaration_open d h.0) (λ rest. refl) semicolon))) (locals_closed right ds blank h.1)

-- the tokens of a signature, a result, a brace, the locals, the body and a brace
six_parts : (s o b l ss c : List TokenKind) → ((((s ++ o) ++ b) ++ l) ++ ss) ++ c ≡ s ++ (o ++ (b ++ (l ++ (ss ++ c))))
six_parts s o b l ss c = simp append_assoc

procedure_closed : (p : Procedure) → IsPrintableProcedure p → Closed (procedure_text false p) (procedure_tokens p)
unfolding procedure_text
procedure_closed p h =
    let head = on_line [] _ _ nothing (open_closed (closed_open (signature_closed p h) (outcome_open p.outcome h.outcome)) (λ rest. refl) (closed_closed space open_brace)) in
    let locals = locals_closed (codes "  ") p.locals (closed_closed space space) h.locals in
    let body = block_closed 0 (codes "  ") p.body (closed_closed space space) h.body in
    subst (λ (q : List TokenKind). Closed (procedure_text false p) q) (six_parts (signature_tokens p) (outcome_tokens p.outcome) (k.Mark m.OpenBrace ∷ []) (locals_tokens p.locals) (block_tokens p.body) (k.Mark m.CloseBrace ∷ []))
    (closed_closed (closed_closed (closed_closed head locals) body) (on_line [] (codes "}") (k.Mark m.CloseBrace ∷ []) nothing close_brace))

procedures_closed : (ps : List Procedure) → ArePrintable ps → Closed (program_text false ps) (program_tokens ps)
procedures_closed [] h = nothing
procedures_closed (p ∷ ps) h = closed_closed (procedure_closed p h.0) (procedures_closed ps h.1)

pub program_lexes : (ps : List Procedure) → ArePrintable ps → Lexes (program_text false ps) (program_tokens ps)
program_lexes ps h = subst (λ (q : List ℕ). Lexes q (program_tokens ps)) (append-nil (program_text false ps)) (subst (λ (q : List TokenKind). Lexes (program_text false ps ++ []) q) (append-nil (program_tokens ps)) ((procedures_closed ps h).on [] [] lexes_nothing))
