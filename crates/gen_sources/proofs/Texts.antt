-- Generated sources have the tokens of their trees.
use Rattle.std.proofs.Common.{◌≡◌, ◌≤◌, ◌<◌, ℕ, zero, suc, List, [], ◌∷◌, ◌++◌, refl, sym, subst, ◌∙◌, arith, append_assoc}
use Rattle.std.proofs.lemmas.List.{append-nil}
use Rattle.std.specs.Prelude.{codes}
use Rattle.imp_round_trip.proofs.PrintedPrograms.{assigns, set}
use Rattle.imp_lex.specs.declared.token.TokenKind.{TokenKind}
use Rattle.imp_lex.specs.declared.token.TokenKind.TheVariants as k
use Rattle.imp_lex.specs.declared.token.Mark.TheVariants as m
use Rattle.imp_lex.specs.declared.token.Word.TheVariants as w
use Rattle.base_values.specs.Numbers.{greatest}
use Rattle.imp_syntax.specs.Plain.{Statements}
use Rattle.imp_parse.specs.Answer.{Fits}
use Rattle.imp_parse.specs.Limits.{outside}
use Rattle.imp_parse.specs.Programs.{IsProgram}
use Rattle.daig_gen.specs.declared.pieces.PieceKind.{PieceKind}
use Rattle.daig_gen.specs.declared.pieces.PieceKind.TheVariants.{Constant, Sum, Difference, While, If, Array, Input, Node}
use Rattle.daig_gen.specs.Draws.{next, pick, variable, constant}
use Rattle.daig_gen.specs.Pieces.{kind_of, variable_text, constant_text, copy_text, sum_text, difference_text, while_text, if_text, array_text, input_text, node_text}
use Rattle.daig_gen.specs.Source.{text_of, piece, pieces, head, source_of}
use Rattle.imp_round_trip.specs.Printable.{IsNamed}
use Rattle.imp_round_trip.proofs.Tokens.{block_tokens, program_tokens}
use Rattle.imp_round_trip.proofs.Lexed.{Lexes, lexes_nothing, Closed, Open, nothing, retold, closed_closed, closed_open, open_closed, space, line_feed, less, minus, plus, colon, semicolon, dot, open_parenthesis, close_parenthesis, open_brace, close_brace}
use Rattle.imp_round_trip.proofs.Words.{names, numbers_open, proc_word, var_word, int_word, array_word, list_word, input_word, new_word, next_word, if_word, else_word, while_word}
use Rattle.imp_round_trip.proofs.Budgets.{program_fits}
use Rattle.imp_round_trip.proofs.SpelledPrograms.{program_is}
use Rattle.gen_sources.specs.Trees.{AreRead, piece_tree, pieces_tree, main_with, tree_of}
use Rattle.gen_sources.proofs.Words.{variable_below, constant_below, is_variable, array_named, first_list, second_list, main_named, v0_named, v1_named, v2_named, v3_named}
use Rattle.gen_sources.proofs.Printable.{program_printable}

-- ---- what stands between names and numbers

adds : Closed (codes " + ") (k.Mark m.Plus ∷ [])
adds = closed_closed space (closed_closed plus space)

takes : Closed (codes " - ") (k.Mark m.Minus ∷ [])
takes = closed_closed space minus

is_less : Closed (codes " < ") (k.Mark m.Less ∷ [])
is_less = closed_closed space less

opens : Closed (codes ") { ") (k.Mark m.CloseParenthesis ∷ k.Mark m.OpenBrace ∷ [])
opens = closed_closed close_parenthesis (closed_closed space (closed_closed open_brace space))

closes : Closed (codes " }") (k.Mark m.CloseBrace ∷ [])
closes = closed_closed space close_brace

-- ---- statements

abbrev v : ℕ → List ℕ
v x = variable_text x

constant_closed : (x c : ℕ) → x < 4 → c ≤ greatest → Closed (constant_text x c) (k.Name (v x) ∷ k.Mark m.Equals ∷ k.Number c ∷ k.Mark m.Semicolon ∷ [])
unfolding constant_text
constant_closed x c h g = open_closed (closed_open (set (v x) (is_variable x h)) (numbers_open c g)) (λ rest. refl) semicolon

copy_closed : (x y : ℕ) → x < 4 → y < 4 → Closed (copy_text x y) (k.Name (v x) ∷ k.Mark m.Equals ∷ k.Name (v y) ∷ k.Mark m.Semicolon ∷ [])
unfolding copy_text
copy_closed x y h g = open_closed (closed_open (set (v x) (is_variable x h)) (names (v y) (is_variable y g))) (λ rest. refl) semicolon

sum_closed : (x y c : ℕ) → x < 4 → y < 4 → c ≤ greatest → Closed (sum_text x y c) (k.Name (v x) ∷ k.Mark m.Equals ∷ k.Name (v y) ∷ k.Mark m.Plus ∷ k.Number c ∷ k.Mark m.Semicolon ∷ [])
unfolding sum_text
sum_closed x y c h g i = open_closed (closed_open (open_closed (closed_open (set (v x) (is_variable x h)) (names (v y) (is_variable y g))) (λ rest. refl) adds) (numbers_open c i)) (λ rest. refl) semicolon

difference_closed : (x y z : ℕ) → x < 4 → y < 4 → z < 4 → Closed (difference_text x y z) (k.Name (v x) ∷ k.Mark m.Equals ∷ k.Name (v y) ∷ k.Mark m.Minus ∷ k.Name (v z) ∷ k.Mark m.Semicolon ∷ [])
unfolding difference_text
difference_closed x y z h g i = open_closed (closed_open (open_closed (closed_open (set (v x) (is_variable x h)) (names (v y) (is_variable y g))) (λ rest. refl) takes) (names (v z) (is_variable z i))) (λ rest. refl) semicolon

while_closed : (x c : ℕ) → x < 4 → c ≤ greatest → Closed (while_text x c) (
    k.Word w.While ∷ k.Mark m.OpenParenthesis ∷ k.Name (v x) ∷ k.Mark m.Less ∷ k.Number c ∷ k.Mark m.CloseParenthesis ∷ k.Mark m.OpenBrace
    ∷ k.Name (v x) ∷ k.Mark m.Equals ∷ k.Name (v x) ∷ k.Mark m.Plus ∷ k.Number 1 ∷ k.Mark m.Semicolon ∷ k.Mark m.CloseBrace ∷ [])
unfolding while_text
while_closed x c h g =
    let begins : Closed (codes "while (") (k.Word w.While ∷ k.Mark m.OpenParenthesis ∷ []) = open_closed while_word (λ rest. refl) (closed_closed space open_parenthesis) in
    closed_closed (closed_closed (open_closed (closed_open (open_closed (closed_open begins (names (v x) (is_variable x h))) (λ rest. refl) is_less) (numbers_open c g)) (λ rest. refl) opens) (sum_closed x x 1 h h (omega arith))) closes

if_closed : (x y c : ℕ) → x < 4 → y < 4 → c ≤ greatest → Closed (if_text x y c) (
    k.Word w.If ∷ k.Mark m.OpenParenthesis ∷ k.Name (v x) ∷ k.Mark m.Less ∷ k.Name (v y) ∷ k.Mark m.CloseParenthesis ∷ k.Mark m.OpenBrace
    ∷ k.Name (v x) ∷ k.Mark m.Equals ∷ k.Name (v y) ∷ k.Mark m.Semicolon ∷ k.Mark m.CloseBrace ∷ k.Word w.Else ∷ k.Mark m.OpenBrace
    ∷ k.Name (v y) ∷ k.Mark m.Equals ∷ k.Number c ∷ k.Mark m.Semicolon ∷ k.Mark m.CloseBrace ∷ [])
unfolding if_text
if_closed x y c h g i =
    let begins : Closed (codes "if (") (k.Word w.If ∷ k.Mark m.OpenParenthesis ∷ []) = open_closed if_word (λ rest. refl) (closed_closed space open_parenthesis) in
    let turns : Closed (codes " } else { ") (k.Mark m.CloseBrace ∷ k.Word w.Else ∷ k.Mark m.OpenBrace ∷ []) = closed_closed (closed_closed space (closed_closed close_brace space)) (open_closed else_word (λ rest. refl) (closed_closed space (closed_closed open_brace space))) in
    closed_closed (closed_closed (closed_closed (closed_closed (open_closed (closed_open (open_closed (closed_open begins (names (v x) (is_variable x h))) (λ rest. refl) is_less) (names (v y) (is_variable y g))) (λ rest. refl) opens) (copy_closed x y h g)) turns) (constant_closed y c g i)) closes

abbrev a : List ℕ
a = codes "a"

abbrev p : List ℕ
p = codes "p"

abbrev q : List ℕ
q = codes "q"

array_closed : (c : ℕ) → c ≤ greatest → Closed (array_text c) (k.Name a ∷ k.Mark m.Equals ∷ k.Word w.Array ∷ k.Number c ∷ k.Mark m.Semicolon ∷ [])
unfolding array_text
array_closed c g =
    let begins : Closed (codes "a = array ") (k.Name a ∷ k.Mark m.Equals ∷ k.Word w.Array ∷ []) = open_closed (names a array_named) (λ rest. refl) (closed_closed assigns (open_closed array_word (λ rest. refl) space)) in
    open_closed (closed_open begins (numbers_open c g)) (λ rest. refl) semicolon

input_closed : (x : ℕ) → x < 4 → Closed (input_text x) (k.Name (v x) ∷ k.Mark m.Equals ∷ k.Word w.Input ∷ k.Mark m.Semicolon ∷ [])
unfolding input_text
input_closed x h = open_closed (names (v x) (is_variable x h)) (λ rest. refl) (closed_closed assigns (open_closed input_word (λ rest. refl) semicolon))

node_closed : Closed node_text (
    k.Name p ∷ k.Mark m.Equals ∷ k.Word w.New ∷ k.Mark m.Semicolon ∷ k.Name p ∷ k.Mark m.Dot ∷ k.Word w.Next ∷ k.Mark m.Equals ∷ k.Name q ∷ k.Mark m.Semicolon
    ∷ k.Name q ∷ k.Mark m.Equals ∷ k.Name p ∷ k.Mark m.Semicolon ∷ [])
unfolding node_text
node_closed =
    let makes : Closed (codes "p = new; ") (k.Name p ∷ k.Mark m.Equals ∷ k.Word w.New ∷ k.Mark m.Semicolon ∷ []) = open_closed (names p first_list) (λ rest. refl) (closed_closed assigns (open_closed new_word (λ rest. refl) (closed_closed semicolon space))) in
    let links : Closed (codes "p.next = q; ") (k.Name p ∷ k.Mark m.Dot ∷ k.Word w.Next ∷ k.Mark m.Equals ∷ k.Name q ∷ k.Mark m.Semicolon ∷ []) = open_closed (names p first_list) (λ rest. refl) (closed_closed dot (open_closed next_word (λ rest. refl) (closed_closed assigns (open_closed (names q second_list) (λ rest. refl) (closed_closed semicolon space))))) in
    let moves : Closed (codes "q = p;") (k.Name q ∷ k.Mark m.Equals ∷ k.Name p ∷ k.Mark m.Semicolon ∷ []) = open_closed (names q second_list) (λ rest. refl) (closed_closed assigns (open_closed (names p first_list) (λ rest. refl) semicolon)) in
    closed_closed makes (closed_closed links moves)

-- ---- pieces

piece_closed : (kind : PieceKind) (s : ℕ) (rest : List ℕ) (tree : Statements) → Closed rest (block_tokens tree) → Closed ((text_of kind s ++ codes " ") ++ rest) (block_tokens (piece_tree kind s tree))
piece_closed Constant s rest tree h = closed_closed (closed_closed (constant_closed (variable s) (constant (next s)) (variable_below s) (constant_below (next s))) space) h
piece_closed Sum s rest tree h = closed_closed (closed_closed (sum_closed (variable s) (variable (next s)) (constant (next (next s))) (variable_below s) (variable_below (next s)) (constant_below (next (next s)))) space) h
piece_closed Difference s rest tree h = closed_closed (closed_closed (difference_closed (variable s) (variable (next s)) (variable (next (next s))) (variable_below s) (variable_below (next s)) (variable_below (next (next s)))) space) h
piece_closed While s rest tree h = closed_closed (closed_closed (while_closed (variable s) (constant (next s)) (variable_below s) (constant_below (next s))) space) h
piece_closed If s rest tree h = closed_closed (closed_closed (if_closed (variable s) (variable (next s)) (constant (next (next s))) (variable_below s) (variable_below (next s)) (constant_below (next (next s)))) space) h
piece_closed Array s rest tree h = closed_closed (closed_closed (array_closed (constant s) (constant_below s)) space) h
piece_closed Input s rest tree h = closed_closed (closed_closed (input_closed (variable s) (variable_below s)) space) h
piece_closed Node s rest tree h = closed_closed (closed_closed node_closed space) h

pieces_closed : (size s : ℕ) → Closed (pieces size s).bytes (block_tokens (pieces_tree size s))
unfolding piece
pieces_closed zero s = nothing
pieces_closed (suc n) s = piece_closed (kind_of (pick 8 s)) (next s) (pieces n (piece s).state).bytes (pieces_tree n (piece s).state) (pieces_closed n (piece s).state)

-- ---- sources

begins_main : Closed (codes "proc main() { ") (k.Word w.Proc ∷ k.Name (codes "main") ∷ k.Mark m.OpenParenthesis ∷ k.Mark m.CloseParenthesis ∷ k.Mark m.OpenBrace ∷ [])
begins_main = open_closed (closed_open (open_closed proc_word (λ rest. refl) space) (names (codes "main") main_named)) (λ rest. refl) (closed_closed open_parenthesis (closed_closed close_parenthesis (closed_closed space (closed_closed open_brace space))))

declares : (x : List ℕ) (kind : List ℕ) (t : TokenKind) → IsNamed x → Open kind (t ∷ []) → Closed (codes "var " ++ (x ++ (codes ": " ++ (kind ++ codes "; ")))) (k.Word w.Var ∷ k.Name x ∷ k.Mark m.Colon ∷ t ∷ k.Mark m.Semicolon ∷ [])
declares x kind t h g = closed_closed (open_closed var_word (λ rest. refl) space) (open_closed (names x h) (λ rest. refl) (closed_closed (closed_closed colon space) (open_closed g (λ rest. refl) (closed_closed semicolon space))))

abbrev head_tokens : List TokenKind
head_tokens =
    k.Word w.Proc ∷ k.Name (codes "main") ∷ k.Mark m.OpenParenthesis ∷ k.Mark m.CloseParenthesis ∷ k.Mark m.OpenBrace
    ∷ k.Word w.Var ∷ k.Name (codes "v0") ∷ k.Mark m.Colon ∷ k.Word w.Int ∷ k.Mark m.Semicolon
    ∷ k.Word w.Var ∷ k.Name (codes "v1") ∷ k.Mark m.Colon ∷ k.Word w.Int ∷ k.Mark m.Semicolon
    ∷ k.Word w.Var ∷ k.Name (codes "v2") ∷ k.Mark m.Colon ∷ k.Word w.Int ∷ k.Mark m.Semicolon
    ∷ k.Word w.Var ∷ k.Name (codes "v3") ∷ k.Mark m.Colon ∷ k.Word w.Int ∷ k.Mark m.Semicolon
    ∷ k.Word w.Var ∷ k.Name (codes "a") ∷ k.Mark m.Colon ∷ k.Word w.Array ∷ k.Mark m.Semicolon
    ∷ k.Word w.Var ∷ k.Name (codes "p") ∷ k.Mark m.Colon ∷ k.Word w.List ∷ k.Mark m.Semicolon
    ∷ k.Word w.Var ∷ k.Name (codes "q") ∷ k.Mark m.Colon ∷ k.Word w.List ∷ k.Mark m.Semicolon ∷ []

head_closed : Closed head head_tokens
unfolding head
head_closed =
    closed_closed begins_main (closed_closed (declares (codes "v0") (codes "int") (k.Word w.Int) v0_named int_word) (closed_closed (declares (codes "v1") (codes "int") (k.Word w.Int) v1_named int_word)
    (closed_closed (declares (codes "v2") (codes "int") (k.Word w.Int) v2_named int_word) (closed_closed (declares (codes "v3") (codes "int") (k.Word w.Int) v3_named int_word)
    (closed_closed (declares (codes "a") (codes "array") (k.Word w.Array) array_named array_word) (closed_closed (declares (codes "p") (codes "list") (k.Word w.List) first_list list_word)
    (declares (codes "q") (codes "list") (k.Word w.List) second_list list_word)))))))

same_tokens : (b : List TokenKind) → (head_tokens ++ b) ++ (k.Mark m.CloseBrace ∷ []) ≡ (head_tokens ++ (b ++ k.Mark m.CloseBrace ∷ [])) ++ []
same_tokens b = append_assoc head_tokens b (k.Mark m.CloseBrace ∷ []) ∙ sym (append-nil (head_tokens ++ (b ++ k.Mark m.CloseBrace ∷ [])))

source_closed : (seed size : ℕ) → Closed (source_of seed size) (program_tokens (main_with (pieces_tree size seed) ∷ []))
unfolding source_of
source_closed seed size =
    retold (source_of seed size) (same_tokens (block_tokens (pieces_tree size seed)))
    (closed_closed (closed_closed head_closed (pieces_closed size seed)) (closed_closed close_brace line_feed))

ends : (text : List ℕ) (ks : List TokenKind) → Closed text ks → Lexes text ks
ends text ks h = subst (λ (t : List TokenKind). Lexes text t) (append-nil ks) (subst (λ (t : List ℕ). Lexes t (ks ++ [])) (append-nil text) (h.on [] [] lexes_nothing))

pub are_read : AreRead
are_read seed size =
    let printable = program_printable size seed in
    let lexed = ends _ _ (source_closed seed size) 0 in
    let same = sym lexed.2 in
    (lexed.0, lexed.1, (subst (λ (ks : List TokenKind). IsProgram ks (tree_of seed size)) same (program_is (main_with (pieces_tree size seed) ∷ []) printable), subst (λ (ks : List TokenKind). Fits outside ks) same (program_fits (main_with (pieces_tree size seed) ∷ []) printable)))
