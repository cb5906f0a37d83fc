-- The trees of generated sources.
use Rattle.std.specs.Prelude.{◌≡◌, ◌≤◌, ℕ, zero, suc, List, [], ◌∷◌, None, codes}
use Rattle.imp_syntax.specs.declared.words.VariableKind.TheVariants.{Int, Array as OfArray, List as OfLinks}
use Rattle.imp_syntax.specs.declared.words.VariableKind as kinds
use Rattle.imp_syntax.specs.declared.words.Declaration.{Declaration}
use Rattle.imp_syntax.specs.declared.words.Operator.TheVariants.{Add, Subtract}
use Rattle.imp_syntax.specs.declared.words.Relation.TheVariants.{Less}
use Rattle.imp_syntax.specs.Plain as plain
use Rattle.imp_syntax.specs.Plain.{Expression, Literal, Variable, Binary, Value, Condition, Compare, Statements, Ends, Starts, Procedure}
use Rattle.imp_parse.specs.Answer.{HasTree}
use Rattle.imp_parse.specs.Languages.{ProgramText}
use Rattle.imp_parse.specs.Limits.{outside}
use Rattle.imp_check.specs.Programs.{check_fault}
use Rattle.daig_gen.specs.declared.pieces.PieceKind.{PieceKind}
use Rattle.daig_gen.specs.declared.pieces.PieceKind.TheVariants.{Constant, Sum, Difference, While, If, Array, Input, Node}
use Rattle.daig_gen.specs.Draws.{next, pick, variable, constant}
use Rattle.daig_gen.specs.Pieces.{kind_of, variable_text}
use Rattle.daig_gen.specs.Source.{piece, source_of}
use Rattle.imp_round_trip.specs.Renumbered.{renumbered}

abbrev pub named : ℕ → Expression
named x = Variable (variable_text x)

-- a statement without its number, before others
abbrev pub before : plain.Action → Statements → Statements
before a rest = Starts (plain.Simple 0 a) rest

abbrev pub sets : ℕ → Expression → plain.Action
sets x e = plain.Assign (variable_text x) e

abbrev pub less : Expression → Expression → Condition
less a b = Compare Less (Value a) (Value b)

-- the statements of a piece before others, without their numbers; the state is the one after the draw of its kind
abbrev pub piece_tree : PieceKind → ℕ → Statements → Statements
piece_tree Constant s rest = before (sets (variable s) (Literal (constant (next s)))) rest
piece_tree Sum s rest = before (sets (variable s) (Binary Add (named (variable (next s))) (Literal (constant (next (next s)))))) rest
piece_tree Difference s rest = before (sets (variable s) (Binary Subtract (named (variable (next s))) (named (variable (next (next s)))))) rest
piece_tree While s rest =
    Starts (plain.While 0 (less (named (variable s)) (Literal (constant (next s)))) (before (sets (variable s) (Binary Add (named (variable s)) (Literal 1))) Ends)) rest
piece_tree If s rest =
    Starts (plain.If 0 (less (named (variable s)) (named (variable (next s))))
    (before (sets (variable s) (named (variable (next s)))) Ends)
    (before (sets (variable (next s)) (Literal (constant (next (next s))))) Ends)) rest
piece_tree Array s rest = before (plain.MakeArray (codes "a") (Literal (constant s))) rest
piece_tree Input s rest = before (plain.Input (variable_text (variable s))) rest
piece_tree Node s rest = before (plain.MakeCell (codes "p")) (before (plain.WriteNext (codes "p") (codes "q")) (before (plain.Assign (codes "q") (Variable (codes "p"))) rest))

-- n pieces from the state s on
abbrev pub pieces_tree : ℕ → ℕ → Statements
pieces_tree zero s = Ends
pieces_tree (suc n) s = piece_tree (kind_of (pick 8 s)) (next s) (pieces_tree n (piece s).state)

abbrev pub declared : List ℕ → kinds.VariableKind → Declaration
declared x kind = record { name = x; kind = kind }

-- the variables of each source
abbrev pub declarations : List Declaration
declarations =
    declared (codes "v0") Int ∷ declared (codes "v1") Int ∷ declared (codes "v2") Int ∷ declared (codes "v3") Int
    ∷ declared (codes "a") OfArray ∷ declared (codes "p") OfLinks ∷ declared (codes "q") OfLinks ∷ []

abbrev pub main_with : Statements → Procedure
main_with body = record { name = codes "main"; parameters = []; outcome = None; locals = declarations; body = body }

-- the program of this seed and size
abbrev pub tree_of : ℕ → ℕ → List Procedure
tree_of seed size = renumbered (main_with (pieces_tree size seed) ∷ [])

-- each source has its tree, by the grammar and within the budgets
abbrev pub AreRead : Type 0
AreRead = (seed size : ℕ) → HasTree ProgramText outside (source_of seed size) (tree_of seed size)

-- and that has no fault
abbrev pub AreFaultless : Type 0
AreFaultless = (seed size : ℕ) → size ≤ 3333 → check_fault (tree_of seed size) ≡ None
