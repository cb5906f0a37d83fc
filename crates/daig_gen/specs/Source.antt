-- The generated source.
use Rattle.std.specs.Prelude.{ℕ, zero, suc, ◌+◌, List, [], ◌++◌, codes}
use Rattle.daig_gen.specs.declared.pieces.PieceKind.{PieceKind}
use Rattle.daig_gen.specs.declared.pieces.PieceKind.TheVariants.{Constant, Sum, Difference, While, If, Array, Input, Node}
use Rattle.daig_gen.specs.Draws.{next, pick, variable, constant}
use Rattle.daig_gen.specs.Pieces.{kind_of, constant_text, sum_text, difference_text, while_text, if_text, array_text, input_text, node_text, statements_of}

-- text, how many statements it has, and the state of the generator after it
pub record Piece : Type 0 where
  pub bytes : List ℕ
  pub statements : ℕ
  pub state : ℕ

-- the text of a piece whose variables and constant are drawn from the state s on
abbrev pub text_of : PieceKind → ℕ → List ℕ
text_of Constant s = constant_text (variable s) (constant (next s))
text_of Sum s = sum_text (variable s) (variable (next s)) (constant (next (next s)))
text_of Difference s = difference_text (variable s) (variable (next s)) (variable (next (next s)))
text_of While s = while_text (variable s) (constant (next s))
text_of If s = if_text (variable s) (variable (next s)) (constant (next (next s)))
text_of Array s = array_text (constant s)
text_of Input s = input_text (variable s)
text_of Node s = node_text

-- the state after those draws
abbrev pub state_after : PieceKind → ℕ → ℕ
state_after Constant s = next (next s)
state_after Sum s = next (next (next s))
state_after Difference s = next (next (next s))
state_after While s = next (next s)
state_after If s = next (next (next s))
state_after Array s = next s
state_after Input s = next s
state_after Node s = s

-- the piece at the state s, with the space after it: its kind is drawn, and then what occurs in it
unfoldable pub piece : ℕ → Piece
piece s = let kind = kind_of (pick 8 s) in record {
  bytes = text_of kind (next s) ++ codes " ";
  statements = statements_of kind;
  state = state_after kind (next s);
}

-- n pieces from the state s on
abbrev pub pieces : ℕ → ℕ → Piece
pieces zero s = record { bytes = []; statements = 0; state = s }
pieces (suc n) s = let first = piece s in let rest = pieces n first.state in record {
  bytes = first.bytes ++ rest.bytes;
  statements = first.statements + rest.statements;
  state = rest.state;
}

-- the beginning of each source: its declarations
unfoldable pub head : List ℕ
head = codes "proc main() { var v0: int; var v1: int; var v2: int; var v3: int; var a: array; var p: list; var q: list; "

-- the source of this seed and size
unfoldable pub source_of : ℕ → ℕ → List ℕ
source_of seed size = head ++ (pieces size seed).bytes ++ codes "}\n"
