-- The texts of statements: one line each, two spaces deeper in each block.
use Rattle.std.specs.Prelude.{ℕ, ◌-◌, Bool, true, false, List, [], ◌∷◌, ◌++◌, length, replicate, Option, Some, None, codes}
use Rattle.std.specs.Fmt.{decimal}
use Rattle.imp_syntax.specs.Plain as plain
use Rattle.imp_syntax.specs.Plain.{Operand, Statement, Simple, Break, Call, If, While, Statements, Ends, Starts}
use Rattle.imp_print.specs.Expressions.{expression_text, side_text, condition_text}

-- ---- what stands on a line

abbrev pub action_text : plain.Action → List ℕ
action_text plain.Skip = codes "skip"
action_text (plain.Assert c) = codes "assert " ++ condition_text c
action_text (plain.Assign x e) = x ++ codes " = " ++ expression_text e
action_text (plain.Input x) = x ++ codes " = input"
action_text (plain.MakeArray x e) = x ++ codes " = array " ++ expression_text e
action_text (plain.SetNull x) = x ++ codes " = null"
action_text (plain.MakeCell x) = x ++ codes " = new"
action_text (plain.ReadElement x a e) = x ++ codes " = " ++ a ++ codes "[" ++ expression_text e ++ codes "]"
action_text (plain.ReadNext x q) = x ++ codes " = " ++ q ++ codes ".next"
action_text (plain.ReadItem x q) = x ++ codes " = " ++ q ++ codes ".item"
action_text (plain.WriteElement a e f) = a ++ codes "[" ++ expression_text e ++ codes "] = " ++ expression_text f
action_text (plain.WriteNext p q) = p ++ codes ".next = " ++ q
action_text (plain.WriteItem p e) = p ++ codes ".item = " ++ expression_text e

-- sides after the first
abbrev pub more_sides_text : List Operand → List ℕ
more_sides_text [] = []
more_sides_text (e ∷ es) = codes ", " ++ side_text e ++ more_sides_text es

abbrev pub sides_text : List Operand → List ℕ
sides_text [] = []
sides_text (e ∷ es) = side_text e ++ more_sides_text es

abbrev pub target_text : Option (List ℕ) → List ℕ
target_text None = []
target_text (Some x) = x ++ codes " = "

abbrev pub call_text : Option (List ℕ) → List ℕ → List Operand → List ℕ
call_text x f es = target_text x ++ codes "call " ++ f ++ codes "(" ++ sides_text es ++ codes ")"

-- ---- lines

-- so many spaces
abbrev pub spaces : ℕ → List ℕ
spaces n = replicate n 32

-- before each line of a listing: the number of the statement that begins there, right in seven places, and a space
abbrev pub margin : Bool → Option ℕ → List ℕ
margin false n = []
margin true None = codes "        "
margin true (Some n) = spaces (7 - length (decimal n)) ++ decimal n ++ codes " "

-- a line: in a listing with its margin; so far to the right; ended by LF
abbrev pub line : Bool → Option ℕ → List ℕ → List ℕ → List ℕ
line listing n right text = margin listing n ++ right ++ text ++ codes "\n"

-- two spaces more
abbrev pub deeper : List ℕ → List ℕ
deeper right = right ++ codes "  "

-- no statement stands in it
abbrev pub is_empty : Statements → Bool
is_empty Ends = true
is_empty (Starts s ss) = false

-- the end of an if, whose else is empty or not: an else that is not empty, and the last brace
abbrev pub else_text : Bool → List ℕ → Bool → List ℕ → List ℕ
else_text listing right true otherwise = line listing None right (codes "}")
else_text listing right false otherwise = line listing None right (codes "} else {") ++ otherwise ++ line listing None right (codes "}")

abbrev mutual
  pub statement_text : Bool → List ℕ → Statement → List ℕ
  statement_text listing right (Simple n a) = line listing (Some n) right (action_text a ++ codes ";")
  statement_text listing right (Break n) = line listing (Some n) right (codes "break;")
  statement_text listing right (Call n x f es) = line listing (Some n) right (call_text x f es ++ codes ";")
  statement_text listing right (If n c t e) = line listing (Some n) right (codes "if (" ++ condition_text c ++ codes ") {") ++ block_text listing (deeper right) t ++ else_text listing right (is_empty e) (block_text listing (deeper right) e)
  statement_text listing right (While n c b) = line listing (Some n) right (codes "while (" ++ condition_text c ++ codes ") {") ++ block_text listing (deeper right) b ++ line listing None right (codes "}")

  pub block_text : Bool → List ℕ → Statements → List ℕ
  block_text listing right Ends = []
  block_text listing right (Starts s ss) = statement_text listing right s ++ block_text listing right ss
