-- The pieces that a source is made of, as text. The variables are v0 to v3, and x, y, z their numbers.
use Rattle.std.specs.Prelude.{ℕ, List, ◌++◌, codes, ◌==◌, if◌then◌else◌}
use Rattle.std.specs.Fmt.{decimal}
use Rattle.daig_gen.specs.declared.pieces.PieceKind.{PieceKind}
use Rattle.daig_gen.specs.declared.pieces.PieceKind.TheVariants.{Constant, Sum, Difference, While, If, Array, Input, Node}

-- which kind of piece the numbers below 8 stand for
unfoldable pub kind_of : ℕ → PieceKind
kind_of k =
    if k == 0 then Constant else (if k == 1 then Sum else (if k == 2 then Difference else (if k == 3 then While
    else (if k == 4 then If else (if k == 5 then Array else (if k == 6 then Input else Node))))))

-- `vX`
unfoldable pub variable_text : ℕ → List ℕ
variable_text x = codes "v" ++ decimal x

-- `vX = C;`
unfoldable pub constant_text : ℕ → ℕ → List ℕ
constant_text x c = variable_text x ++ codes " = " ++ decimal c ++ codes ";"

-- `vX = vY;`
unfoldable pub copy_text : ℕ → ℕ → List ℕ
copy_text x y = variable_text x ++ codes " = " ++ variable_text y ++ codes ";"

-- `vX = vY + C;`
unfoldable pub sum_text : ℕ → ℕ → ℕ → List ℕ
sum_text x y c = variable_text x ++ codes " = " ++ variable_text y ++ codes " + " ++ decimal c ++ codes ";"

-- `vX = vY - vZ;`
unfoldable pub difference_text : ℕ → ℕ → ℕ → List ℕ
difference_text x y z = variable_text x ++ codes " = " ++ variable_text y ++ codes " - " ++ variable_text z ++ codes ";"

-- `while (vX < C) { vX = vX + 1; }`
unfoldable pub while_text : ℕ → ℕ → List ℕ
while_text x c = codes "while (" ++ variable_text x ++ codes " < " ++ decimal c ++ codes ") { " ++ sum_text x x 1 ++ codes " }"

-- `if (vX < vY) { vX = vY; } else { vY = C; }`
unfoldable pub if_text : ℕ → ℕ → ℕ → List ℕ
if_text x y c =
    codes "if (" ++ variable_text x ++ codes " < " ++ variable_text y ++ codes ") { " ++ copy_text x y
    ++ codes " } else { " ++ constant_text y c ++ codes " }"

-- `a = array C;`
unfoldable pub array_text : ℕ → List ℕ
array_text c = codes "a = array " ++ decimal c ++ codes ";"

-- `vX = input;`
unfoldable pub input_text : ℕ → List ℕ
input_text x = variable_text x ++ codes " = input;"

-- a new node is put before the list q
unfoldable pub node_text : List ℕ
node_text = codes "p = new; p.next = q; q = p;"

-- how many statements a piece has, those within its braces among them
abbrev pub statements_of : PieceKind → ℕ
statements_of Constant = 1
statements_of Sum = 1
statements_of Difference = 1
statements_of While = 2
statements_of If = 3
statements_of Array = 1
statements_of Input = 1
statements_of Node = 3
