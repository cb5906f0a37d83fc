-- That a generated source has at most 64 bytes a piece.
use Rattle.std.proofs.Common.{◌≡◌, ℕ, zero, suc, ◌+◌, ◌*◌, ◌<◌, ◌≤◌, ◌++◌, length, codes, refl, arith}
use Rattle.std.specs.Fmt.{decimal}
use Rattle.daig_gen.specs.declared.pieces.PieceKind.{PieceKind}
use Rattle.daig_gen.specs.declared.pieces.PieceKind.TheVariants.{Constant, Sum, Difference, While, If, Array, Input, Node}
use Rattle.daig_gen.specs.Draws.{next, pick, variable, constant}
use Rattle.daig_gen.specs.Pieces.{kind_of, variable_text, constant_text, copy_text, sum_text, difference_text, while_text, if_text, array_text, input_text, node_text}
use Rattle.daig_gen.specs.Source.{head, piece, pieces, source_of, text_of}
use Rattle.daig_gen.proofs.Lengths.{pick_below, two, three, four, five, number_short, variable_short, constant_short}

copy_short : (x y : ℕ) → x < 4 → y < 4 → length (copy_text x y) ≤ 10
unfolding copy_text
copy_short x y low_x low_y =
    let l1 : length (codes " = ") ≡ 3 = refl in
    let l3 : length (codes ";") ≡ 1 = refl in
    let all = four (variable_text x) (codes " = ") (variable_text y) (codes ";") in
    omega (arith, all, variable_short x low_x, l1, variable_short y low_y, l3)

sum_short : (x y c : ℕ) → x < 4 → y < 4 → c < 100 → length (sum_text x y c) ≤ 15
unfolding sum_text
sum_short x y c low_x low_y low_c =
    let l1 : length (codes " = ") ≡ 3 = refl in
    let l3 : length (codes " + ") ≡ 3 = refl in
    let l5 : length (codes ";") ≡ 1 = refl in
    let most = five (variable_text x) (codes " = ") (variable_text y) (codes " + ") (decimal c) in
    let all = two (variable_text x ++ codes " = " ++ variable_text y ++ codes " + " ++ decimal c) (codes ";") in
    omega (arith, most, all, variable_short x low_x, l1, variable_short y low_y, l3, number_short c low_c, l5)

difference_short : (x y z : ℕ) → x < 4 → y < 4 → z < 4 → length (difference_text x y z) ≤ 16
unfolding difference_text
difference_short x y z low_x low_y low_z =
    let l1 : length (codes " = ") ≡ 3 = refl in
    let l3 : length (codes " - ") ≡ 3 = refl in
    let l5 : length (codes ";") ≡ 1 = refl in
    let most = five (variable_text x) (codes " = ") (variable_text y) (codes " - ") (variable_text z) in
    let all = two (variable_text x ++ codes " = " ++ variable_text y ++ codes " - " ++ variable_text z) (codes ";") in
    omega (arith, most, all, variable_short x low_x, l1, variable_short y low_y, l3, variable_short z low_z, l5)

while_short : (x c : ℕ) → x < 4 → c < 100 → length (while_text x c) ≤ 36
unfolding while_text
while_short x c low_x low_c =
    let l0 : length (codes "while (") ≡ 7 = refl in
    let l2 : length (codes " < ") ≡ 3 = refl in
    let l4 : length (codes ") { ") ≡ 4 = refl in
    let l6 : length (codes " }") ≡ 2 = refl in
    let front = five (codes "while (") (variable_text x) (codes " < ") (decimal c) (codes ") { ") in
    let all = three (codes "while (" ++ variable_text x ++ codes " < " ++ decimal c ++ codes ") { ") (sum_text x x 1) (codes " }") in
    omega (arith, front, all, l0, variable_short x low_x, l2, number_short c low_c, l4, sum_short x x 1 low_x low_x (omega arith), l6)

if_short : (x y c : ℕ) → x < 4 → y < 4 → c < 100 → length (if_text x y c) ≤ 50
unfolding if_text
if_short x y c low_x low_y low_c =
    let l0 : length (codes "if (") ≡ 4 = refl in
    let l2 : length (codes " < ") ≡ 3 = refl in
    let l4 : length (codes ") { ") ≡ 4 = refl in
    let l6 : length (codes " } else { ") ≡ 10 = refl in
    let l8 : length (codes " }") ≡ 2 = refl in
    let front = five (codes "if (") (variable_text x) (codes " < ") (variable_text y) (codes ") { ") in
    let all = five (codes "if (" ++ variable_text x ++ codes " < " ++ variable_text y ++ codes ") { ") (copy_text x y) (codes " } else { ") (constant_text y c) (codes " }") in
    omega (arith, front, all, l0, variable_short x low_x, l2, variable_short y low_y, l4, copy_short x y low_x low_y, l6, constant_short y c low_y low_c, l8)

array_short : (c : ℕ) → c < 100 → length (array_text c) ≤ 13
unfolding array_text
array_short c low_c =
    let l0 : length (codes "a = array ") ≡ 10 = refl in
    let l2 : length (codes ";") ≡ 1 = refl in
    let all = three (codes "a = array ") (decimal c) (codes ";") in
    omega (arith, all, l0, number_short c low_c, l2)

input_short : (x : ℕ) → x < 4 → length (input_text x) ≤ 12
unfolding input_text
input_short x low_x =
    let l1 : length (codes " = input;") ≡ 9 = refl in
    let all = two (variable_text x) (codes " = input;") in
    omega (arith, all, variable_short x low_x, l1)

node_short : length node_text ≤ 62
unfolding node_text
node_short = let l : length (codes "p = new; p.next = q; q = p;") ≡ 27 = refl in omega (arith, l)

text_short : (kind : PieceKind) (s : ℕ) → length (text_of kind s) ≤ 62
text_short Constant s = let e = constant_short (variable s) (constant (next s)) (pick_below 4 s (omega arith)) (pick_below 100 (next s) (omega arith)) in omega (arith, e)
text_short Sum s = let e = sum_short (variable s) (variable (next s)) (constant (next (next s))) (pick_below 4 s (omega arith)) (pick_below 4 (next s) (omega arith)) (pick_below 100 (next (next s)) (omega arith)) in omega (arith, e)
text_short Difference s = let e = difference_short (variable s) (variable (next s)) (variable (next (next s))) (pick_below 4 s (omega arith)) (pick_below 4 (next s) (omega arith)) (pick_below 4 (next (next s)) (omega arith)) in omega (arith, e)
text_short While s = let e = while_short (variable s) (constant (next s)) (pick_below 4 s (omega arith)) (pick_below 100 (next s) (omega arith)) in omega (arith, e)
text_short If s = let e = if_short (variable s) (variable (next s)) (constant (next (next s))) (pick_below 4 s (omega arith)) (pick_below 4 (next s) (omega arith)) (pick_below 100 (next (next s)) (omega arith)) in omega (arith, e)
text_short Array s = let e = array_short (constant s) (pick_below 100 s (omega arith)) in omega (arith, e)
text_short Input s = let e = input_short (variable s) (pick_below 4 s (omega arith)) in omega (arith, e)
text_short Node s = node_short

piece_short : (s : ℕ) → length (piece s).bytes ≤ 64
unfolding piece
piece_short s =
    let all = two (text_of (kind_of (pick 8 s)) (next s)) (codes " ") in
    let a : length (codes " ") ≡ 1 = refl in
    let b = text_short (kind_of (pick 8 s)) (next s) in
    omega (arith, all, a, b)

pieces_short : (n s : ℕ) → length (pieces n s).bytes ≤ 64 * n
pieces_short zero s = omega arith
pieces_short (suc n) s =
    let all = two (piece s).bytes (pieces n (piece s).state).bytes in
    omega (arith, all, piece_short s, pieces_short n (piece s).state)

pub source_short : (seed size : ℕ) → length (source_of seed size) ≤ 64 * size + 108
unfolding source_of head
source_short seed size =
    let all = three (codes "proc main() { var v0: int; var v1: int; var v2: int; var v3: int; var a: array; var p: list; var q: list; ") (pieces size seed).bytes (codes "}\n") in
    let a : length (codes "proc main() { var v0: int; var v1: int; var v2: int; var v3: int; var a: array; var p: list; var q: list; ") ≡ 106 = refl in
    let b : length (codes "}\n") ≡ 2 = refl in
    omega (arith, all, a, b, pieces_short size seed)
