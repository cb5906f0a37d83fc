-- How long the parts of generated texts are.
use Rattle.std.proofs.Common.{◌≡◌, ℕ, ◌+◌, ◌*◌, ◌/◌, ◌%◌, ◌^◌, ◌<◌, ◌≤◌, List, ◌++◌, length, length-append, codes, refl, arith}
use Rattle.std.specs.Fmt.{decimal}
use Rattle.std.proofs.lemmas.Fmt.{length-decimal-le}
use Rattle.std.proofs.lemmas.Nat.{mod_below}
use Rattle.daig_gen.specs.Draws.{next, pick}
use Rattle.daig_gen.specs.Pieces.{variable_text, constant_text}

-- what is drawn is below its bound
pub pick_below : (m s : ℕ) → 0 < m → pick m s < m
unfolding pick next
pick_below m s some = mod_below ((s * 6364136223846793005 + 1442695040888963407) % 2 ^ 64 / 2 ^ 33) m some

-- a text of two, of three, of four, of five parts
pub two : (a b : List ℕ) → length (a ++ b) ≡ length a + length b
two a b = length-append a b

pub three : (a b c : List ℕ) → length (a ++ b ++ c) ≡ length a + length b + length c
three a b c = rw (length-append (a ++ b) c, length-append a b) refl

pub four : (a b c d : List ℕ) → length (a ++ b ++ c ++ d) ≡ length a + length b + length c + length d
four a b c d = rw (length-append (a ++ b ++ c) d, three a b c) refl

pub five : (a b c d e : List ℕ) → length (a ++ b ++ c ++ d ++ e) ≡ length a + length b + length c + length d + length e
five a b c d e = rw (length-append (a ++ b ++ c ++ d) e, four a b c d) refl

pub number_short : (n : ℕ) → n < 100 → length (decimal n) ≤ 2
number_short n small = length-decimal-le 2 n (omega arith) (omega (arith, small)) (omega (arith, small))

pub variable_short : (x : ℕ) → x < 4 → length (variable_text x) ≤ 3
unfolding variable_text
variable_short x low =
    let all = two (codes "v") (decimal x) in
    let a : length (codes "v") ≡ 1 = refl in
    omega (arith, all, a, number_short x (omega (arith, low)))

pub constant_short : (x c : ℕ) → x < 4 → c < 100 → length (constant_text x c) ≤ 9
unfolding constant_text
constant_short x c low small =
    let all = four (variable_text x) (codes " = ") (decimal c) (codes ";") in
    let a : length (codes " = ") ≡ 3 = refl in
    let b : length (codes ";") ≡ 1 = refl in
    omega (arith, all, a, b, variable_short x low, number_short c small)
