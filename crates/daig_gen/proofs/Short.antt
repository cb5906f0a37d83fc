-- That a script has at most 128 bytes a turn.
use Rattle.std.proofs.Common.{◌≡◌, ℕ, zero, suc, ◌+◌, ◌*◌, ◌/◌, ◌%◌, ◌^◌, ◌<◌, ◌≤◌, length, codes, refl, arith}
use Rattle.std.specs.Fmt.{decimal}
use Rattle.std.proofs.lemmas.Fmt.{length-decimal-le}
use Rattle.std.proofs.lemmas.Nat.{div_below, mod_below}
use Rattle.std.proofs.Math.Nat.{mod-le}
use Rattle.daig_gen.specs.declared.turns.ScriptRequest.{ScriptRequest}
use Rattle.daig_gen.specs.declared.turns.ScriptRequest.TheVariants.{Ask, Replace, Insert}
use Rattle.daig_gen.specs.Draws.{next, pick, variable, constant}
use Rattle.daig_gen.specs.Pieces.{constant_text}
use Rattle.daig_gen.specs.Source.{pieces}
use Rattle.daig_gen.specs.Script.{turn_of, ask_text, replace_text, insert_text, lines_of, turn_lines, turn_state, turns, script_of}
use Rattle.daig_gen.proofs.Lengths.{pick_below, two, three, five, constant_short}

rest_le : (n m : ℕ) → n % m ≤ n
rest_le n m = mod-le n m

-- a draw is below 2^31
pick_small : (m s : ℕ) → pick m s < 2 ^ 31
unfolding pick next
pick_small m s =
    let drawn = (s * 6364136223846793005 + 1442695040888963407) % 2 ^ 64 in
    let low : drawn < 2 ^ 64 = mod_below (s * 6364136223846793005 + 1442695040888963407) (2 ^ 64) (omega arith) in
    let upper : drawn / 2 ^ 33 < 2 ^ 31 = div_below drawn (2 ^ 33) (2 ^ 31) (omega arith) (omega (arith, low)) in
    let rest = rest_le (drawn / 2 ^ 33) m in
    omega (arith, upper, rest)

statement_short : (n : ℕ) → n ≤ 2 ^ 31 → length (decimal n) ≤ 10
statement_short n small = length-decimal-le 10 n (omega arith) (omega (arith, small)) (omega (arith, small))

ask_short : (n : ℕ) → n ≤ 2 ^ 31 → length (ask_text n) ≤ 128
unfolding ask_text
ask_short n small =
    let all = three (codes "{\"at\":\"after ") (decimal n) (codes "\",\"do\":\"state\"}\n{\"do\":\"cost\"}\n") in
    let a : length (codes "{\"at\":\"after ") ≡ 13 = refl in
    let b : length (codes "\",\"do\":\"state\"}\n{\"do\":\"cost\"}\n") ≡ 30 = refl in
    omega (arith, all, a, b, statement_short n small)

replace_short : (n x c : ℕ) → n ≤ 2 ^ 31 → x < 4 → c < 100 → length (replace_text n x c) ≤ 128
unfolding replace_text
replace_short n x c small low few =
    let all = five (codes "{\"do\":\"replace\",\"id\":") (decimal n) (codes ",\"text\":\"") (constant_text x c) (codes "\"}\n") in
    let a : length (codes "{\"do\":\"replace\",\"id\":") ≡ 21 = refl in
    let b : length (codes ",\"text\":\"") ≡ 9 = refl in
    let d : length (codes "\"}\n") ≡ 3 = refl in
    omega (arith, all, a, b, d, statement_short n small, constant_short x c low few)

insert_short : (n : ℕ) → n ≤ 2 ^ 31 → length (insert_text n) ≤ 128
unfolding insert_text
insert_short n small =
    let all = three (codes "{\"do\":\"insert\",\"place\":\"after ") (decimal n) (codes "\",\"text\":\"skip;\"}\n") in
    let a : length (codes "{\"do\":\"insert\",\"place\":\"after ") ≡ 30 = refl in
    let b : length (codes "\",\"text\":\"skip;\"}\n") ≡ 18 = refl in
    omega (arith, all, a, b, statement_short n small)

lines_short : (turn : ScriptRequest) (n s : ℕ) → n ≤ 2 ^ 31 → length (lines_of turn n s) ≤ 128
lines_short Ask n s small = ask_short n small
lines_short Replace n s small = replace_short n (variable s) (constant (next s)) small (pick_below 4 s (omega arith)) (pick_below 100 (next s) (omega arith))
lines_short Insert n s small = insert_short n small

turn_short : (statements s : ℕ) → length (turn_lines statements s) ≤ 128
unfolding turn_lines
turn_short statements s = lines_short (turn_of (pick 4 s)) (1 + pick statements (next s)) (next (next s)) (omega (arith, pick_small statements (next s)))

turns_short : (statements n s : ℕ) → length (turns statements n s) ≤ 128 * n
turns_short statements zero s = omega arith
turns_short statements (suc n) s =
    omega (arith, two (turn_lines statements s) (turns statements n (turn_state s)), turn_short statements s, turns_short statements n (turn_state s))

pub script_short : (seed size : ℕ) → length (script_of seed size) ≤ 128 * size
unfolding script_of
script_short seed size = turns_short (pieces size seed).statements size (pieces size seed).state
