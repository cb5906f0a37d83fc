-- The value of digits.
use Rattle.std.proofs.Common.{◌≡◌, ℕ, ◌+◌, ◌-◌, ◌*◌, ◌/◌, ◌≤◌, ◌<◌, false, cond, List, [], ◌∷◌, length, drop, refl, sym, ap, ◌∙◌, arith, get_or, add-one, drop-cons}
use Rattle.std.proofs.lemmas.Bool.Decides.{nat_tests}
use Rattle.std.specs.Prelude.{Some, None, nat_le}
use Rattle.imp_lex.specs.declared.token.TokenKind.TheVariants as k
use Rattle.base_values.specs.Numbers.{greatest}
use Rattle.imp_lex.specs.Numbers.{value_on}
use Rattle.imp_lex.specs.Kinds.{number_kind}

-- what digits write is no less than what stands before them
pub value_grows : (so_far : ℕ) (ds : List ℕ) → so_far ≤ value_on so_far ds
value_grows so_far [] = omega arith
value_grows so_far (d ∷ ds) = omega (arith, value_grows (so_far * 10 + (d - 48)) ds)

-- one digit more is too much
pub too_great : (ds : List ℕ) (i value digit : ℕ) → i < length ds → value_on value (drop i ds) ≡ value_on 0 ds → digit ≡ get_or ds i 0 - 48 → (greatest - digit) / 10 < value → number_kind ds ≡ None
unfolding number_kind
too_great ds i value digit within so_far is great =
    let split : drop i ds ≡ get_or ds i 0 ∷ drop (i + 1) ds = rw (add-one, drop-cons ds i 0) refl in
    let all : value_on 0 ds ≡ value_on (value * 10 + (get_or ds i 0 - 48)) (drop (i + 1) ds) = sym so_far ∙ ap (value_on value) split in
    let more : greatest < value_on 0 ds = omega (arith, value_grows (value * 10 + (get_or ds i 0 - 48)) (drop (i + 1) ds)) in
    let no : nat_le (value_on 0 ds) greatest ≡ false = grind (arith, nat_tests) in
    ap (λ b. cond b (Some (k.Number (value_on 0 ds))) None) no
