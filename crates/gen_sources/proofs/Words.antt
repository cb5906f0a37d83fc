-- The variables and the numbers of generated sources.
use Rattle.std.proofs.Common.{◌≡◌, ◌<◌, ◌≤◌, ◌+◌, ◌/◌, ◌^◌, ℕ, zero, suc, [], ◌∷◌, ◌++◌, Some, true, refl, ap, ◌∙◌, arith}
use Rattle.std.specs.Prelude.{codes}
use Rattle.std.proofs.lemmas.Fmt.{decimal_digit}
use Rattle.imp_lex.specs.Kinds.{reserved_word}
use Rattle.std.proofs.lemmas.Nat.{mod_below}
use Rattle.imp_syntax.specs.declared.words.VariableKind.TheVariants.{Int}
use Rattle.imp_lex.specs.Names.{is_name}
use Rattle.base_values.specs.Numbers.{greatest}
use Rattle.imp_check.specs.Names.{kind_of}
use Rattle.daig_gen.specs.Draws.{next, pick, variable, constant}
use Rattle.daig_gen.specs.Pieces.{variable_text}
use Rattle.gen_sources.specs.Trees.{declarations}

pub variable_below : (s : ℕ) → variable s < 4
unfolding pick
variable_below s = mod_below (next s / 2 ^ 33) 4 (omega arith)

pub constant_below : (s : ℕ) → constant s ≤ greatest
unfolding pick
constant_below s = let h = mod_below (next s / 2 ^ 33) 100 (omega arith) in omega arith

-- what holds of v0 to v3 holds of each variable
pub of_four : (P : ℕ → Type 0) → P 0 → P 1 → P 2 → P 3 → (x : ℕ) → x < 4 → P x
of_four P a b c d zero h = a
of_four P a b c d (suc zero) h = b
of_four P a b c d (suc (suc zero)) h = c
of_four P a b c d (suc (suc (suc zero))) h = d
of_four P a b c d (suc (suc (suc (suc x)))) h = absurd (omega arith)

by_digit : (x : ℕ) → x < 4 → variable_text x ≡ 118 ∷ (48 + x) ∷ []
unfolding variable_text
by_digit x h = ap (λ d. codes "v" ++ d) (decimal_digit x (omega arith))

pub is_variable : (x : ℕ) → x < 4 → is_name (variable_text x) ≡ true
unfolding is_name reserved_word
is_variable x h = ap is_name (by_digit x h) ∙ of_four (λ x. is_name (118 ∷ (48 + x) ∷ []) ≡ true) refl refl refl refl x h

pub is_declared : (x : ℕ) → x < 4 → kind_of declarations (variable_text x) ≡ Some Int
is_declared x h = ap (kind_of declarations) (by_digit x h) ∙ of_four (λ x. kind_of declarations (118 ∷ (48 + x) ∷ []) ≡ Some Int) refl refl refl refl x h

-- the other names
pub array_named : is_name (codes "a") ≡ true
unfolding is_name reserved_word
array_named = refl

pub first_list : is_name (codes "p") ≡ true
unfolding is_name reserved_word
first_list = refl

pub second_list : is_name (codes "q") ≡ true
unfolding is_name reserved_word
second_list = refl

pub main_named : is_name (codes "main") ≡ true
unfolding is_name reserved_word
main_named = refl

pub v0_named : is_name (codes "v0") ≡ true
unfolding is_name reserved_word
v0_named = refl

pub v1_named : is_name (codes "v1") ≡ true
unfolding is_name reserved_word
v1_named = refl

pub v2_named : is_name (codes "v2") ≡ true
unfolding is_name reserved_word
v2_named = refl

pub v3_named : is_name (codes "v3") ≡ true
unfolding is_name reserved_word
v3_named = refl
