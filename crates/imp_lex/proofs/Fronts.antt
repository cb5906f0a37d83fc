-- What stands at the front takes no more than there is, and is spelled as it says.
use Rattle.std.proofs.Common.{ℕ, suc, ◌+◌, ◌≤◌, Bool, true, false, cond, List, [], ◌∷◌, length, take, refl, arith}
use Rattle.std.specs.Prelude.{Option, Some, None}
use Rattle.imp_lex.specs.declared.token.Mark.{Mark}
use Rattle.imp_lex.specs.declared.token.TokenKind.{TokenKind}
use Rattle.imp_lex.specs.declared.error.Fault.{Fault}
use Rattle.imp_lex.specs.declared.error.Fault.TheVariants as f
use Rattle.imp_lex.specs.declared.front.Front.{Front}
use Rattle.imp_lex.specs.Kinds.{word_kind, number_kind, mark_of}
use Rattle.imp_lex.specs.Front.{front_of, taken, longest, mark_front, run, is_blank, is_letter, is_digit, is_word, in_line, begins_comment, IsBounded}

run_within : (is : ℕ → Bool) (bs : List ℕ) → run is bs ≤ length bs
run_within is [] = omega arith
run_within is (b ∷ bs) = elim (is b) as (λ v. cond v (suc (run is bs)) 0 ≤ suc (length bs)) [ true ↦ omega (arith, run_within is bs) | false ↦ omega arith ]

taken_bounded : (n most : ℕ) (o : Option TokenKind) (fault : Fault) → 1 ≤ n → n ≤ most → IsBounded most (taken n o fault)
taken_bounded n most None fault some within = tt
taken_bounded n most (Some kind) fault some within = (some, within)

if_bounded : (most : ℕ) (b : Bool) (x y : Front) → IsBounded most x → IsBounded most y → IsBounded most (cond b x y)
if_bounded most true x y h k = h
if_bounded most false x y h k = k

short_bounded : (most : ℕ) (short : Option Mark) → IsBounded (suc most) (longest None short)
short_bounded most None = tt
short_bounded most (Some mark) = (omega arith, omega arith)

long_bounded : (most : ℕ) (long short : Option Mark) → IsBounded (suc (suc most)) (longest long short)
long_bounded most None short = short_bounded (suc most) short
long_bounded most (Some mark) short = (omega arith, omega arith)

mark_bounded : (b : ℕ) (rest : List ℕ) → IsBounded (suc (length rest)) (mark_front b rest)
mark_bounded b [] = short_bounded 0 (mark_of (b ∷ []))
mark_bounded b (c ∷ rest) = long_bounded (length rest) (mark_of (b ∷ c ∷ [])) (mark_of (b ∷ []))

pub front_bounded : (text : List ℕ) → IsBounded (length text) (front_of text)
unfolding front_of
front_bounded [] = refl
front_bounded (b ∷ rest) =
    if_bounded (suc (length rest)) (is_blank b) _ _ (omega arith, omega arith)
    (if_bounded (suc (length rest)) (begins_comment b rest) _ _ (omega arith, omega (arith, run_within in_line rest))
    (if_bounded (suc (length rest)) (is_letter b) _ _ (taken_bounded (1 + run is_word rest) (suc (length rest)) (word_kind (take (1 + run is_word rest) (b ∷ rest))) f.NameTooLong (omega arith) (omega (arith, run_within is_word rest)))
    (if_bounded (suc (length rest)) (is_digit b) _ _ (taken_bounded (1 + run is_digit rest) (suc (length rest)) (number_kind (take (1 + run is_digit rest) (b ∷ rest))) f.NumberTooBig (omega arith) (omega (arith, run_within is_digit rest)))
    (mark_bounded b rest))))
