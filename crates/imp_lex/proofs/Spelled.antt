-- The tokens of a text are in order, and each is spelled by its span.
use Rattle.std.proofs.Common.{◌≡◌, ℕ, suc, ◌+◌, ◌-◌, ◌≤◌, Bool, true, false, cond, List, [], ◌∷◌, length, drop, take, refl, ap, subst, ◌∙◌, arith, length-drop}
use Rattle.std.specs.Prelude.{Option, Some, None, nat_le}
use Rattle.std.specs.List.{All, list_all}
use Rattle.std.proofs.lemmas.Bool.{and_from}
use Rattle.std.proofs.lemmas.Bool.Decides.{nat_tests}
use Rattle.std.proofs.lemmas.List.{drop-drop}
use Rattle.std.proofs.lemmas.List.Elements.{All-nil, All-cons}
use Rattle.imp_lex.specs.declared.token.Mark.{Mark}
use Rattle.imp_lex.specs.declared.token.Word.{Word}
use Rattle.imp_lex.specs.declared.token.TokenKind.{TokenKind}
use Rattle.imp_lex.specs.declared.token.TokenKind.TheVariants as k
use Rattle.imp_lex.specs.declared.token.Token.{Token}
use Rattle.imp_lex.specs.declared.error.Fault.{Fault}
use Rattle.imp_lex.specs.declared.error.Fault.TheVariants as f
use Rattle.imp_lex.specs.declared.front.Front.{Front}
use Rattle.imp_lex.specs.declared.front.Front.TheVariants as p
use Rattle.base_values.specs.Numbers.{greatest}
use Rattle.imp_lex.specs.Numbers.{value_on}
use Rattle.imp_lex.specs.Kinds.{reserved_word, word_or_name, word_kind, number_kind, mark_of, most_name_bytes}
use Rattle.imp_lex.specs.Front.{front_of, taken, longest, mark_front, run, is_blank, is_letter, is_digit, is_word, begins_comment, IsBounded}
use Rattle.imp_lex.specs.Lexing.{token_at, IsLexed, done, skip, word, AreInOrder, Spells, IsSpelled}
use Rattle.imp_lex.proofs.Fronts.{front_bounded}

-- what a token at the front takes spells it
abbrev pub IsFrontSpelled : List ℕ → Front → Type 0
IsFrontSpelled text p.End = Unit {0}
IsFrontSpelled text (p.Skip n) = Unit {0}
IsFrontSpelled text (p.Takes n kind) = Spells (take n text) kind
IsFrontSpelled text (p.Bad fault) = Unit {0}

-- what the token is, if there is one, the bytes spell
abbrev pub IsKindSpelled : List ℕ → Option TokenKind → Type 0
IsKindSpelled bytes None = Unit {0}
IsKindSpelled bytes (Some kind) = Spells bytes kind

-- the bytes of a run all pass the test
run_all_by : (is : ℕ → Bool) (b : ℕ) (bs : List ℕ) → list_all is (take (run is bs) bs) ≡ true → (v : Bool) → is b ≡ v → list_all is (take (cond v (suc (run is bs)) 0) (b ∷ bs)) ≡ true
run_all_by is b bs rest true e = and_from (is b) (list_all is (take (run is bs) bs)) e rest
run_all_by is b bs rest false e = refl

run_all : (is : ℕ → Bool) (bs : List ℕ) → list_all is (take (run is bs) bs) ≡ true
run_all is [] = refl
run_all is (b ∷ bs) = run_all_by is b bs (run_all is bs) (is b) refl

-- a byte, and the bytes of a run after it
run_behind : (is : ℕ → Bool) (b : ℕ) (bs : List ℕ) → b ∷ take (run is bs) bs ≡ take (1 + run is bs) (b ∷ bs)
run_behind is b bs =
    let e : suc (run is bs) ≡ 1 + run is bs = omega arith in
    ap (λ (n : ℕ). take n (b ∷ bs)) e

name_spelled : (b : ℕ) (tail : List ℕ) → is_letter b ≡ true → list_all is_word tail ≡ true → reserved_word (b ∷ tail) ≡ None → (short : Bool) → nat_le (length (b ∷ tail)) most_name_bytes ≡ short → IsKindSpelled (b ∷ tail) (cond short (Some (k.Name (b ∷ tail))) None)
name_spelled b tail letter all other true e = (refl, (letter, all, other, grind (arith, nat_tests)))
name_spelled b tail letter all other false e = tt

word_spelled : (b : ℕ) (tail : List ℕ) → is_letter b ≡ true → list_all is_word tail ≡ true → (o : Option Word) → reserved_word (b ∷ tail) ≡ o → IsKindSpelled (b ∷ tail) (word_or_name o (b ∷ tail))
word_spelled b tail letter all None e = name_spelled b tail letter all e (nat_le (length (b ∷ tail)) most_name_bytes) refl
word_spelled b tail letter all (Some reserved) e = e

word_kind_spelled : (b : ℕ) (tail : List ℕ) → is_letter b ≡ true → list_all is_word tail ≡ true → IsKindSpelled (b ∷ tail) (word_kind (b ∷ tail))
unfolding word_kind
word_kind_spelled b tail letter all = word_spelled b tail letter all (reserved_word (b ∷ tail)) refl

number_spelled : (bytes : List ℕ) → list_all is_digit bytes ≡ true → (small : Bool) → IsKindSpelled bytes (cond small (Some (k.Number (value_on 0 bytes))) None)
number_spelled bytes all true = (all, refl)
number_spelled bytes all false = tt

number_kind_spelled : (bytes : List ℕ) → list_all is_digit bytes ≡ true → IsKindSpelled bytes (number_kind bytes)
unfolding number_kind
number_kind_spelled bytes all = number_spelled bytes all (nat_le (value_on 0 bytes) greatest)

word_at_front : (b : ℕ) (rest : List ℕ) → is_letter b ≡ true → IsKindSpelled (take (1 + run is_word rest) (b ∷ rest)) (word_kind (take (1 + run is_word rest) (b ∷ rest)))
word_at_front b rest letter = subst (λ (bytes : List ℕ). IsKindSpelled bytes (word_kind bytes)) (run_behind is_word b rest) (word_kind_spelled b (take (run is_word rest) rest) letter (run_all is_word rest))

number_at_front : (b : ℕ) (rest : List ℕ) → is_digit b ≡ true → IsKindSpelled (take (1 + run is_digit rest) (b ∷ rest)) (number_kind (take (1 + run is_digit rest) (b ∷ rest)))
number_at_front b rest digit = subst (λ (bytes : List ℕ). IsKindSpelled bytes (number_kind bytes)) (run_behind is_digit b rest) (number_kind_spelled (b ∷ take (run is_digit rest) rest) (and_from (is_digit b) (list_all is_digit (take (run is_digit rest) rest)) digit (run_all is_digit rest)))

taken_spelled : (n : ℕ) (text : List ℕ) (o : Option TokenKind) (fault : Fault) → IsKindSpelled (take n text) o → IsFrontSpelled text (taken n o fault)
taken_spelled n text None fault h = tt
taken_spelled n text (Some kind) fault h = h

if_spelled : (text : List ℕ) (b : Bool) (x y : Front) → (b ≡ true → IsFrontSpelled text x) → IsFrontSpelled text y → IsFrontSpelled text (cond b x y)
if_spelled text true x y h k = h refl
if_spelled text false x y h k = k

short_spelled : (b : ℕ) (rest : List ℕ) (short : Option Mark) → mark_of (b ∷ []) ≡ short → IsFrontSpelled (b ∷ rest) (longest None short)
short_spelled b rest None e = tt
short_spelled b rest (Some mark) e = e

long_spelled : (b c : ℕ) (rest : List ℕ) (long : Option Mark) → mark_of (b ∷ c ∷ []) ≡ long → IsFrontSpelled (b ∷ c ∷ rest) (longest long (mark_of (b ∷ [])))
long_spelled b c rest None e = short_spelled b (c ∷ rest) (mark_of (b ∷ [])) refl
long_spelled b c rest (Some mark) e = e

mark_spelled : (b : ℕ) (rest : List ℕ) → IsFrontSpelled (b ∷ rest) (mark_front b rest)
mark_spelled b [] = short_spelled b [] (mark_of (b ∷ [])) refl
mark_spelled b (c ∷ rest) = long_spelled b c rest (mark_of (b ∷ c ∷ [])) refl

front_spelled : (text : List ℕ) → IsFrontSpelled text (front_of text)
unfolding front_of
front_spelled [] = tt
front_spelled (b ∷ rest) =
    if_spelled (b ∷ rest) (is_blank b) _ _ (λ _. tt)
    (if_spelled (b ∷ rest) (begins_comment b rest) _ _ (λ _. tt)
    (if_spelled (b ∷ rest) (is_letter b) _ _ (λ letter. taken_spelled (1 + run is_word rest) (b ∷ rest) (word_kind (take (1 + run is_word rest) (b ∷ rest))) f.NameTooLong (word_at_front b rest letter))
    (if_spelled (b ∷ rest) (is_digit b) _ _ (λ digit. taken_spelled (1 + run is_digit rest) (b ∷ rest) (number_kind (take (1 + run is_digit rest) (b ∷ rest))) f.NumberTooBig (number_at_front b rest digit))
    (mark_spelled b rest))))

-- ---- order

later_in_order : (from to most : ℕ) (tokens : List Token) → from ≤ to → AreInOrder to most tokens → AreInOrder from most tokens
later_in_order from to most [] le h = tt
later_in_order from to most (token ∷ tokens) le h = (omega (arith, h.0), h.1, h.2, h.3)

pub lexed_in_order : (at most : ℕ) (text : List ℕ) (tokens : List Token) → most ≡ at + length text → IsLexed at text tokens → AreInOrder at most tokens
lexed_in_order at most text tokens e (done is) = tt
lexed_in_order at most text tokens e (skip {n = n} is lexed) =
    let bounded = subst (IsBounded (length text)) is (front_bounded text) in
    later_in_order at (at + n) most tokens (omega arith) (lexed_in_order (at + n) most (drop n text) tokens (omega (arith, e, length-drop n text, bounded.1)) lexed)
lexed_in_order at most text tokens e (word {n = n} {tokens = more} is lexed) =
    let bounded = subst (IsBounded (length text)) is (front_bounded text) in
    (omega arith, omega (arith, bounded.0), omega (arith, e, bounded.1), lexed_in_order (at + n) most (drop n text) more (omega (arith, e, length-drop n text, bounded.1)) lexed)

-- ---- spelling

pub lexed_spelled : (whole : List ℕ) (at : ℕ) (text : List ℕ) (tokens : List Token) → text ≡ drop at whole → IsLexed at text tokens → All (IsSpelled whole) tokens
lexed_spelled whole at text tokens e (done is) = All-nil (IsSpelled whole)
lexed_spelled whole at text tokens e (skip {n = n} is lexed) = lexed_spelled whole (at + n) (drop n text) tokens (ap (drop n) e ∙ drop-drop n at whole) lexed
lexed_spelled whole at text tokens e (word {n = n} {kind = kind} {tokens = more} is lexed) =
    let spelled : Spells (take n text) kind = subst (IsFrontSpelled text) is (front_spelled text) in
    let count : n ≡ (at + n) - at = omega arith in
    let here : Spells (take ((at + n) - at) (drop at whole)) kind = subst (λ (m : ℕ). Spells (take m (drop at whole)) kind) count (subst (λ (rest : List ℕ). Spells (take n rest) kind) e spelled) in
    All-cons (IsSpelled whole) (token_at at n kind) more here (lexed_spelled whole (at + n) (drop n text) more (ap (drop n) e ∙ drop-drop n at whole) lexed)
