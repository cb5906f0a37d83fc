-- The names and numbers of a text are the language's.
use Rattle.std.proofs.Common.{◌≡◌, ℕ, suc, ◌+◌, ◌≤◌, Bool, true, false, cond, List, [], ◌∷◌, ◌++◌, length, take, refl, sym, ap, subst, ◌∙◌, arith}
use Rattle.std.specs.Prelude.{Option, Some, None, nat_le, ◌&&◌, ◌==◌, is_none}
use Rattle.std.proofs.lemmas.Bool.Decides.{nat_tests}
use Rattle.imp_lex.specs.declared.token.Mark.{Mark}
use Rattle.imp_lex.specs.declared.token.Word.{Word}
use Rattle.imp_lex.specs.declared.token.Token.{Token}
use Rattle.imp_lex.specs.declared.token.TokenKind.{TokenKind}
use Rattle.imp_lex.specs.declared.token.TokenKind.TheVariants as k
use Rattle.base_values.specs.Numbers.{greatest}
use Rattle.imp_lex.specs.Numbers.{value_on}
use Rattle.imp_lex.specs.Names.{is_name}
use Rattle.imp_lex.specs.Kinds.{reserved_word, word_or_name, word_kind, number_kind, mark_of, most_name_bytes}
use Rattle.imp_lex.specs.Front.{front_of, taken, longest, run, is_blank, is_letter, is_digit, is_word, begins_comment}
use Rattle.imp_lex.specs.Lexing.{IsLexed, done, skip, word, IsFaulty, here}
use Rattle.imp_parse.specs.Kinds.{kinds}
use Rattle.base_values.proofs.Cases.{equal_test}

-- a name or a number of the language, or another token
abbrev pub IsGood : TokenKind → Type 0
IsGood (k.Name x) = is_name x ≡ true
IsGood (k.Number n) = n ≤ greatest
IsGood (k.Word x) = Unit {0}
IsGood (k.Mark x) = Unit {0}

abbrev pub AreGood : List TokenKind → Type 0
AreGood [] = Unit {0}
AreGood (t ∷ ts) = IsGood t × AreGood ts

pub good_front : (v w : List TokenKind) → AreGood (v ++ w) → AreGood v
good_front [] w h = tt
good_front (t ∷ v) w h = (h.0, good_front v w h.1)

pub good_behind : (v w : List TokenKind) → AreGood (v ++ w) → AreGood w
good_behind [] w h = h
good_behind (t ∷ v) w h = good_behind v w h.1

-- ---- what stands at the front

-- the types of what front_of gives and of the fault that taken is told, which have no name here
abbrev result_of : {A B : Type 0} → (A → B) → Type 0
result_of {B = B} f = B

abbrev third_of : {A B C D : Type 0} → (A → B → C → D) → Type 0
third_of {C = C} f = C

abbrev Front : Type 0
Front = result_of front_of

abbrev Fault : Type 0
Fault = third_of taken

-- some fault or other, that of a lone dollar
fault_in : (at : ℕ) (text : List ℕ) (fault : Fault) (place : ℕ) → IsFaulty at text fault place → Fault
fault_in at text fault place h = fault

some_fault : Fault
unfolding front_of mark_of
some_fault = fault_in 0 (36 ∷ []) _ 0 (here {at = 0} {text = 36 ∷ []} refl)

-- what is taken is good
abbrev TakesGood : Front → Type 0
TakesGood front = (n : ℕ) (kind : TokenKind) (fault : Fault) → front ≡ taken n (Some kind) fault → IsGood kind

taken_good : (n : ℕ) (o : Option TokenKind) (fault : Fault) → ((kind : TokenKind) → o ≡ Some kind → IsGood kind) → TakesGood (taken n o fault)
taken_good n None fault h i kind other e = absurd cc
taken_good n (Some found) fault h i kind other e = h kind cc

if_good : (b : Bool) (x y : Front) → (b ≡ true → TakesGood x) → TakesGood y → TakesGood (cond b x y)
if_good true x y h g = h refl
if_good false x y h g = g

mark_good : (mark : Mark) (kind : TokenKind) → k.Mark mark ≡ kind → IsGood kind
mark_good mark kind e = subst IsGood e tt

longest_good : (long short : Option Mark) → TakesGood (longest long short)
longest_good (Some long) short i kind fault e = mark_good long kind cc
longest_good None (Some short) i kind fault e = mark_good short kind cc
longest_good None None i kind fault e = absurd cc

run_of_taken_by : (is : ℕ → Bool) (b : ℕ) (bs : List ℕ) (v : Bool) → is b ≡ v → run is (take (run is bs) bs) ≡ length (take (run is bs) bs) → run is (take (cond v (suc (run is bs)) 0) (b ∷ bs)) ≡ length (take (cond v (suc (run is bs)) 0) (b ∷ bs))
run_of_taken_by is b bs true e h = rw (e, h) refl
run_of_taken_by is b bs false e h = refl

run_of_taken : (is : ℕ → Bool) (bs : List ℕ) → run is (take (run is bs) bs) ≡ length (take (run is bs) bs)
run_of_taken is [] = refl
run_of_taken is (b ∷ bs) = run_of_taken_by is b bs (is b) refl (run_of_taken is bs)

all_four : (a b c d : Bool) → a ≡ true → b ≡ true → c ≡ true → d ≡ true → (((a && b) && c) && d) ≡ true
all_four true true true true p q r s = refl
all_four false b c d p q r s = absurd cc
all_four true false c d p q r s = absurd cc
all_four true true false d p q r s = absurd cc
all_four true true true false p q r s = absurd cc

name_is : (b : ℕ) (bs : List ℕ) → is_letter b ≡ true → run is_word bs ≡ length bs → nat_le (length (b ∷ bs)) most_name_bytes ≡ true → reserved_word (b ∷ bs) ≡ None → is_name (b ∷ bs) ≡ true
unfolding is_name
name_is b bs letter all short none = all_four (is_letter b) (run is_word bs == length bs) (nat_le (length (b ∷ bs)) most_name_bytes) (is_none (reserved_word (b ∷ bs))) letter (equal_test (run is_word bs) (length bs) all) short (rw none refl)

named_good : (b : ℕ) (bs : List ℕ) (short : Bool) (kind : TokenKind) → is_letter b ≡ true → run is_word bs ≡ length bs → nat_le (length (b ∷ bs)) most_name_bytes ≡ short → reserved_word (b ∷ bs) ≡ None → cond short (Some (k.Name (b ∷ bs))) None ≡ Some kind → IsGood kind
named_good b bs true kind letter all short none e = let q : k.Name (b ∷ bs) ≡ kind = cc in subst IsGood q (name_is b bs letter all short none)
named_good b bs false kind letter all short none e = absurd cc

word_good : (b : ℕ) (bs : List ℕ) (o : Option Word) (kind : TokenKind) → is_letter b ≡ true → run is_word bs ≡ length bs → reserved_word (b ∷ bs) ≡ o → word_or_name o (b ∷ bs) ≡ Some kind → IsGood kind
word_good b bs (Some x) kind letter all e is = let q : k.Word x ≡ kind = cc in subst IsGood q tt
word_good b bs None kind letter all e is = named_good b bs (nat_le (length (b ∷ bs)) most_name_bytes) kind letter all refl e is

word_kind_good : (b : ℕ) (bs : List ℕ) (kind : TokenKind) → is_letter b ≡ true → run is_word bs ≡ length bs → word_kind (b ∷ bs) ≡ Some kind → IsGood kind
unfolding word_kind
word_kind_good b bs kind letter all is = word_good b bs (reserved_word (b ∷ bs)) kind letter all refl is

taken_front : (is : ℕ → Bool) (b : ℕ) (bs : List ℕ) → take (1 + run is bs) (b ∷ bs) ≡ b ∷ take (run is bs) bs
taken_front is b bs = let e : 1 + run is bs ≡ suc (run is bs) = omega arith in ap (λ (n : ℕ). take n (b ∷ bs)) e

word_at_front : (b : ℕ) (rest : List ℕ) (kind : TokenKind) → is_letter b ≡ true → word_kind (take (1 + run is_word rest) (b ∷ rest)) ≡ Some kind → IsGood kind
word_at_front b rest kind letter is = word_kind_good b (take (run is_word rest) rest) kind letter (run_of_taken is_word rest) (ap word_kind (sym (taken_front is_word b rest)) ∙ is)

small_good : (value : ℕ) (small : Bool) (kind : TokenKind) → nat_le value greatest ≡ small → cond small (Some (k.Number value)) None ≡ Some kind → IsGood kind
small_good value true kind small e = let q : k.Number value ≡ kind = cc in let le : value ≤ greatest = grind (arith, nat_tests) in subst IsGood q le
small_good value false kind small e = absurd cc

number_good : (bytes : List ℕ) (kind : TokenKind) → number_kind bytes ≡ Some kind → IsGood kind
unfolding number_kind
number_good bytes kind e = small_good (value_on 0 bytes) (nat_le (value_on 0 bytes) greatest) kind refl e

front_good : (text : List ℕ) → TakesGood (front_of text)
unfolding front_of
front_good [] = λ n kind fault e. absurd cc
front_good (b ∷ rest) =
    if_good (is_blank b) _ _ (λ _ n kind fault e. absurd cc)
    (if_good (begins_comment b rest) _ _ (λ _ n kind fault e. absurd cc)
    (if_good (is_letter b) _ _ (λ letter. taken_good (1 + run is_word rest) (word_kind (take (1 + run is_word rest) (b ∷ rest))) _ (λ kind is. word_at_front b rest kind letter is))
    (if_good (is_digit b) _ _ (λ digit. taken_good (1 + run is_digit rest) (number_kind (take (1 + run is_digit rest) (b ∷ rest))) _ (λ kind is. number_good (take (1 + run is_digit rest) (b ∷ rest)) kind is))
    (longest_good _ _))))

pub lexed_good : (at : ℕ) (text : List ℕ) (tokens : List Token) → IsLexed at text tokens → AreGood (kinds tokens)
lexed_good at text tokens (done e) = tt
lexed_good at text tokens (skip {n = n} e l) = lexed_good _ _ tokens l
lexed_good at text tokens (word {n = n} {kind = kind} {tokens = more} e l) = (front_good text n kind some_fault e, lexed_good _ _ more l)
