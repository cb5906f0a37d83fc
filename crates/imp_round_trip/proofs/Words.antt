-- Printed names, reserved words and numbers are read back.
use Rattle.std.proofs.Common.{◌≡◌, ℕ, suc, ◌+◌, ◌-◌, ◌*◌, ◌≤◌, ◌<◌, ◌^◌, ◌/◌, ◌%◌, Bool, true, false, cond, List, [], ◌∷◌, ◌++◌, length, drop, take, refl, sym, subst, ◌∙◌, arith}
use Rattle.std.specs.Prelude.{not, ◌||◌, ◌&&◌, nat_eq, nat_le, Option, Some, None, is_none, ◌==◌, codes}
use Rattle.std.specs.Fmt.{decimal}
use Rattle.std.proofs.lemmas.Bool.Decides.{nat_tests}
use Rattle.std.proofs.lemmas.Fmt.{decimal_by_steps}
use Rattle.imp_lex.specs.declared.token.TokenKind.{TokenKind}
use Rattle.imp_lex.specs.declared.token.TokenKind.TheVariants as k
use Rattle.imp_lex.specs.declared.token.Word.{Word}
use Rattle.imp_lex.specs.declared.token.Word.TheVariants as w
use Rattle.base_values.specs.Numbers.{greatest}
use Rattle.imp_lex.specs.Numbers.{value_on}
use Rattle.imp_lex.specs.Kinds.{reserved_word, word_kind, number_kind, most_name_bytes}
use Rattle.imp_lex.specs.Front.{front_of, run, is_blank, is_letter, is_digit, is_word, begins_comment}
use Rattle.imp_lex.specs.Lexing.{word}
use Rattle.imp_lex.specs.Names.{is_name}
use Rattle.imp_round_trip.proofs.Lexed.{Lexes, takes, Open, is_apart}
use Rattle.std.proofs.Math.Seq.{take-append_seam, drop-append_seam}
use Rattle.base_values.proofs.Lists.{one_more}

-- ---- runs

run_cons : (is : ℕ → Bool) (n m : ℕ) (v : Bool) → cond v (suc n) 0 ≡ suc m → n ≡ m
run_cons is n m true e = omega arith
run_cons is n m false e = absurd (omega arith)

run_true : (n m : ℕ) (v : Bool) → cond v (suc n) 0 ≡ suc m → v ≡ true
run_true n m true e = refl
run_true n m false e = absurd (omega arith)

run_over : (is : ℕ → Bool) (bs rest : List ℕ) → run is bs ≡ length bs → run is rest ≡ 0 → run is (bs ++ rest) ≡ length bs
run_over is [] rest e z = z
run_over is (b ∷ bs) rest e z =
    let here : is b ≡ true = run_true (run is bs) (length bs) (is b) e in
    let behind : run is bs ≡ length bs = run_cons is (run is bs) (length bs) (is b) e in
    rw (here, run_over is bs rest behind z) refl

no_letter : (n : ℕ) (v : Bool) → not v ≡ true → cond v n 0 ≡ 0
no_letter n true e = absurd cc
no_letter n false e = refl

no_digit : (n : ℕ) (u v : Bool) → not (u || v) ≡ true → cond v n 0 ≡ 0
no_digit n true v e = absurd cc
no_digit n false true e = absurd cc
no_digit n false false e = refl

no_word_on : (rest : List ℕ) → is_apart rest ≡ true → run is_word rest ≡ 0
no_word_on [] e = refl
no_word_on (b ∷ rest) e = no_letter (suc (run is_word rest)) (is_word b) e

no_digit_on : (rest : List ℕ) → is_apart rest ≡ true → run is_digit rest ≡ 0
no_digit_on [] e = refl
no_digit_on (b ∷ rest) e = no_digit (suc (run is_digit rest)) (is_letter b) (is_digit b) e

-- ---- words

letter_no_blank : (b : ℕ) → is_letter b ≡ true → is_blank b ≡ false
letter_no_blank b e = grind (arith, nat_tests)

letter_no_slash : (b : ℕ) → is_letter b ≡ true → nat_eq b 47 ≡ false
letter_no_slash b e = grind (arith, nat_tests)

letter_no_comment : (b : ℕ) (rest : List ℕ) → is_letter b ≡ true → begins_comment b rest ≡ false
letter_no_comment b [] e = refl
letter_no_comment b (c ∷ rest) e = rw (letter_no_slash b e) refl

pub letters : (b : ℕ) (bs : List ℕ) (kind : TokenKind) → is_letter b ≡ true → run is_word bs ≡ length bs → word_kind (b ∷ bs) ≡ Some kind → Open (b ∷ bs) (kind ∷ [])
unfolding front_of
letters b bs kind letter all is = record {
  on = λ rest more apart h.
      let count : run is_word (bs ++ rest) ≡ length bs = run_over is_word bs rest all (no_word_on rest apart) in
      let long : suc (length bs) ≡ 1 + length bs = omega arith in
      let whole : take (1 + length bs) (b ∷ (bs ++ rest)) ≡ b ∷ bs = subst (λ (n : ℕ). take n (b ∷ (bs ++ rest)) ≡ b ∷ bs) long (take-append_seam (b ∷ bs) rest) in
      let left : drop (1 + length bs) (b ∷ (bs ++ rest)) ≡ rest = subst (λ (n : ℕ). drop n (b ∷ (bs ++ rest)) ≡ rest) long (drop-append_seam (b ∷ bs) rest) in
      let blank = letter_no_blank b letter in
      let comment = letter_no_comment b (bs ++ rest) letter in
      takes (1 + length bs) kind (b ∷ (bs ++ rest)) (drop (1 + length bs) (b ∷ (bs ++ rest))) more
      (λ at tokens l. word {n = 1 + length bs} {kind = kind} (rw (blank, comment, letter, count, whole, is) refl) l)
      (subst (λ (q : List ℕ). Lexes q more) (sym left) h);
}

-- ---- names

and_left : (u v : Bool) → (u && v) ≡ true → u ≡ true
and_left true v e = refl
and_left false v e = e

and_right : (u v : Bool) → (u && v) ≡ true → v ≡ true
and_right true v e = e
and_right false v e = absurd cc

none_from : (o : Option Word) → is_none o ≡ true → o ≡ None
none_from None e = refl
none_from (Some x) e = absurd cc

equal_from : (m n : ℕ) → (m == n) ≡ true → m ≡ n
equal_from m n e = grind (arith, nat_tests)

-- what a name begins with
abbrev pub IsLetterFirst : List ℕ → Type 0
IsLetterFirst [] = ⊥
IsLetterFirst (b ∷ bs) = is_letter b ≡ true

pub name_letter : (x : List ℕ) → is_name x ≡ true → IsLetterFirst x
unfolding is_name
name_letter [] e = absurd cc
name_letter (b ∷ bs) e = and_left (is_letter b) _ (and_left (is_letter b && (run is_word bs == length bs)) _ (and_left _ (is_none (reserved_word (b ∷ bs))) e))

name_kind_is : (x : List ℕ) → reserved_word x ≡ None → nat_le (length x) most_name_bytes ≡ true → word_kind x ≡ Some (k.Name x)
unfolding word_kind
name_kind_is x none short = rw (none, short) refl

pub names : (x : List ℕ) → is_name x ≡ true → Open x (k.Name x ∷ [])
unfolding is_name
names [] e = absurd cc
names (b ∷ bs) e =
    let none : reserved_word (b ∷ bs) ≡ None = none_from (reserved_word (b ∷ bs)) (and_right _ (is_none (reserved_word (b ∷ bs))) e) in
    let front = and_left _ (is_none (reserved_word (b ∷ bs))) e in
    let short : nat_le (length (b ∷ bs)) most_name_bytes ≡ true = and_right (is_letter b && (run is_word bs == length bs)) _ front in
    let bytes = and_left (is_letter b && (run is_word bs == length bs)) _ front in
    let all : run is_word bs ≡ length bs = equal_from (run is_word bs) (length bs) (and_right (is_letter b) _ bytes) in
    letters b bs (k.Name (b ∷ bs)) (and_left (is_letter b) _ bytes) all (name_kind_is (b ∷ bs) none short)

-- ---- reserved words

proc_kind : word_kind (codes "proc") ≡ Some (k.Word w.Proc)
unfolding word_kind reserved_word
proc_kind = refl

pub proc_word : Open (codes "proc") (k.Word w.Proc ∷ [])
proc_word = letters 112 (codes "roc") (k.Word w.Proc) refl refl proc_kind

var_kind : word_kind (codes "var") ≡ Some (k.Word w.Var)
unfolding word_kind reserved_word
var_kind = refl

pub var_word : Open (codes "var") (k.Word w.Var ∷ [])
var_word = letters 118 (codes "ar") (k.Word w.Var) refl refl var_kind

int_kind : word_kind (codes "int") ≡ Some (k.Word w.Int)
unfolding word_kind reserved_word
int_kind = refl

pub int_word : Open (codes "int") (k.Word w.Int ∷ [])
int_word = letters 105 (codes "nt") (k.Word w.Int) refl refl int_kind

array_kind : word_kind (codes "array") ≡ Some (k.Word w.Array)
unfolding word_kind reserved_word
array_kind = refl

pub array_word : Open (codes "array") (k.Word w.Array ∷ [])
array_word = letters 97 (codes "rray") (k.Word w.Array) refl refl array_kind

list_kind : word_kind (codes "list") ≡ Some (k.Word w.List)
unfolding word_kind reserved_word
list_kind = refl

pub list_word : Open (codes "list") (k.Word w.List ∷ [])
list_word = letters 108 (codes "ist") (k.Word w.List) refl refl list_kind

skip_kind : word_kind (codes "skip") ≡ Some (k.Word w.Skip)
unfolding word_kind reserved_word
skip_kind = refl

pub skip_word : Open (codes "skip") (k.Word w.Skip ∷ [])
skip_word = letters 115 (codes "kip") (k.Word w.Skip) refl refl skip_kind

input_kind : word_kind (codes "input") ≡ Some (k.Word w.Input)
unfolding word_kind reserved_word
input_kind = refl

pub input_word : Open (codes "input") (k.Word w.Input ∷ [])
input_word = letters 105 (codes "nput") (k.Word w.Input) refl refl input_kind

null_kind : word_kind (codes "null") ≡ Some (k.Word w.Null)
unfolding word_kind reserved_word
null_kind = refl

pub null_word : Open (codes "null") (k.Word w.Null ∷ [])
null_word = letters 110 (codes "ull") (k.Word w.Null) refl refl null_kind

new_kind : word_kind (codes "new") ≡ Some (k.Word w.New)
unfolding word_kind reserved_word
new_kind = refl

pub new_word : Open (codes "new") (k.Word w.New ∷ [])
new_word = letters 110 (codes "ew") (k.Word w.New) refl refl new_kind

next_kind : word_kind (codes "next") ≡ Some (k.Word w.Next)
unfolding word_kind reserved_word
next_kind = refl

pub next_word : Open (codes "next") (k.Word w.Next ∷ [])
next_word = letters 110 (codes "ext") (k.Word w.Next) refl refl next_kind

item_kind : word_kind (codes "item") ≡ Some (k.Word w.Item)
unfolding word_kind reserved_word
item_kind = refl

pub item_word : Open (codes "item") (k.Word w.Item ∷ [])
item_word = letters 105 (codes "tem") (k.Word w.Item) refl refl item_kind

assert_kind : word_kind (codes "assert") ≡ Some (k.Word w.Assert)
unfolding word_kind reserved_word
assert_kind = refl

pub assert_word : Open (codes "assert") (k.Word w.Assert ∷ [])
assert_word = letters 97 (codes "ssert") (k.Word w.Assert) refl refl assert_kind

if_kind : word_kind (codes "if") ≡ Some (k.Word w.If)
unfolding word_kind reserved_word
if_kind = refl

pub if_word : Open (codes "if") (k.Word w.If ∷ [])
if_word = letters 105 (codes "f") (k.Word w.If) refl refl if_kind

else_kind : word_kind (codes "else") ≡ Some (k.Word w.Else)
unfolding word_kind reserved_word
else_kind = refl

pub else_word : Open (codes "else") (k.Word w.Else ∷ [])
else_word = letters 101 (codes "lse") (k.Word w.Else) refl refl else_kind

while_kind : word_kind (codes "while") ≡ Some (k.Word w.While)
unfolding word_kind reserved_word
while_kind = refl

pub while_word : Open (codes "while") (k.Word w.While ∷ [])
while_word = letters 119 (codes "hile") (k.Word w.While) refl refl while_kind

call_kind : word_kind (codes "call") ≡ Some (k.Word w.Call)
unfolding word_kind reserved_word
call_kind = refl

pub call_word : Open (codes "call") (k.Word w.Call ∷ [])
call_word = letters 99 (codes "all") (k.Word w.Call) refl refl call_kind

len_kind : word_kind (codes "len") ≡ Some (k.Word w.Len)
unfolding word_kind reserved_word
len_kind = refl

pub len_word : Open (codes "len") (k.Word w.Len ∷ [])
len_word = letters 108 (codes "en") (k.Word w.Len) refl refl len_kind

break_kind : word_kind (codes "break") ≡ Some (k.Word w.Break)
unfolding word_kind reserved_word
break_kind = refl

pub break_word : Open (codes "break") (k.Word w.Break ∷ [])
break_word = letters 98 (codes "reak") (k.Word w.Break) refl refl break_kind

-- ---- numbers

digit_no_blank : (b : ℕ) → is_digit b ≡ true → is_blank b ≡ false
digit_no_blank b e = grind (arith, nat_tests)

digit_no_slash : (b : ℕ) → is_digit b ≡ true → nat_eq b 47 ≡ false
digit_no_slash b e = grind (arith, nat_tests)

digit_no_letter : (b : ℕ) → is_digit b ≡ true → is_letter b ≡ false
digit_no_letter b e = grind (arith, nat_tests)

digit_no_comment : (b : ℕ) (rest : List ℕ) → is_digit b ≡ true → begins_comment b rest ≡ false
digit_no_comment b [] e = refl
digit_no_comment b (c ∷ rest) e = rw (digit_no_slash b e) refl

pub digits_open : (b : ℕ) (bs : List ℕ) (kind : TokenKind) → is_digit b ≡ true → run is_digit bs ≡ length bs → number_kind (b ∷ bs) ≡ Some kind → Open (b ∷ bs) (kind ∷ [])
unfolding front_of
digits_open b bs kind digit all is = record {
  on = λ rest more apart h.
      let count : run is_digit (bs ++ rest) ≡ length bs = run_over is_digit bs rest all (no_digit_on rest apart) in
      let long : suc (length bs) ≡ 1 + length bs = omega arith in
      let whole : take (1 + length bs) (b ∷ (bs ++ rest)) ≡ b ∷ bs = subst (λ (n : ℕ). take n (b ∷ (bs ++ rest)) ≡ b ∷ bs) long (take-append_seam (b ∷ bs) rest) in
      let left : drop (1 + length bs) (b ∷ (bs ++ rest)) ≡ rest = subst (λ (n : ℕ). drop n (b ∷ (bs ++ rest)) ≡ rest) long (drop-append_seam (b ∷ bs) rest) in
      let blank = digit_no_blank b digit in
      let comment = digit_no_comment b (bs ++ rest) digit in
      let letter = digit_no_letter b digit in
      takes (1 + length bs) kind (b ∷ (bs ++ rest)) (drop (1 + length bs) (b ∷ (bs ++ rest))) more
      (λ at tokens l. word {n = 1 + length bs} {kind = kind} (rw (blank, comment, letter, digit, count, whole, is) refl) l)
      (subst (λ (q : List ℕ). Lexes q more) (sym left) h);
}

-- digits, one at least, that write the number
abbrev pub Writes : ℕ → List ℕ → Type 0
Writes n [] = ⊥
Writes n (b ∷ bs) = (is_digit b ≡ true) × (run is_digit bs ≡ length bs) × (value_on 0 (b ∷ bs) ≡ n)

value_behind : (so_far d : ℕ) (ds : List ℕ) → value_on so_far (ds ++ d ∷ []) ≡ value_on so_far ds * 10 + (d - 48)
value_behind so_far d [] = refl
value_behind so_far d (c ∷ ds) = value_behind (so_far * 10 + (c - 48)) d ds

glyph_digit : (d : ℕ) → d < 10 → is_digit (48 + d) ≡ true
glyph_digit d h = grind (arith, nat_tests)

run_more : (bs : List ℕ) (d : ℕ) → run is_digit bs ≡ length bs → is_digit d ≡ true → run is_digit (bs ++ d ∷ []) ≡ suc (length bs)
run_more [] d all digit = rw digit refl
run_more (b ∷ bs) d all digit =
    let here : is_digit b ≡ true = run_true (run is_digit bs) (length bs) (is_digit b) all in
    let behind : run is_digit bs ≡ length bs = run_cons is_digit (run is_digit bs) (length bs) (is_digit b) all in
    rw (here, run_more bs d behind digit) refl

one_digit : (n : ℕ) → n < 10 → Writes n ((48 + n) ∷ [])
one_digit n h = (glyph_digit n h, refl, omega arith)

more_digits : (n : ℕ) (ds : List ℕ) → 10 ≤ n → Writes (n / 10) ds → Writes n (ds ++ ((48 + n % 10) ∷ []))
more_digits n [] h g = absurd g
more_digits n (b ∷ bs) h g =
    let small : n % 10 < 10 = omega arith in
    let value : value_on 0 (b ∷ bs) ≡ n / 10 = g.2 in
    (g.0, run_more bs (48 + n % 10) g.1 (glyph_digit (n % 10) small) ∙ sym (one_more bs (48 + n % 10)), value_behind 0 (48 + n % 10) (b ∷ bs) ∙ (rw value (omega arith)))

pub decimal_writes : (n : ℕ) → n < 2 ^ 64 → Writes n (decimal n)
decimal_writes n h = decimal_by_steps Writes one_digit more_digits n h

number_open : (n : ℕ) (ds : List ℕ) → n ≤ greatest → Writes n ds → Open ds (k.Number n ∷ [])
unfolding number_kind
number_open n [] small g = absurd g
number_open n (b ∷ bs) small g =
    let value : value_on 0 (b ∷ bs) ≡ n = g.2 in
    let within : nat_le n greatest ≡ true = grind (arith, nat_tests) in
    digits_open b bs (k.Number n) g.0 g.1 (rw (value, within) refl)

pub numbers_open : (n : ℕ) → n ≤ greatest → Open (decimal n) (k.Number n ∷ [])
numbers_open n small = number_open n (decimal n) small (decimal_writes n (omega arith))
