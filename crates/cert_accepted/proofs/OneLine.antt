-- The text of a line is read back.
use Rattle.std.specs.Prelude.{◌≡◌, ◌<◌, ◌≤◌, ◌==◌, ◌&&◌, ◌^◌, ◌+◌, ◌/◌, ◌%◌, ℕ, zero, suc, nat_lt, nat_le, not, List, [], ◌∷◌, ◌++◌, length, Some, None, Bool, true, false, codes, decimal, option_and_then, option_map, cond, if◌then◌else◌}
use Rattle.std.proofs.Common.{refl, sym, ap, ◌∙◌, arith, subst, append-nil}
use Rattle.std.specs.Str.{IsUtf8}
use Rattle.std.specs.Str.Lossy.{utf8_valid_len}
use Rattle.std.proofs.lemmas.Str.{utf8_valid_len-IsUtf8, IsUtf8-append}
use Rattle.std.proofs.lemmas.Bool.{and_parts, and_from}
use Rattle.std.proofs.lemmas.Bool.Decides.{nat_tests}
use Rattle.std.proofs.lemmas.Fmt.{decimal_by_steps_wide}
use Rattle.std.proofs.lemmas.List.{length-append}
use Rattle.std.specs.Char.{digit_char}
use Rattle.base_values.proofs.Cases.{by_test}
use Rattle.json.specs.Lex.{tokens}
use Rattle.json.specs.Json as json
use Rattle.json.specs.Print.{escape_letter, escape_byte, escape, quoted}
use Rattle.json.specs.Tree as tree
use Rattle.json.proofs.Printed.Strings.{escape_byte_plain}
use Rattle.json.proofs.Printed.Utf8.{are_ascii, IsUtf8-are_ascii, IsUtf8-quoted}
use Rattle.json.proofs.Printed.Decimals.{IsNumber-decimal}
use Rattle.json.proofs.Printed.Tokens.{tokens-print}
use Rattle.json.proofs.Printed.Trees.{value-json_tokens, ArePrintable-json_tokens}
use Rattle.serde_json.specs.Data.{Data, number, string, array, object, item, no_members, member}
use Rattle.serde_json.specs.Read.{read, of_json, of_items, of_members, max_depth}
use Rattle.serde_json.specs.Written.{compact_text, items_text, outline, items_outline}
use Rattle.serde_json.proofs.Numbers.{number_of-decimal}
use Rattle.serde_json.proofs.Texts.{print-outline}
use Rattle.serde_json.proofs.OnLiterals.{serde_json_on_literals}
use Rattle.request_json.specs.Replies.{count, items_of, list_of, object_of}
use Rattle.request_json.specs.Members.{json_of, greatest_id, number_in, items_read}
use Rattle.cert_lines.specs.Lines.{short, chain_at, line_in, line_of}

-- ---- texts on one line

-- no byte is LF
abbrev pub has_no_end : List ℕ → Bool
has_no_end [] = true
has_no_end (b ∷ bs) = not (b == 10) && has_no_end bs

-- UTF-8 on one line
pub record IsLine (bs : List ℕ) : Type 0 where
  pub utf8 : IsUtf8 bs
  pub whole : has_no_end bs ≡ true

whole_both : (xs ys : List ℕ) → has_no_end xs ≡ true → has_no_end ys ≡ true → has_no_end (xs ++ ys) ≡ true
whole_both [] ys a b = b
whole_both (x ∷ xs) ys a b = let p = and_parts (not (x == 10)) (has_no_end xs) a in and_from (not (x == 10)) (has_no_end (xs ++ ys)) p.0 (whole_both xs ys p.1 b)

both : (xs ys : List ℕ) → IsLine xs → IsLine ys → IsLine (xs ++ ys)
both xs ys a b = record { utf8 = IsUtf8-append xs ys a.utf8 b.utf8; whole = whole_both xs ys a.whole b.whole }

-- bytes below 128 that are no LF
plain : (bs : List ℕ) → are_ascii bs ≡ true → has_no_end bs ≡ true → IsLine bs
plain bs a w = record { utf8 = IsUtf8-are_ascii bs a; whole = w }

digit_line : (d : ℕ) → d < 10 → IsLine ((48 + d) ∷ [])
digit_line d h =
    let a : nat_lt (48 + d) 128 ≡ true = grind (arith, nat_tests) in
    let b : ((48 + d) == 10) ≡ false = grind (arith, nat_tests) in
    plain ((48 + d) ∷ []) (ap (λ c. c && true) a) (ap (λ c. not c && true) b)

pub decimal_line : (n : ℕ) → n ≤ 2 ^ 64 → IsLine (decimal n)
decimal_line n h = decimal_by_steps_wide (λ n ds. IsLine ds) (λ n h. digit_line n h) (λ n ds h before. both ds _ before (digit_line (n % 10) (omega arith))) n (omega (arith, h))

-- ---- strings

abbrev escapes_whole : ℕ → Bool
escapes_whole zero = true
escapes_whole (suc n) = has_no_end (escape_byte n) && escapes_whole n

whole_below : (n : ℕ) → escapes_whole n ≡ true → (x : ℕ) → x < n → has_no_end (escape_byte x) ≡ true
whole_below zero e x h = absurd (omega arith)
whole_below (suc n) e x h =
    let p = and_parts (has_no_end (escape_byte n)) (escapes_whole n) e in
    by_test x n (λ c. has_no_end (escape_byte x) ≡ true) (λ i. subst (λ n. has_no_end (escape_byte n) ≡ true) (sym i) p.0) (λ i. whole_below n p.1 x (omega arith))

all_whole : escapes_whole 93 ≡ true
unfolding escape_byte
all_whole = refl

whole_escape : (x : ℕ) → has_no_end (escape_byte x) ≡ true
whole_escape x = by (nat_lt x 93) refl
  where
    by : (c : Bool) → nat_lt x 93 ≡ c → has_no_end (escape_byte x) ≡ true
    by true e = whole_below 93 all_whole x (grind (arith, nat_tests))
    by false e =
        let big : 93 ≤ x = grind (arith, nat_tests) in
        let other : (x == 10) ≡ false = grind (arith, nat_tests) in
        subst (λ bs. has_no_end bs ≡ true) (sym (escape_byte_plain x (λ k. omega arith) (λ k. omega arith) (omega arith))) (ap (λ c. not c && true) other)

whole_escapes : (s : List ℕ) → has_no_end (escape s) ≡ true
whole_escapes [] = refl
whole_escapes (x ∷ s) = whole_both (escape_byte x) (escape s) (whole_escape x) (whole_escapes s)

quoted_line : (s : List ℕ) → IsUtf8 s → IsLine (quoted s)
quoted_line s u = record { utf8 = IsUtf8-quoted s u; whole = whole_both (escape s) (34 ∷ []) (whole_escapes s) refl }

-- ---- the object of a line: a loop, the calls of a chain, the outermost first, and the text of a state

abbrev pub line : (n : ℕ) → (chain state : List ℕ) → Data
line n chain state = object_of ((codes "at", count n) ∷ (codes "chain", list_of count chain) ∷ (codes "state", string state) ∷ [])

abbrev pub AreIds : List ℕ → Type 0
AreIds [] = Unit {0}
AreIds (n ∷ ns) = (n ≤ greatest_id) × AreIds ns

wide : (n : ℕ) → n ≤ greatest_id → n < 2 ^ 64
wide n h = omega (arith, h)

-- the numbers are there as they are written
number_back : (n : ℕ) → n ≤ greatest_id → of_json (outline (count n)) ≡ Some (count n)
number_back n h = ap (option_map number) (number_of-decimal n (wide n h))

items_back : (ns : List ℕ) → AreIds ns → of_items (items_outline (items_of count ns)) ≡ Some (items_of count ns)
items_back [] h = refl
items_back (n ∷ ns) h =
    ap (option_and_then (λ d. option_map (item d) (of_items (items_outline (items_of count ns))))) (number_back n h.0) ∙ ap (option_map (item (count n))) (items_back ns h.1)

line_back : (n : ℕ) (chain state : List ℕ) → n ≤ greatest_id → AreIds chain → of_json (outline (line n chain state)) ≡ Some (line n chain state)
unfolding serde_json_on_literals
line_back n chain state h hs =
    let o = outline (list_of count chain) in
    let s = json.string state in
    ap (λ r. option_map object (option_and_then (λ d. of_members (json.member (codes "chain") o (json.member (codes "state") s json.no_members)) (member (codes "at") d no_members)) r)) (number_back n h) ∙
    ap (λ r. option_map object (option_and_then (λ d. of_members (json.member (codes "state") s json.no_members) (member (codes "at") (count n) (member (codes "chain") d no_members))) (option_map array r))) (items_back chain hs)

-- ---- its tokens

items_numbers : (ns : List ℕ) → AreIds ns → tree.ItemsHaveNumbers (items_outline (items_of count ns))
items_numbers [] h = tt
items_numbers (n ∷ ns) h = (IsNumber-decimal n (wide n h.0), items_numbers ns h.1)

line_numbers : (n : ℕ) (chain state : List ℕ) → n ≤ greatest_id → AreIds chain → tree.HasNumbers (outline (line n chain state))
unfolding serde_json_on_literals
line_numbers n chain state h hs = (IsNumber-decimal n (wide n h), (items_numbers chain hs, (tt, tt)))

flat : (ns : List ℕ) → tree.items_depth (items_outline (items_of count ns)) ≤ 0
flat [] = omega arith
flat (n ∷ ns) = omega (arith, flat ns)

shallow : (n : ℕ) (chain state : List ℕ) → tree.depth (outline (line n chain state)) ≤ max_depth
unfolding serde_json_on_literals
shallow n chain state = omega (arith, flat chain)

line_read : (n : ℕ) (chain state : List ℕ) → n ≤ greatest_id → AreIds chain → read (compact_text (line n chain state)) ≡ Some (line n chain state)
line_read n chain state h hs =
    let d = line n chain state in
    let j = outline d in
    ap (λ ts. option_and_then of_json (option_and_then (λ p. json.if_last p.0 p.1) (json.value max_depth ts)))
    (ap tokens (sym (print-outline d)) ∙ tokens-print (tree.json_tokens j) (ArePrintable-json_tokens j (line_numbers n chain state h hs)) ∙ sym (append-nil (tree.json_tokens j))) ∙
    ap (λ r. option_and_then of_json (option_and_then (λ p. json.if_last p.0 p.1) r)) (value-json_tokens j max_depth [] (shallow n chain state)) ∙
    line_back n chain state h hs

-- ---- its text

items_line : (later : Bool) (ns : List ℕ) → AreIds ns → IsLine (items_text later (items_of count ns))
items_line later [] h = plain (93 ∷ []) refl refl
items_line true (n ∷ ns) h = both (44 ∷ []) _ (plain (44 ∷ []) refl refl) (both (decimal n) _ (decimal_line n (omega (arith, h.0))) (items_line true ns h.1))
items_line false (n ∷ ns) h = both (decimal n) _ (decimal_line n (omega (arith, h.0))) (items_line true ns h.1)

pub line_is_one : (n : ℕ) (chain state : List ℕ) → n ≤ greatest_id → AreIds chain → IsUtf8 state → IsLine (compact_text (line n chain state))
unfolding serde_json_on_literals
line_is_one n chain state h hs u =
    both (codes "{\"at\":") _ (plain (codes "{\"at\":") refl refl)
    (both (decimal n) _ (decimal_line n (omega (arith, h)))
    (both (codes ",\"chain\":[") _ (plain (codes ",\"chain\":[") refl refl)
    (both (items_text false (items_of count chain)) _ (items_line false chain hs)
    (both (codes ",\"state\":") _ (plain (codes ",\"state\":") refl refl)
    (both (quoted state) (codes "}") (quoted_line state u) (plain (codes "}") refl refl))))))

-- ---- what is read of it

json_back : (n : ℕ) (chain state : List ℕ) → n ≤ greatest_id → AreIds chain → IsUtf8 state → json_of (compact_text (line n chain state)) ≡ Some (line n chain state)
unfolding json_of
json_back n chain state h hs u =
    let t = compact_text (line n chain state) in
    let same : utf8_valid_len t ≡ length t = utf8_valid_len-IsUtf8 t (line_is_one n chain state h hs u).utf8 in
    let test : (utf8_valid_len t == length t) ≡ true = grind (arith, nat_tests) in
    ap (λ c. if c then read t else None) test ∙ line_read n chain state h hs

number_taken : (n : ℕ) → n ≤ greatest_id → number_in greatest_id (count n) ≡ Some n
number_taken n h = let test : nat_le n greatest_id ≡ true = grind (arith, nat_tests) in ap (λ c. if c then Some n else None) test

items_taken : (ns : List ℕ) → AreIds ns → items_read (number_in greatest_id) (items_of count ns) ≡ Some ns
items_taken [] h = refl
items_taken (n ∷ ns) h =
    ap (option_and_then (λ x. option_map (λ xs. x ∷ xs) (items_read (number_in greatest_id) (items_of count ns)))) (number_taken n h.0) ∙ ap (option_map (λ xs. n ∷ xs)) (items_taken ns h.1)

short_taken : (ns : List ℕ) → length ns ≤ 8 → short ns ≡ Some ns
short_taken ns h = let test : nat_le (length ns) 8 ≡ true = grind (arith, nat_tests) in ap (λ c. if c then Some ns else None) test

chain_taken : (n : ℕ) (chain state : List ℕ) → AreIds chain → length chain ≤ 8 → chain_at (line n chain state) ≡ Some chain
unfolding serde_json_on_literals
chain_taken n chain state hs few = ap (option_and_then short) (items_taken chain hs) ∙ short_taken chain few

line_taken : (n : ℕ) (chain state : List ℕ) → n ≤ greatest_id → AreIds chain → length chain ≤ 8 → line_in (line n chain state) ≡ Some (record { at = n; chain = chain; state = state })
unfolding serde_json_on_literals
line_taken n chain state h hs few =
    ap (option_and_then (λ n. option_and_then (λ z. Some (record { at = n; chain = z; state = state })) (chain_at (line n chain state)))) (number_taken n h) ∙
    ap (option_and_then (λ z. Some (record { at = n; chain = z; state = state }))) (chain_taken n chain state hs few)

-- the line of a loop and a chain says what was written
pub line_says : (n : ℕ) (chain state : List ℕ) → n ≤ greatest_id → AreIds chain → length chain ≤ 8 → IsUtf8 state → line_of (compact_text (line n chain state)) ≡ Some (record { at = n; chain = chain; state = state })
unfolding line_of
line_says n chain state h hs few u = ap (option_and_then line_in) (json_back n chain state h hs u) ∙ line_taken n chain state h hs few

-- ---- its length

longer_right : (xs ys : List ℕ) (k : ℕ) → k ≤ length ys → k ≤ length (xs ++ ys)
longer_right xs ys k h = omega (arith, length-append xs ys)

longer_left : (xs ys : List ℕ) (k : ℕ) → k ≤ length xs → k ≤ length (xs ++ ys)
longer_left xs ys k h = omega (arith, length-append xs ys)

escape_some : (x : ℕ) → 1 ≤ length (escape_byte x)
unfolding escape_byte
escape_some x = by (nat_lt 0 (escape_letter x)) (nat_lt x 32)
  where
    by : (a b : Bool) → 1 ≤ length (cond a (92 ∷ escape_letter x ∷ []) (cond b (92 ∷ 117 ∷ 48 ∷ 48 ∷ digit_char (x / 16) ∷ digit_char (x % 16) ∷ []) (x ∷ [])))
    by true b = omega arith
    by false true = omega arith
    by false false = omega arith

escape_longer : (s : List ℕ) → length s ≤ length (escape s)
escape_longer [] = omega arith
escape_longer (x ∷ s) = omega (arith, escape_some x, escape_longer s, length-append (escape_byte x) (escape s))

-- a state's text is no longer than its line
pub line_longer : (n : ℕ) (chain state : List ℕ) → length state ≤ length (compact_text (line n chain state))
unfolding serde_json_on_literals
line_longer n chain state =
    let text = quoted state ++ codes "}" in
    let named = codes ",\"state\":" ++ text in
    let listed = items_text false (items_of count chain) ++ named in
    let chained = codes ",\"chain\":[" ++ listed in
    let rest = decimal n ++ chained in
    let k = length state in
    longer_right (codes "{\"at\":") rest k
    (longer_right (decimal n) chained k
    (longer_right (codes ",\"chain\":[") listed k
    (longer_right (items_text false (items_of count chain)) named k
    (longer_right (codes ",\"state\":") text k
    (longer_left (quoted state) (codes "}") k (longer_right (34 ∷ []) (escape state ++ 34 ∷ []) k (longer_left (escape state) (34 ∷ []) k (escape_longer state))))))))
