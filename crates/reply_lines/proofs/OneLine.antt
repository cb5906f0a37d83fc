-- JSON without spaces has no LF.
use Rattle.std.specs.Prelude.{◌≡◌, ◌<◌, ◌≤◌, ◌==◌, ◌&&◌, ◌+◌, ◌/◌, ◌%◌, ℕ, zero, suc, nat_lt, not, List, [], ◌∷◌, ◌++◌, Bool, true, false, decimal, if◌then◌else◌}
use Rattle.std.specs.Fmt.{digits, digits_onto, digit_glyph}
use Rattle.std.proofs.Common.{refl, sym, ap, arith, subst, pos, negsuc}
use Rattle.std.proofs.lemmas.Bool.{and_parts, and_from}
use Rattle.std.proofs.lemmas.Bool.Decides.{nat_tests}
use Rattle.base_values.proofs.Cases.{by_test}
use Rattle.json.specs.Print.{escape_byte, escape, quoted}
use Rattle.json.proofs.Printed.Strings.{escape_byte_plain}
use Rattle.serde_json.specs.Data.{Data, Num, unsigned, negative, float, null, boolean, number, string, array, object, Items, no_items, item, Members, no_members, member}
use Rattle.serde_json.specs.Written.{compact_text, items_text, members_text, number_text}
use Rattle.request_json.specs.Replies.{object_of, reply_fields, reply_text}
use Rattle.reply_lines.specs.OneLine.{has_no_end, RepliesAreLines}

abbrev IsWhole : List ℕ → Type 0
IsWhole bytes = has_no_end bytes ≡ true

both : (xs ys : List ℕ) → IsWhole xs → IsWhole ys → IsWhole (xs ++ ys)
both [] ys a b = b
both (x ∷ xs) ys a b = let p = and_parts (not (x == 10)) (has_no_end xs) a in and_from (not (x == 10)) (has_no_end (xs ++ ys)) p.0 (both xs ys p.1 b)

above : (byte : ℕ) (bytes : List ℕ) → 10 < byte → IsWhole bytes → IsWhole (byte ∷ bytes)
above byte bytes high whole =
    let other : (byte == 10) ≡ false = grind (arith, nat_tests) in
    and_from (not (byte == 10)) (has_no_end bytes) (ap not other) whole

-- ---- numbers

glyph_above : (d : ℕ) → 10 < digit_glyph false d
glyph_above d = go (nat_lt d 10)
  where
    go : (b : Bool) → 10 < (if b then 48 + d else 87 + d)
    go true = omega arith
    go false = omega arith

either_whole : (b : Bool) (xs ys : List ℕ) → IsWhole xs → IsWhole ys → IsWhole (if b then xs else ys)
either_whole true xs ys first second = first
either_whole false xs ys first second = second

onto_whole : (k n : ℕ) (bytes : List ℕ) → IsWhole bytes → IsWhole (digits_onto k 10 false n bytes)
onto_whole zero n bytes whole = whole
onto_whole (suc k) n bytes whole =
    let digit = digit_glyph false (n % 10) in
    let longer = above digit bytes (glyph_above (n % 10)) whole in
    either_whole (n / 10 == 0) (digit ∷ bytes) (digits_onto k 10 false (n / 10) (digit ∷ bytes)) longer (onto_whole k (n / 10) (digit ∷ bytes) longer)

decimal_whole : (n : ℕ) → IsWhole (decimal n)
unfolding digits
decimal_whole n = onto_whole 64 n [] refl

number_whole : (n : Num) → IsWhole (number_text n)
number_whole (unsigned n) = decimal_whole n
number_whole (negative (pos n)) = decimal_whole n
number_whole (negative (negsuc n)) = above 45 (decimal (suc n)) (omega arith) (decimal_whole (suc n))
number_whole (float x) = refl

-- ---- strings

abbrev escapes_whole : ℕ → Bool
escapes_whole zero = true
escapes_whole (suc n) = has_no_end (escape_byte n) && escapes_whole n

whole_below : (n : ℕ) → escapes_whole n ≡ true → (x : ℕ) → x < n → IsWhole (escape_byte x)
whole_below zero e x h = absurd (omega arith)
whole_below (suc n) e x h =
    let p = and_parts (has_no_end (escape_byte n)) (escapes_whole n) e in
    by_test x n (λ c. has_no_end (escape_byte x) ≡ true) (λ i. subst (λ n. has_no_end (escape_byte n) ≡ true) (sym i) p.0) (λ i. whole_below n p.1 x (omega arith))

all_whole : escapes_whole 93 ≡ true
unfolding escape_byte
all_whole = refl

escape_whole : (x : ℕ) → IsWhole (escape_byte x)
escape_whole x = by (nat_lt x 93) refl
  where
    by : (c : Bool) → nat_lt x 93 ≡ c → IsWhole (escape_byte x)
    by true e = whole_below 93 all_whole x (grind (arith, nat_tests))
    by false e =
        let big : 93 ≤ x = grind (arith, nat_tests) in
        subst (λ bs. has_no_end bs ≡ true) (sym (escape_byte_plain x (λ k. omega arith) (λ k. omega arith) (omega arith))) (above x [] (omega arith) refl)

escapes_are_whole : (s : List ℕ) → IsWhole (escape s)
escapes_are_whole [] = refl
escapes_are_whole (x ∷ s) = both (escape_byte x) (escape s) (escape_whole x) (escapes_are_whole s)

quoted_whole : (s : List ℕ) → IsWhole (quoted s)
quoted_whole s = both (escape s) (34 ∷ []) (escapes_are_whole s) refl

-- ---- values

mutual
  value_whole : (d : Data) → IsWhole (compact_text d)
  value_whole null = refl
  value_whole (boolean true) = refl
  value_whole (boolean false) = refl
  value_whole (number n) = number_whole n
  value_whole (string s) = quoted_whole s
  value_whole (array ds) = items_whole false ds
  value_whole (object ms) = members_whole false ms

  items_whole : (later : Bool) (ds : Items) → IsWhole (items_text later ds)
  items_whole later no_items = refl
  items_whole true (item d ds) = both (compact_text d) (items_text true ds) (value_whole d) (items_whole true ds)
  items_whole false (item d ds) = both (compact_text d) (items_text true ds) (value_whole d) (items_whole true ds)

  members_whole : (later : Bool) (ms : Members) → IsWhole (members_text later ms)
  members_whole later no_members = refl
  members_whole true (member k d ms) = both (quoted k) (58 ∷ (compact_text d ++ members_text true ms)) (quoted_whole k) (both (compact_text d) (members_text true ms) (value_whole d) (members_whole true ms))
  members_whole false (member k d ms) = both (quoted k) (58 ∷ (compact_text d ++ members_text true ms)) (quoted_whole k) (both (compact_text d) (members_text true ms) (value_whole d) (members_whole true ms))

pub replies_are_lines : RepliesAreLines
unfolding reply_text
replies_are_lines reply = record { text = compact_text (object_of (reply_fields reply)); is = refl; whole = value_whole (object_of (reply_fields reply)) }
