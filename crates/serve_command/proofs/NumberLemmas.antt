-- When a text is a number within bounds.
use Rattle.std.proofs.Common.{◌≡◌, ℕ, ◌<◌, ◌≤◌, ◌^◌, ◌&&◌, nat_le, List, Bool, true, false, not, Some, None, Result, Ok, if◌then◌else◌, sym, ◌∙◌, ap, refl, arith}
use Rattle.std.specs.Prelude.{decimal}
use Rattle.std.specs.Str.{bytes_eq}
use Rattle.std.specs.Str.Parse.{digits_value, ParsesUnsigned}
use Rattle.std.proofs.lemmas.Bool.{and_parts, true≢false, not-false}
use Rattle.std.proofs.lemmas.Bool.Decides.{nat_tests}
use Rattle.std.proofs.lemmas.Slice.Eq.{bytes_eq-Decides}
use Rattle.std.proofs.lemmas.Fmt.{decimal_is_IsNumeral, parse-decimal}
use Rattle.serve_command.specs.Values.{number_in}

pub number_is : (least most n : ℕ) (text : List ℕ) → n < 2 ^ 64 → text ≡ decimal n → least ≤ n → n ≤ most → number_in least most text ≡ Some n
unfolding number_in
number_is least most n text small is low high =
    let value : digits_value 10 text ≡ n = ap (digits_value 10) is ∙ (decimal_is_IsNumeral n (omega arith)).1 in
    let same : bytes_eq text (decimal n) ≡ true = (bytes_eq-Decides text (decimal n)).1 is in
    let above : nat_le least n ≡ true = grind (arith, nat_tests) in
    let below : nat_le n most ≡ true = grind (arith, nat_tests) in
    rw (value, same, above, below) refl

none_unless : (b : Bool) (n : ℕ) → (b ≡ true → ⊥) → (if b then Some n else None) ≡ None
none_unless true n never = absurd (never refl)
none_unless false n never = refl

-- the text is the number that its digits write, within the bounds
number_parts : (least most n : ℕ) (text : List ℕ) → (bytes_eq text (decimal n) && nat_le least n && nat_le n most) ≡ true → (text ≡ decimal n) × (least ≤ n) × (n ≤ most)
number_parts least most n text all =
    let last = and_parts (bytes_eq text (decimal n) && nat_le least n) (nat_le n most) all in
    let first = and_parts (bytes_eq text (decimal n)) (nat_le least n) last.0 in
    ((bytes_eq-Decides text (decimal n)).0 first.0, grind (arith, nat_tests), grind (arith, nat_tests))

pub number_none : (least most : ℕ) (text : List ℕ) → ((n : ℕ) → text ≡ decimal n → least ≤ n → n ≤ most → ⊥) → number_in least most text ≡ None
unfolding number_in
number_none least most text never =
    let n = digits_value 10 text in
    none_unless (bytes_eq text (decimal n) && nat_le least n && nat_le n most) n
    (λ all. let parts = number_parts least most n text all in never n parts.0 parts.1 parts.2)

-- where a text is read, whatever number within the bounds it is was read
pub number_not_read : {E : Type 0} (least most : ℕ) (text : List ℕ) (r : Result ℕ E) → most < 2 ^ 64 → ParsesUnsigned 64 10 text r →
    ((n : ℕ) → r ≡ Ok n → text ≡ decimal n → least ≤ n → n ≤ most → ⊥) → number_in least most text ≡ None
number_not_read least most text r small reads never =
    number_none least most text (λ n is low high. never n (parse-decimal 64 n text r (omega arith) (omega arith) is reads) is low high)

-- a text that is not written as the number, and one that is
pub written_otherwise : (written text : List ℕ) → true ≡ not (bytes_eq written text) → written ≡ text → ⊥
written_otherwise written text other same = absurd (true≢false (other ∙ ap not ((bytes_eq-Decides written text).1 same)))

pub written_so : (written text : List ℕ) → false ≡ not (bytes_eq written text) → written ≡ text
written_so written text is = (bytes_eq-Decides written text).0 (not-false (bytes_eq written text) (sym is))
