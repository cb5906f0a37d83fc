-- The text of words is read back.
use Rattle.std.specs.Prelude.{◌≡◌, ℕ, suc, ◌+◌, ◌-◌, ◌*◌, ◌/◌, ◌%◌, ◌<◌, ◌≤◌, ◌==◌, nat_lt, ℤ, pos, negsuc, List, [], ◌∷◌, ◌++◌, Option, Some, None, Bool, true, false, decimal, if◌then◌else◌}
use Rattle.std.proofs.Common.{refl, sym, ap, ◌∙◌, arith, append_assoc}
use Rattle.std.specs.Str.{bytes_eq}
use Rattle.std.proofs.lemmas.Bool.Decides.{nat_tests}
use Rattle.std.proofs.lemmas.Slice.Eq.{bytes_eq-Decides}
use Rattle.std.proofs.lemmas.Fmt.{decimal_by_steps_wide}
use Rattle.base_values.proofs.Cases.{by_test, by_bool}
use Rattle.cert_words.specs.Words.{word_text, more_text, words_text, limit, at_most_limit, with_digit, word_read, read, if_same, words_of}
use Rattle.cert_words.specs.Claims.{IsSmall, AreSmall, WordsComeBack, ReadingIsExact}
use Rattle.std.proofs.lemmas.Option.{same_Some}

small_stays : (n : ℕ) → n ≤ limit → at_most_limit n ≡ n
small_stays n h = by_bool (nat_lt limit n) (λ e. let over : limit < n = grind (arith, nat_tests) in absurd (omega arith)) (λ e. rw e refl)

-- a digit is read
digit_reads : (is_none is_negative : Bool) (size d n : ℕ) (bs : List ℕ) → d < 10 → size * 10 + d ≡ n → n ≤ limit → read is_none is_negative size ((48 + d) ∷ bs) ≡ read is_none is_negative n bs
digit_reads is_none is_negative size d n bs h e small =
    by_test (48 + d) 32 (λ c. (if c then word_read is_none is_negative size ∷ read false false 0 bs else (if (48 + d) == 45 then read is_none true size bs else (if (48 + d) == 110 then read true is_negative size bs else read is_none is_negative (with_digit size (48 + d)) bs))) ≡ read is_none is_negative n bs)
    (λ k. absurd (omega arith))
    (λ k1. by_test (48 + d) 45 (λ c. (if c then read is_none true size bs else (if (48 + d) == 110 then read true is_negative size bs else read is_none is_negative (with_digit size (48 + d)) bs)) ≡ read is_none is_negative n bs)
    (λ k. absurd (omega arith))
    (λ k2. by_test (48 + d) 110 (λ c. (if c then read true is_negative size bs else read is_none is_negative (with_digit size (48 + d)) bs) ≡ read is_none is_negative n bs)
    (λ k. absurd (omega arith))
    (λ k3. let same : size * 10 + ((48 + d) - 48) ≡ n = omega (arith, e) in ap (λ k. read is_none is_negative k bs) (ap at_most_limit same ∙ small_stays n small))))

-- the digits of a number are read
abbrev Reads : ℕ → List ℕ → Type 0
Reads n ds = n ≤ limit → (is_none is_negative : Bool) (bs : List ℕ) → read is_none is_negative 0 (ds ++ bs) ≡ read is_none is_negative n bs

number_reads : (n : ℕ) → n ≤ limit → (is_none is_negative : Bool) (bs : List ℕ) → read is_none is_negative 0 (decimal n ++ bs) ≡ read is_none is_negative n bs
number_reads n small = decimal_by_steps_wide Reads one more n (omega (arith, small)) small
  where
    one : (n : ℕ) → n < 10 → Reads n ((48 + n) ∷ [])
    one n h small is_none is_negative bs = digit_reads is_none is_negative 0 n n bs h (omega arith) small

    more : (n : ℕ) (ds : List ℕ) → 10 ≤ n → Reads (n / 10) ds → Reads n (ds ++ ((48 + n % 10) ∷ []))
    more n ds h before small is_none is_negative bs =
        ap (read is_none is_negative 0) (append_assoc ds ((48 + n % 10) ∷ []) bs) ∙
        before (omega arith) is_none is_negative ((48 + n % 10) ∷ bs) ∙
        digit_reads is_none is_negative (n / 10) (n % 10) n bs (omega arith) (omega arith) small

-- a word's text is read to its end
abbrev is_none_of : Option ℤ → Bool
is_none_of None = true
is_none_of (Some z) = false

abbrev is_negative_of : Option ℤ → Bool
is_negative_of None = false
is_negative_of (Some (pos n)) = false
is_negative_of (Some (negsuc n)) = true

abbrev size_of : Option ℤ → ℕ
size_of None = 0
size_of (Some (pos n)) = n
size_of (Some (negsuc n)) = suc n

word_reads : (w : Option ℤ) (bs : List ℕ) → IsSmall w → read false false 0 (word_text w ++ bs) ≡ read (is_none_of w) (is_negative_of w) (size_of w) bs
word_reads None bs h = refl
word_reads (Some (pos n)) bs h = number_reads n h false false bs
word_reads (Some (negsuc n)) bs h = number_reads (suc n) h false true bs

same_word : (w : Option ℤ) → word_read (is_none_of w) (is_negative_of w) (size_of w) ≡ w
same_word None = refl
same_word (Some (pos n)) = refl
same_word (Some (negsuc n)) = refl

words_read : (w : Option ℤ) (ws : List (Option ℤ)) → IsSmall w → AreSmall ws → read false false 0 (words_text (w ∷ ws)) ≡ w ∷ ws
words_read w [] h hs = word_reads w [] h ∙ ap (λ w. w ∷ []) (same_word w)
words_read w (v ∷ vs) h hs =
    word_reads w (more_text (v ∷ vs)) h ∙ ap (λ w. w ∷ read false false 0 (words_text (v ∷ vs))) (same_word w) ∙ ap (λ ws. w ∷ ws) (words_read v vs hs.0 hs.1)

pub words_back : WordsComeBack
unfolding words_of
words_back w ws h hs =
    ap (if_same (words_text (w ∷ ws))) (words_read w ws h hs) ∙
    ap (λ c. if c then Some (w ∷ ws) else None) ((bytes_eq-Decides (words_text (w ∷ ws)) (words_text (w ∷ ws))).1 refl)

same_text : (text : List ℕ) (vs ws : List (Option ℤ)) → if_same text vs ≡ Some ws → words_text ws ≡ text
same_text text vs ws e =
    by_bool (bytes_eq (words_text vs) text)
    (λ k. let i : vs ≡ ws = same_Some vs ws (sym (ap (λ c. if c then Some vs else None) k) ∙ e) in ap words_text (sym i) ∙ (bytes_eq-Decides (words_text vs) text).0 k)
    (λ k. let i : None ≡ Some ws = sym (ap (λ c. if c then Some vs else None) k) ∙ e in absurd cc)

pub reading_exact : ReadingIsExact
unfolding words_of
reading_exact text ws e = same_text text (read false false 0 text) ws e
