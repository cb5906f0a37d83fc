-- A text is compared only with the reserved words of its length.
use Rattle.std.proofs.Common.{◌≡◌, ◌≢◌, ℕ, Bool, true, false, cond, List, [], ◌∷◌, length, Option, Some, None, refl, sym, ap, ◌∙◌, arith}
use Rattle.std.specs.Prelude.{◌==◌}
use Rattle.std.specs.Str.{bytes_eq}
use Rattle.std.proofs.lemmas.Slice.Eq.{bytes_eq-Decides}
use Rattle.std.proofs.lemmas.Bool.Decides.{nat_tests}
use Rattle.imp_lex.specs.Kinds.{look_up, of_length, reserved_words, reserved_word}

-- texts of two lengths are two texts
apart : (w t : List ℕ) (b : Bool) → bytes_eq w t ≡ b → (length t == length w) ≡ false → b ≡ false
apart w t false e differ = refl
apart w t true e differ =
    let same : length t ≡ length w = ap length (sym ((bytes_eq-Decides w t).0 e)) in
    absurd (grind (arith, nat_tests, same, differ))

found : {A : Type 0} (w t : List ℕ) (x : A) (b : Bool) (rest others : Option A) (kept : List (List ℕ × A)) → (length t == length w) ≡ b → others ≡ look_up w kept → rest ≡ others
    → cond (bytes_eq w t) (Some x) rest ≡ look_up w (cond b ((t, x) ∷ kept) kept)
found w t x true rest others kept is o e = ap (cond (bytes_eq w t) (Some x)) (e ∙ o)
found w t x false rest others kept is o e = ap (λ c. cond c (Some x) rest) (apart w t (bytes_eq w t) refl is) ∙ e ∙ o

by_length : {A : Type 0} (w : List ℕ) (entries : List (List ℕ × A)) → look_up w entries ≡ look_up w (of_length (length w) entries)
by_length w [] = refl
by_length w ((t, x) ∷ entries) = found w t x (length t == length w) (look_up w entries) (look_up w (of_length (length w) entries)) (of_length (length w) entries) refl refl (by_length w entries)

of_its_length : (n : ℕ) (w : List ℕ) → length w ≡ n → look_up w (of_length n reserved_words) ≡ reserved_word w
unfolding reserved_word
of_its_length n w e = ap (λ k. look_up w (of_length k reserved_words)) (sym e) ∙ sym (by_length w reserved_words)

pub of_two : (w : List ℕ) → length w ≡ 2 → look_up w (of_length 2 reserved_words) ≡ reserved_word w
of_two w e = of_its_length 2 w e

pub of_three : (w : List ℕ) → length w ≡ 3 → look_up w (of_length 3 reserved_words) ≡ reserved_word w
of_three w e = of_its_length 3 w e

pub of_four : (w : List ℕ) → length w ≡ 4 → look_up w (of_length 4 reserved_words) ≡ reserved_word w
of_four w e = of_its_length 4 w e

pub of_five : (w : List ℕ) → length w ≡ 5 → look_up w (of_length 5 reserved_words) ≡ reserved_word w
of_five w e = of_its_length 5 w e

pub of_six : (w : List ℕ) → length w ≡ 6 → look_up w (of_length 6 reserved_words) ≡ reserved_word w
of_six w e = of_its_length 6 w e

-- no reserved word has another length
none_of_length : (n : ℕ) → n ≢ 2 → n ≢ 3 → n ≢ 4 → n ≢ 5 → n ≢ 6 → of_length n reserved_words ≡ []
none_of_length n two three four five six =
    let e2 : (2 == n) ≡ false = grind (arith, nat_tests, two) in
    let e3 : (3 == n) ≡ false = grind (arith, nat_tests, three) in
    let e4 : (4 == n) ≡ false = grind (arith, nat_tests, four) in
    let e5 : (5 == n) ≡ false = grind (arith, nat_tests, five) in
    let e6 : (6 == n) ≡ false = grind (arith, nat_tests, six) in
    rw (e2, e3, e4, e5, e6) refl

pub of_no_word : (w : List ℕ) → length w ≢ 2 → length w ≢ 3 → length w ≢ 4 → length w ≢ 5 → length w ≢ 6 → None ≡ reserved_word w
unfolding reserved_word
of_no_word w two three four five six = sym (by_length w reserved_words ∙ ap (look_up w) (none_of_length (length w) two three four five six))
