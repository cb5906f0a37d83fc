-- The text of a table, place by place, and where its words stand.
use Rattle.std.specs.Prelude.{◌≡◌, ℕ, ◌+◌, ◌*◌, ◌<◌, ◌≤◌, ◌/◌, ◌%◌, ◌≢◌, ℤ, List, ◌∷◌, ◌++◌, map, Option}
use Rattle.std.specs.List.{range_with_len}
use Rattle.std.proofs.Common.{sym, ap, ◌∙◌, arith, subst, append_assoc}
use Rattle.std.proofs.lemmas.List.FromFn.{map-range_with_len_more}
use Rattle.std.proofs.lemmas.Nat.{mul-le, mul-add-lt}
use Rattle.cert_words.specs.Words.{word_text, more_text}
use Rattle.cert_words.proofs.Texts.{more_last}
use Rattle.dom_octagon_words.specs.Words.{at_place}

-- one place is written
pub place_step : (old text : List ℕ) (n p : ℕ) (f : ℕ → ℕ → Option ℤ) (w : Option ℤ) → w ≡ f (p / n) (p % n) → text ≡ old ++ more_text (map (at_place n f) (range_with_len 0 p)) →
    text ++ (32 ∷ word_text w) ≡ old ++ more_text (map (at_place n f) (range_with_len 0 (p + 1)))
place_step old text n p f w is e =
    let ws : List (Option ℤ) = map (at_place n f) (range_with_len 0 p) in
    (λ i. e i ++ (32 ∷ word_text (is i))) ∙
    append_assoc old (more_text ws) (32 ∷ word_text (at_place n f p)) ∙
    ap (λ t. old ++ t) (sym (more_last ws (at_place n f p))) ∙
    ap (λ ws. old ++ more_text ws) (sym (map-range_with_len_more (at_place n f) 0 p p (omega arith)))

-- so many places, no more than a matrix of 16 slots has
pub few_places : (n : ℕ) → n ≤ 32 → n * n ≤ 1024
few_places n h = mul-le n n 32 32 h h

-- a table with a place has rows
pub some_row : (n p : ℕ) → p < n * n → n ≢ 0
some_row n p l e = let z : p < 0 * n = subst (λ k. p < k * n) e l in omega arith

pub word_within : (n i j : ℕ) → i < n → j < n → n ≤ 32 → (i * n + j < n * n) × (i * n + j < 1024)
word_within n i j hi hj h = let w : i * n + j < n * n = mul-add-lt i n j n hi hj in (w, omega (arith, few_places n h))
