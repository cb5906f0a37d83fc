-- Tables as lists, row by row.
use Rattle.std.specs.Prelude.{◌≡◌, ℕ, ◌+◌, ◌*◌, ◌<◌, ◌/◌, ◌%◌, ℤ, List, length, Option, None}
use Rattle.std.proofs.Common.{sym, ap, ◌∙◌, arith, get_or}
use Rattle.std.proofs.lemmas.List.FromFn.{length-map-range_with_len, get_or-map-range_with_len, fill_by_all}
use Rattle.std.proofs.lemmas.Nat.{div-add-mod', div-mul-add, mod-mul-add, mul-add-lt}
use Rattle.dom_octagon_words.specs.Words.{at_place, table_told, word_at}
use Rattle.dom_octagon_words.proofs.Below.{place_within}

pub table-length : (n : ℕ) (f : ℕ → ℕ → Option ℤ) → length (table_told n f) ≡ n * n
table-length n f = length-map-range_with_len (at_place n f) 0 (n * n)

-- what stands in a table
pub table-word : (n : ℕ) (f : ℕ → ℕ → Option ℤ) (i j : ℕ) → i < n → j < n → word_at (table_told n f) n i j ≡ f i j
table-word n f i j hi hj =
    get_or-map-range_with_len (at_place n f) 0 (n * n) (i * n + j) (i * n + j) None (mul-add-lt i n j n hi hj) (omega arith) ∙
    (λ k. f (div-mul-add i n j hj k) (mod-mul-add i n j hj k))

-- words are the table of what stands in them
pub table-back : (n : ℕ) (ws : List (Option ℤ)) → length ws ≡ n * n → table_told n (word_at ws n) ≡ ws
table-back n ws e = sym (fill_by_all (at_place n (word_at ws n)) ws (n * n) None e (λ p l. ap (λ q. get_or ws q None) (sym (div-add-mod' p n))))

-- tables of the same
pub table-same : (n : ℕ) (f g : ℕ → ℕ → Option ℤ) → ((i j : ℕ) → i < n → j < n → f i j ≡ g i j) → table_told n f ≡ table_told n g
table-same n f g h =
    fill_by_all (at_place n g) (table_told n f) (n * n) None (table-length n f)
    (λ p l. let w = place_within n p l in get_or-map-range_with_len (at_place n f) 0 (n * n) p p None l (omega arith) ∙ h (p / n) (p % n) w.0 w.1)
