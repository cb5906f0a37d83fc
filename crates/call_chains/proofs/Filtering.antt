-- The chains that end in a call string.
use Rattle.std.proofs.Common.{ℕ, ◌≡◌, ◌≢◌, ◌+◌, ◌<◌, ◌≤◌, true, false, List, ◌∷◌, length, drop, get_or, slice_get, Some, refl, ap, ◌∙◌, drop-cons}
use Rattle.std.specs.Prelude.{if◌then◌else◌}
use Rattle.std.proofs.lemmas.List.{drop_all}
use Rattle.imp_chains.specs.Chains.{ends_in, ending_in}
use Rattle.base_values.proofs.Lists.{drop_item, drop_from}
use Rattle.base_values.proofs.Cases.{by_test}

pub ends_step : (s z : List ℕ) (i k n : ℕ) → i < length s → k ≡ get_or s i k → slice_get z i ≡ Some n → k ≡ n → ends_in (drop i s) (drop i z) ≡ ends_in (drop (i + 1) s) (drop (i + 1) z)
ends_step s z i k n h e g same =
    (λ j. ends_in (drop_item s i k h e j) (drop_from z i n g j))
    ∙ by_test k n (λ c. (if c then ends_in (drop (i + 1) s) (drop (i + 1) z) else false) ≡ ends_in (drop (i + 1) s) (drop (i + 1) z)) (λ m. refl) (λ m. absurd (m same))

pub ends_other : (s z : List ℕ) (i k n : ℕ) → i < length s → k ≡ get_or s i k → slice_get z i ≡ Some n → k ≢ n → ends_in (drop i s) (drop i z) ≡ false
ends_other s z i k n h e g other =
    (λ j. ends_in (drop_item s i k h e j) (drop_from z i n g j))
    ∙ by_test k n (λ c. (if c then ends_in (drop (i + 1) s) (drop (i + 1) z) else false) ≡ false) (λ m. absurd (other m)) (λ m. refl)

pub ends_short : (s z : List ℕ) (i : ℕ) → i < length s → length z ≤ i → ends_in (drop i s) (drop i z) ≡ false
ends_short s z i h k = (λ j. ends_in (drop-cons s i 0 h j) (drop_all i z k j))

pub ends_all : (s z : List ℕ) (i : ℕ) → length s ≤ i → ends_in (drop i s) (drop i z) ≡ true
ends_all s z i h = ap (λ xs. ends_in xs (drop i z)) (drop_all i s h)

pub ending_taken : (s : List ℕ) (zs : List (List ℕ)) (i : ℕ) (z : List ℕ) → i < length zs → z ≡ get_or zs i z → ends_in s z ≡ true → ending_in s (drop i zs) ≡ z ∷ ending_in s (drop (i + 1) zs)
ending_taken s zs i z h e t = ap (ending_in s) (drop_item zs i z h e) ∙ rw t refl

pub ending_left : (s : List ℕ) (zs : List (List ℕ)) (i : ℕ) (z : List ℕ) → i < length zs → z ≡ get_or zs i z → ends_in s z ≡ false → ending_in s (drop i zs) ≡ ending_in s (drop (i + 1) zs)
ending_left s zs i z h e t = ap (ending_in s) (drop_item zs i z h e) ∙ rw t refl
