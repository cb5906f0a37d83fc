-- Bits that tell which numbers are there.
use Rattle.std.proofs.Common.{◌≡◌, ◌≢◌, ℕ, ◌/◌, ◌%◌, ◌*◌, ◌^◌, ◌<◌, ◌≤◌, List, [], length, get_or, nat_eq, nat_lt, bit_and, bit_or, false, sym, ap, ◌∙◌, arith, inl, inr, w64}
use Rattle.std.specs.Int.{bit_at}
use Rattle.std.specs.Bool.{Decides}
use Rattle.std.proofs.lemmas.Nat.{div-add-mod'}
use Rattle.std.proofs.lemmas.Nat.Bits.{shr_and_one, bit_at-zero, bit_at_set_same, bit_at_set_other}
use Rattle.std.proofs.lemmas.List.{get_or-set_same, get_or-set_other, get_or_past}
use Rattle.std.proofs.lemmas.Bool.{cases_eq}
use Rattle.std.proofs.lemmas.Bool.Decides.{nat_tests}
use Rattle.base_values.proofs.Cases.{by_bool, equal_test}
use Rattle.base_sets.specs.Bits.{HasBit, SameWords, with_bit}

-- a word of zeros has no bits
pub blank : (words : List ℕ) (n : ℕ) → get_or words (n / 64) 0 ≡ 0 → HasBit words n → ⊥
blank words n e h =
    let z : bit_at (get_or words (n / 64) 0) (n % 64) ≡ 0 = ap (λ w. bit_at w (n % 64)) e ∙ bit_at-zero (n % 64) in
    let o : bit_at (get_or words (n / 64) 0) (n % 64) ≡ 1 = h in
    let same : 0 ≡ 1 = sym z ∙ o in
    omega (arith, same)

pub no_bits : (words : List ℕ) → words ≡ [] → (n : ℕ) → HasBit words n → ⊥
no_bits words e n = blank words n (ap (λ l. get_or l (n / 64) 0) e)

-- a number past all words is not there
pub past_bits : (words : List ℕ) (n : ℕ) → length words ≤ n / 64 → Decides false (HasBit words n)
past_bits words n h = (λ t. absurd cc, λ m. absurd (blank words n (get_or_past words (n / 64) 0 h) m))

-- the test of a bit
pub tests_bit : (words : List ℕ) (n : ℕ) → Decides (nat_eq (bit_and (get_or words (n / 64) 0 / 2 ^ (n % 64)) 1) 1) (HasBit words n)
tests_bit words n =
    let e = shr_and_one (get_or words (n / 64) 0) (n % 64) in (
      λ t. (let q : bit_and (get_or words (n / 64) 0 / 2 ^ (n % 64)) 1 ≡ 1 = grind (arith, nat_tests) in sym e ∙ q),
      λ h. equal_test (bit_and (get_or words (n / 64) 0 / 2 ^ (n % 64)) 1) 1 (e ∙ h),
    )

-- more words, all of them zeros
pub same_words : (old new : List ℕ) (count : ℕ) → length new ≡ count → length old ≤ count
    → ((k d : ℕ) → k < count → k < length old → get_or new k d ≡ get_or old k d) → ((k d : ℕ) → length old ≤ k → k < count → get_or new k d ≡ 0)
    → SameWords old new
same_words old new count many more kept zeros k = by_bool (nat_lt k count)
    (λ t. let below : k < count = grind (arith, nat_tests) in
    by_bool (nat_lt k (length old))
    (λ u. let under : k < length old = grind (arith, nat_tests) in kept k 0 below under)
    (λ u. let over : length old ≤ k = grind (arith, nat_tests) in zeros k 0 over below ∙ sym (get_or_past old k 0 over)))
    (λ t. let above : count ≤ k = grind (arith, nat_tests) in
    get_or_past new k 0 (omega (arith, many, above)) ∙ sym (get_or_past old k 0 (omega (arith, more, above))))

module _ (old words : List ℕ) (same : SameWords old words) (n : ℕ) (within : n / 64 < length words) where
  low : n % 64 < 64
  low = omega arith

  word : get_or (with_bit words n) (n / 64) 0 ≡ bit_or (get_or words (n / 64) 0) (1 * 2 ^ (n % 64) % 2 ^ 64)
  word = get_or-set_same words (n / 64) (bit_or (get_or words (n / 64) 0) (1 * 2 ^ (n % 64) % 2 ^ 64)) 0 within

  pub bit_here : HasBit (with_bit words n) n
  bit_here = ap (λ w. bit_at w (n % 64)) word ∙ bit_at_set_same w64 (get_or words (n / 64) 0) (n % 64) low

  -- in the same word another bit
  other_bit : (m : ℕ) → m ≢ n → m / 64 ≡ n / 64 → m % 64 ≢ n % 64
  other_bit m ne e f =
      let a = div-add-mod' m 64 in
      let b = div-add-mod' n 64 in
      ne (omega (arith, a, b, e, f))

  bit_kept : (m : ℕ) → m ≢ n → bit_at (get_or (with_bit words n) (m / 64) 0) (m % 64) ≡ bit_at (get_or words (m / 64) 0) (m % 64)
  bit_kept m ne = elim (cases_eq (m / 64) (n / 64)) [
    | inl e ↦
        ap (λ k. bit_at (get_or (with_bit words n) k 0) (m % 64)) e
        ∙ ap (λ w. bit_at w (m % 64)) word
        ∙ bit_at_set_other w64 (get_or words (n / 64) 0) (n % 64) low (m % 64) (other_bit m ne e)
        ∙ ap (λ k. bit_at (get_or words k 0) (m % 64)) (sym e)
    | inr other ↦ ap (λ w. bit_at w (m % 64)) (get_or-set_other words (n / 64) (m / 64) (bit_or (get_or words (n / 64) 0) (1 * 2 ^ (n % 64) % 2 ^ 64)) 0 other)
  ]

  pub bit_same : (m : ℕ) → m ≢ n → bit_at (get_or (with_bit words n) (m / 64) 0) (m % 64) ≡ bit_at (get_or old (m / 64) 0) (m % 64)
  bit_same m ne = bit_kept m ne ∙ ap (λ w. bit_at w (m % 64)) (same (m / 64))
