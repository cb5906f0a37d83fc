-- Bits that tell which numbers are marked.
use Rattle.std.proofs.Common.{◌≡◌, ◌≢◌, ℕ, ◌/◌, ◌%◌, ◌*◌, ◌^◌, ◌<◌, ◌≤◌, ◌+◌, List, [], length, get_or, nat_eq, nat_lt, bit_and, bit_or, false, sym, ap, subst, ◌∙◌, arith, inl, inr, w64}
use Rattle.std.specs.Int.{bit_at}
use Rattle.std.specs.Bool.{Decides}
use Rattle.std.proofs.lemmas.Nat.{div-add-mod'}
use Rattle.std.proofs.lemmas.Nat.Bits.{shr_and_one, bit_at-zero, bit_at_set_same, bit_at_set_other}
use Rattle.std.proofs.lemmas.List.{length-set, get_or-set_same, get_or-set_other, get_or_past}
use Rattle.std.proofs.lemmas.Bool.{cases_eq}
use Rattle.std.proofs.lemmas.Bool.Decides.{nat_tests}
use Rattle.base_values.proofs.Cases.{by_bool, equal_test}
use Rattle.cell_removal.specs.Marks.{HasMark, HasRoom, Puts, with_mark}

-- a word of zeros has no marks
blank : (words : List ℕ) (n : ℕ) → get_or words (n / 64) 0 ≡ 0 → HasMark words n → ⊥
blank words n e h =
    let z : bit_at (get_or words (n / 64) 0) (n % 64) ≡ 0 = ap (λ w. bit_at w (n % 64)) e ∙ bit_at-zero (n % 64) in
    let o : bit_at (get_or words (n / 64) 0) (n % 64) ≡ 1 = h in
    let same : 0 ≡ 1 = sym z ∙ o in
    omega (arith, same)

-- words of zeros have no marks
pub none_marked : (old words : List ℕ) (count : ℕ) → old ≡ [] → length words ≡ count → ((k d : ℕ) → length old ≤ k → k < count → get_or words k d ≡ 0) → (n : ℕ) → HasMark words n → ⊥
none_marked old words count none many zeros n = blank words n (by_bool (nat_lt (n / 64) count)
    (λ t. let below : n / 64 < count = grind (arith, nat_tests) in zeros (n / 64) 0 (omega (arith, ap length none)) below)
    (λ t. let above : count ≤ n / 64 = grind (arith, nat_tests) in get_or_past words (n / 64) 0 (omega (arith, many, above))))

-- as many words as a room wants
pub room_below : (words : List ℕ) (room : ℕ) → length words ≡ room / 64 + 1 → (n : ℕ) → n < room → HasRoom words n
room_below words room many n below = omega (arith, below, many)

-- a number past all words is not marked
pub past_marks : (words : List ℕ) (n : ℕ) → length words ≤ n / 64 → Decides false (HasMark words n)
past_marks words n h = (λ t. absurd cc, λ m. absurd (blank words n (get_or_past words (n / 64) 0 h) m))

-- the test of a bit
pub tests_mark : (words : List ℕ) (n : ℕ) → Decides (nat_eq (bit_and (get_or words (n / 64) 0 / 2 ^ (n % 64)) 1) 1) (HasMark words n)
tests_mark words n =
    let e = shr_and_one (get_or words (n / 64) 0) (n % 64) in (
      λ t. (let q : bit_and (get_or words (n / 64) 0 / 2 ^ (n % 64)) 1 ≡ 1 = grind (arith, nat_tests) in sym e ∙ q),
      λ h. equal_test (bit_and (get_or words (n / 64) 0 / 2 ^ (n % 64)) 1) 1 (e ∙ h),
    )

module _ (words : List ℕ) (n : ℕ) (within : n / 64 < length words) where
  low : n % 64 < 64
  low = omega arith

  word : get_or (with_mark words n) (n / 64) 0 ≡ bit_or (get_or words (n / 64) 0) (1 * 2 ^ (n % 64) % 2 ^ 64)
  word = get_or-set_same words (n / 64) (bit_or (get_or words (n / 64) 0) (1 * 2 ^ (n % 64) % 2 ^ 64)) 0 within

  mark_here : HasMark (with_mark words n) n
  mark_here = ap (λ w. bit_at w (n % 64)) word ∙ bit_at_set_same w64 (get_or words (n / 64) 0) (n % 64) low

  -- in the same word another bit
  other_bit : (m : ℕ) → m ≢ n → m / 64 ≡ n / 64 → m % 64 ≢ n % 64
  other_bit m ne e f =
      let a = div-add-mod' m 64 in
      let b = div-add-mod' n 64 in
      ne (omega (arith, a, b, e, f))

  bit_kept : (m : ℕ) → m ≢ n → bit_at (get_or (with_mark words n) (m / 64) 0) (m % 64) ≡ bit_at (get_or words (m / 64) 0) (m % 64)
  bit_kept m ne = elim (cases_eq (m / 64) (n / 64)) [
    | inl e ↦
        ap (λ k. bit_at (get_or (with_mark words n) k 0) (m % 64)) e
        ∙ ap (λ w. bit_at w (m % 64)) word
        ∙ bit_at_set_other w64 (get_or words (n / 64) 0) (n % 64) low (m % 64) (other_bit m ne e)
        ∙ ap (λ k. bit_at (get_or words k 0) (m % 64)) (sym e)
    | inr other ↦ ap (λ w. bit_at w (m % 64)) (get_or-set_other words (n / 64) (m / 64) (bit_or (get_or words (n / 64) 0) (1 * 2 ^ (n % 64) % 2 ^ 64)) 0 other)
  ]

  puts_mark : Puts words (with_mark words n) n
  puts_mark = record { here = mark_here; others = λ m ne. (λ h. sym (bit_kept m ne) ∙ h, λ h. bit_kept m ne ∙ h) }

pub puts_bit : (words new : List ℕ) (n : ℕ) → n / 64 < length words → new ≡ with_mark words n → Puts words new n
puts_bit words new n within e = subst (λ xs. Puts words xs n) (sym e) (puts_mark words n within)

pub length-mark : (words : List ℕ) (n : ℕ) → length (with_mark words n) ≡ length words
length-mark words n = length-set words (n / 64) (bit_or (get_or words (n / 64) 0) (1 * 2 ^ (n % 64) % 2 ^ 64))
