-- The numbers whose bits are set, as a rising list.
use Rattle.std.proofs.Common.{◌≡◌, ◌≢◌, ℕ, zero, suc, ◌+◌, ◌*◌, ◌-◌, ◌/◌, ◌%◌, ◌<◌, ◌≤◌, ◌^◌, All, List, [], ◌∷◌, ◌++◌, length, Bool, true, false, if◌then◌else◌, nat_eq, nat_lt, get_or, bit_and, Contains, refl, sym, ap, subst, ◌∙◌, inl, inr, arith}
use Rattle.std.specs.Int.{bit_at}
use Rattle.std.specs.Bool.{Decides}
use Rattle.std.proofs.lemmas.Nat.Bits.{shr_and_one, bit_at-zero, bit_at_ones}
use Rattle.std.proofs.lemmas.List.{get_or_default}
use Rattle.std.proofs.lemmas.Bool.{cases_eq}
use Rattle.std.proofs.lemmas.Bool.Decides.{nat_tests}
use Rattle.base_values.proofs.Cases.{by_bool, equal_test}
use Rattle.base_values.proofs.Members.{Member, here, there, in_left, in_right, either, contains_of, member_of}
use Rattle.base_sets.specs.Bits.{HasBit, SameWords, has_bit, numbers_below, numbers_in, with_bit}
use Rattle.base_sets.specs.Sets.{Puts, Strict}
use Rattle.base_sets.proofs.Bits.{bit_here, bit_same, past_bits, tests_bit}
use Rattle.base_sets.proofs.Rising.{cases, in_put, put, put_only, stays_put, strict_put, strict_same}

-- the test of a bit
bit_test : (words : List ℕ) (n : ℕ) → has_bit words n ≡ true → HasBit words n
bit_test words n e = grind (arith, nat_tests)

no_bit : (words : List ℕ) (n : ℕ) → has_bit words n ≡ false → HasBit words n → ⊥
no_bit words n e h = let t : has_bit words n ≡ true = equal_test _ 1 h in let f = sym t ∙ e in cc

-- one number more
pub with_one : (words : List ℕ) (n : ℕ) → HasBit words n → numbers_below words (suc n) ≡ numbers_below words n ++ n ∷ []
with_one words n h = go (has_bit words n) refl
  where
    go : (b : Bool) → has_bit words n ≡ b → numbers_below words (suc n) ≡ numbers_below words n ++ n ∷ []
    go true e = ap (λ b. if b then numbers_below words n ++ n ∷ [] else numbers_below words n) e
    go false e = absurd (no_bit words n e h)

pub without_one : (words : List ℕ) (n : ℕ) → (HasBit words n → ⊥) → numbers_below words (suc n) ≡ numbers_below words n
without_one words n h = go (has_bit words n) refl
  where
    go : (b : Bool) → has_bit words n ≡ b → numbers_below words (suc n) ≡ numbers_below words n
    go true e = absurd (h (bit_test words n e))
    go false e = ap (λ b. if b then numbers_below words n ++ n ∷ [] else numbers_below words n) e

-- what is below a limit
pub below_has : (words : List ℕ) (limit n : ℕ) → n < limit → HasBit words n → Member n (numbers_below words limit)
below_has words zero n l h = absurd (omega arith)
below_has words (suc k) n l h =
    elim (cases_eq n k) [
      | inl e ↦ subst (λ xs. Member n xs) (sym (with_one words k (subst (HasBit words) e h))) (in_right (numbers_below words k) (subst (λ j. Member n (j ∷ [])) e here))
      | inr d ↦ on (has_bit words k) refl (below_has words k n (omega (arith, l, d)) h)
    ]
  where
    on : (b : Bool) → has_bit words k ≡ b → Member n (numbers_below words k) → Member n (if has_bit words k then numbers_below words k ++ k ∷ [] else numbers_below words k)
    on b e m = subst (λ b. Member n (if b then numbers_below words k ++ k ∷ [] else numbers_below words k)) (sym e) (by b m)
      where
        by : (b : Bool) → Member n (numbers_below words k) → Member n (if b then numbers_below words k ++ k ∷ [] else numbers_below words k)
        by true m = in_left (k ∷ []) m
        by false m = m

pub has_below : (words : List ℕ) (limit n : ℕ) → Member n (numbers_below words limit) → (n < limit) × HasBit words n
has_below words zero n m = elim m [ ]
has_below words (suc k) n m = by (has_bit words k) refl m (λ a. has_below words k n a)
  where
    more : (n < k) × HasBit words n → (n < suc k) × HasBit words n
    more h = (omega (arith, h.0), h.1)

    last : HasBit words k → Member n (k ∷ []) → (n < suc k) × HasBit words n
    last h m = elim (cases n k [] m) [ inl e ↦ (omega (arith, e), subst (HasBit words) (sym e) h) | inr a ↦ elim a [ ] ]

    by : (b : Bool) → has_bit words k ≡ b → Member n (if b then numbers_below words k ++ k ∷ [] else numbers_below words k) → (Member n (numbers_below words k) → (n < k) × HasBit words n) → (n < suc k) × HasBit words n
    by true e m f = elim (either n (numbers_below words k) (k ∷ []) m) [ inl a ↦ more (f a) | inr b ↦ last (bit_test words k e) b ]
    by false e m f = more (f m)

-- it rises
strict_last : (xs : List ℕ) (n : ℕ) → Strict xs → ((i : ℕ) → Member i xs → i < n) → Strict (xs ++ n ∷ [])
strict_last [] n s h = ((λ k m. elim m [ ]), tt)
strict_last (x ∷ xs) n s h = (
  λ k m. elim (either k xs (n ∷ []) m) [ inl a ↦ s.0 k a | inr b ↦ elim (cases k n [] b) [ inl e ↦ subst (λ j. x < j) (sym e) (h x here) | inr a ↦ elim a [ ] ] ],
  strict_last xs n s.1 (λ i m. h i (there m)),
)

pub below_strict : (words : List ℕ) (limit : ℕ) → Strict (numbers_below words limit)
below_strict words zero = tt
below_strict words (suc k) = by (has_bit words k) (below_strict words k)
  where
    by : (b : Bool) → Strict (numbers_below words k) → Strict (if b then numbers_below words k ++ k ∷ [] else numbers_below words k)
    by true s = strict_last (numbers_below words k) k s (λ i m. (has_below words k i m).0)
    by false s = s

-- all numbers stand in words
pub within : (words : List ℕ) (n : ℕ) → HasBit words n → n < 64 * length words
within words n h =
    by_bool (nat_lt (n / 64) (length words))
    (λ t. let l : n / 64 < length words = grind (arith, nat_tests) in omega (arith, l))
    (λ t. let l : length words ≤ n / 64 = grind (arith, nat_tests) in let p = (past_bits words n l).1 h in cc)

pub has_number : (words : List ℕ) (n : ℕ) → HasBit words n → Contains (numbers_in words) n
has_number words n h = contains_of n (numbers_in words) (below_has words (64 * length words) n (within words n h) h)

pub number_has : (words : List ℕ) (n : ℕ) → Contains (numbers_in words) n → HasBit words n
number_has words n c = (has_below words (64 * length words) n (member_of n (numbers_in words) c)).1

pub decides_number : (words : List ℕ) (n : ℕ) (b : Bool) → Decides b (HasBit words n) → Decides b (Contains (numbers_in words) n)
decides_number words n b d = (λ t. has_number words n (d.0 t), λ c. d.1 (number_has words n c))

-- the words with one bit more
module _ (old words : List ℕ) (same : SameWords old words) (n : ℕ) (within_words : n / 64 < length words) where
  new_has : HasBit (with_bit words n) n
  new_has = bit_here old words same n within_words

  kept : (m : ℕ) → m ≢ n → HasBit old m → HasBit (with_bit words n) m
  kept m d h = bit_same old words same n within_words m d ∙ h

  before : (m : ℕ) → m ≢ n → HasBit (with_bit words n) m → HasBit old m
  before m d h = sym (bit_same old words same n within_words m d) ∙ h

  pub puts_number : Puts (numbers_in old) (numbers_in (with_bit words n)) n
  puts_number = record {
    here = has_number (with_bit words n) n new_has;
    others = λ m d. (λ c. has_number old m (before m d (number_has (with_bit words n) m c)), λ c. has_number (with_bit words n) m (kept m d (number_has old m c)));
  }

  pub inserts_number : numbers_in (with_bit words n) ≡ put (numbers_in old) n
  inserts_number =
      strict_same (numbers_in (with_bit words n)) (put (numbers_in old) n) (below_strict (with_bit words n) (64 * length (with_bit words n)))
      (strict_put (numbers_in old) n (below_strict old (64 * length old))) into from
    where
      into : (i : ℕ) → Member i (numbers_in (with_bit words n)) → Member i (put (numbers_in old) n)
      into i m =
          elim (cases_eq i n) [
            | inl e ↦ subst (λ j. Member j (put (numbers_in old) n)) (sym e) (in_put (numbers_in old) n)
            | inr d ↦ stays_put (numbers_in old) n i
                (member_of i (numbers_in old) (has_number old i (before i d (number_has (with_bit words n) i (contains_of i (numbers_in (with_bit words n)) m)))))
          ]

      from : (i : ℕ) → Member i (put (numbers_in old) n) → Member i (numbers_in (with_bit words n))
      from i m = member_of i (numbers_in (with_bit words n)) (elim (put_only (numbers_in old) n i m) [
        | inl e ↦ has_number (with_bit words n) i (subst (HasBit (with_bit words n)) (sym e) new_has)
        | inr a ↦ elim (cases_eq i n) [
          | inl e ↦ has_number (with_bit words n) i (subst (HasBit (with_bit words n)) (sym e) new_has)
          | inr d ↦ has_number (with_bit words n) i (kept i d (number_has old i (contains_of i (numbers_in old) a)))
        ]
      ])

pub added : (old words new : List ℕ) (n : ℕ) → SameWords old words → n / 64 < length words → new ≡ with_bit words n → Puts (numbers_in old) (numbers_in new) n × (numbers_in new ≡ put (numbers_in old) n)
added old words new n same l e =
    subst (λ xs. Puts (numbers_in old) (numbers_in xs) n × (numbers_in xs ≡ put (numbers_in old) n)) (sym e) (puts_number old words same n l, inserts_number old words same n l)

-- a word of zeros has no numbers
zeros_more : (words : List ℕ) (first count : ℕ) → ((k : ℕ) → k < count → HasBit words (first + k) → ⊥) → numbers_below words (first + count) ≡ numbers_below words first
zeros_more words first zero f = let e : first + 0 ≡ first = omega arith in ap (numbers_below words) e
zeros_more words first (suc k) f =
    let e : first + suc k ≡ suc (first + k) = omega arith in
    ap (numbers_below words) e ∙ without_one words (first + k) (f k (omega arith)) ∙ zeros_more words first k (λ j l. f j (omega (arith, l)))

place_of : (place bit : ℕ) → bit < 64 → (64 * place + bit) / 64 ≡ place
place_of place bit l = omega (arith, l)

bit_of : (place bit : ℕ) → bit < 64 → (64 * place + bit) % 64 ≡ bit
bit_of place bit l = omega (arith, l)

-- the bits of a word
has_of : (words : List ℕ) (place bit : ℕ) → bit < 64 → bit_at (get_or words place 0) bit ≡ 1 → HasBit words (64 * place + bit)
has_of words place bit l e = ap (bit_at (get_or words ((64 * place + bit) / 64) 0)) (bit_of place bit l) ∙ ap (λ p. bit_at (get_or words p 0) bit) (place_of place bit l) ∙ e

of_has : (words : List ℕ) (place bit : ℕ) → bit < 64 → HasBit words (64 * place + bit) → bit_at (get_or words place 0) bit ≡ 1
of_has words place bit l h = sym (ap (bit_at (get_or words ((64 * place + bit) / 64) 0)) (bit_of place bit l) ∙ ap (λ p. bit_at (get_or words p 0) bit) (place_of place bit l)) ∙ h

pub zero_word : (words : List ℕ) (place : ℕ) → get_or words place 0 ≡ 0 → numbers_below words (64 * (place + 1)) ≡ numbers_below words (64 * place)
zero_word words place e =
    let more : 64 * (place + 1) ≡ 64 * place + 64 = omega arith in
    ap (numbers_below words) more
    ∙ zeros_more words (64 * place) 64 (λ k l h.
    let o = of_has words place k l h in
    let z : bit_at (get_or words place 0) k ≡ 0 = ap (λ w. bit_at w k) e ∙ bit_at-zero k in
    let same : 0 ≡ 1 = sym z ∙ o in
    absurd (omega (arith, same)))

-- the test of a bit of a word
pub tested_bit : (words : List ℕ) (place bit : ℕ) → bit < 64 → bit_and (get_or words place 0 / 2 ^ bit) 1 ≡ 1 → HasBit words (64 * place + bit)
tested_bit words place bit l t = has_of words place bit l (sym (shr_and_one (get_or words place 0) bit) ∙ t)

-- a word that has all its bits set
pub full_bit : (words : List ℕ) (place bit : ℕ) → bit < 64 → get_or words place 0 ≡ 2 ^ 64 - 1 → bit_and (get_or words place 0 / 2 ^ bit) 1 ≡ 1
full_bit words place bit l e = shr_and_one (get_or words place 0) bit ∙ ap (λ w. bit_at w bit) e ∙ bit_at_ones 64 bit l

-- what holds of all the numbers holds of one
pub number_keeps : (P : ℕ → Type 0) (words : List ℕ) (n : ℕ) → All P (numbers_in words) → HasBit words n → P n
number_keeps P words n a h = let c = has_number words n h in subst P c.2 (a c.0 n c.1)

pub next_bit : (words now new : List ℕ) (place bit : ℕ) → bit < 64 → bit_and (get_or words place 0 / 2 ^ bit) 1 ≡ 1 → now ≡ numbers_below words (64 * place + bit) → new ≡ now ++ (64 * place + bit) ∷ [] →
    new ≡ numbers_below words (64 * place + (bit + 1))
next_bit words now new place bit l t e j =
    let h = tested_bit words place bit l t in
    let more : suc (64 * place + bit) ≡ 64 * place + (bit + 1) = omega arith in
    j ∙ ap (λ xs. xs ++ (64 * place + bit) ∷ []) e ∙ sym (with_one words (64 * place + bit) h) ∙ ap (numbers_below words) more

pub next_none : (words now : List ℕ) (place bit : ℕ) → bit < 64 → (bit_and (get_or words place 0 / 2 ^ bit) 1 ≡ 1 → ⊥) → now ≡ numbers_below words (64 * place + bit) → now ≡ numbers_below words (64 * place + (bit + 1))
next_none words now place bit l t e =
    let more : suc (64 * place + bit) ≡ 64 * place + (bit + 1) = omega arith in
    e ∙ sym (without_one words (64 * place + bit) (λ h. t (shr_and_one (get_or words place 0) bit ∙ of_has words place bit l h))) ∙ ap (numbers_below words) more

-- the test of a number
pub has_by : (words numbers : List ℕ) (n word : ℕ) → n / 64 < length words → word ≡ get_or words (n / 64) word → numbers_in words ≡ numbers → Decides (nat_eq (bit_and (word / 2 ^ (n % 64)) 1) 1) (Contains numbers n)
has_by words numbers n word l e v =
    subst (λ xs. Decides (nat_eq (bit_and (word / 2 ^ (n % 64)) 1) 1) (Contains xs n)) v
    (decides_number words n (nat_eq (bit_and (word / 2 ^ (n % 64)) 1) 1)
    (subst (λ w. Decides (nat_eq (bit_and (w / 2 ^ (n % 64)) 1) 1) (HasBit words n)) (sym (e ∙ get_or_default words (n / 64) word 0 l)) (tests_bit words n)))

pub has_past : (words numbers : List ℕ) (n : ℕ) → length words ≤ n / 64 → numbers_in words ≡ numbers → Decides false (Contains numbers n)
has_past words numbers n l v = subst (λ xs. Decides false (Contains xs n)) v (decides_number words n false (past_bits words n l))
