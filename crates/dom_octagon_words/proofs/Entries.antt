-- Words that are the entries of a state.
use Rattle.std.specs.Prelude.{◌≡◌, ℕ, ◌+◌, ◌*◌, ◌^◌, ◌<◌, ◌≤◌, nat_eq, ◌||◌, not, ℤ, pos, negsuc, neg_ℤ, int_lt, ◌≤ℤ◌, ◌<ℤ◌, List, length, map, Option, Some, None, Bool, true, false}
use Rattle.std.specs.List.{range_with_len}
use Rattle.std.specs.Option.{option_eq}
use Rattle.std.specs.Ordering.{int_eq}
use Rattle.std.proofs.Common.{refl, sym, ap, ◌∙◌, arith, suc, zero}
use Rattle.std.proofs.lemmas.Bool.{and_parts, and_from}
use Rattle.std.proofs.lemmas.Int.{ints}
use Rattle.dbm_core.specs.Limits.{HasZeroDiagonal}
use Rattle.dbm_core.specs.Nodes.{IsCoherent, flip}
use Rattle.cert_words.specs.Claims.{IsSmall, AreSmall}
use Rattle.dom_octagon_meaning.specs.Covers.{in_limits}
use Rattle.dom_octagon_words.specs.Words.{is_entry, are_entries, word_at}
use Rattle.dom_octagon_words.proofs.Below.{pairs-true, true-pairs}
use Rattle.dom_octagon_meaning.proofs.Fitting.{eq-true}
use Rattle.base_values.proofs.Cases.{equal_test}
use Rattle.base_values.proofs.Integers.{lower_of, word_Decides}

-- the table of these words is that of a state
pub record AreEntries (ws : List (Option ℤ)) (n : ℕ) : Type 0 where
  pub size : length ws ≡ n * n
  pub limits : (i j : ℕ) → i < n → j < n → in_limits (word_at ws n i j) ≡ true
  pub coherent : IsCoherent (word_at ws n) n
  pub diagonal : HasZeroDiagonal n (word_at ws n)

-- where the first is true, so is the second
either : (a b : Bool) → (not a || b) ≡ true → a ≡ true → b ≡ true
either true b h e = h
either false b h e = cc

neither : (a b : Bool) → (a ≡ true → b ≡ true) → (not a || b) ≡ true
neither true b h = h refl
neither false b h = refl

pub entries-true : (ws : List (Option ℤ)) (n : ℕ) → are_entries ws n ≡ true → AreEntries ws n
entries-true ws n h =
    let p = and_parts _ _ h in
    record {
      size = eq-true (length ws) (n * n) p.0;
      limits = λ i j hi hj. (and_parts _ _ (pairs-true n (is_entry ws n) p.1 i j hi hj)).0;
      coherent = λ i j hi hj. (word_Decides (word_at ws n i j) (word_at ws n (flip j) (flip i))).0 (and_parts _ _ (and_parts _ _ (pairs-true n (is_entry ws n) p.1 i j hi hj)).1).0;
      diagonal = λ i hi. (word_Decides (word_at ws n i i) (Some (pos 0))).0 (either (nat_eq i i) (option_eq int_eq (word_at ws n i i) (Some (pos 0))) (and_parts _ _ (and_parts _ _ (pairs-true n (is_entry ws n) p.1 i i hi hi)).1).1 (equal_test i i refl));
    }

pub true-entries : (ws : List (Option ℤ)) (n : ℕ) → AreEntries ws n → are_entries ws n ≡ true
true-entries ws n h =
    and_from (nat_eq (length ws) (n * n)) _ (equal_test (length ws) (n * n) h.size)
    (true-pairs n (is_entry ws n) (λ i j hi hj.
    and_from (in_limits (word_at ws n i j)) _ (h.limits i j hi hj)
    (and_from (option_eq int_eq (word_at ws n i j) (word_at ws n (flip j) (flip i))) _ ((word_Decides (word_at ws n i j) (word_at ws n (flip j) (flip i))).1 (h.coherent i j hi hj))
    (neither (nat_eq i j) (option_eq int_eq (word_at ws n i j) (Some (pos 0))) (λ e.
    (word_Decides (word_at ws n i j) (Some (pos 0))).1 (ap (word_at ws n i) (sym (eq-true i j e)) ∙ h.diagonal i hi))))))

pub above : (a b : ℤ) → not (int_lt a b) ≡ true → b ≤ℤ a
above a b e = grind (arith, ints)

-- bounds within the limits are small words
pub limits-small : (o : Option ℤ) → in_limits o ≡ true → IsSmall o
limits-small None h = tt
limits-small (Some (pos n)) h =
    let p = and_parts (not (int_lt (pos n) (neg_ℤ (pos (2 ^ 64))))) (int_lt (pos n) (pos (2 ^ 64))) h in
    let l : pos n <ℤ pos (2 ^ 64) = lower_of (pos n) (pos (2 ^ 64)) p.1 in omega (arith, ints)
limits-small (Some (negsuc n)) h =
    let p = and_parts (not (int_lt (negsuc n) (neg_ℤ (pos (2 ^ 64))))) (int_lt (negsuc n) (pos (2 ^ 64))) h in
    let l : neg_ℤ (pos (2 ^ 64)) ≤ℤ negsuc n = above (negsuc n) (neg_ℤ (pos (2 ^ 64))) p.0 in omega (arith, ints)

pub small-words : (f : ℕ → Option ℤ) (a n : ℕ) → ((q : ℕ) → a ≤ q → q < a + n → IsSmall (f q)) → AreSmall (map f (range_with_len a n))
small-words f a zero h = tt
small-words f a (suc n) h = (h a (omega arith) (omega arith), small-words f (a + 1) n (λ q l u. h q (omega arith) (omega arith)))
