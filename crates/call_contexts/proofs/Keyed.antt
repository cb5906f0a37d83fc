-- The thresholds of a procedure are those of the numbers that are counted in it.
use Rattle.std.proofs.lemmas.List.Elements.{All-nil, All-cons}
use Rattle.std.proofs.lemmas.Map.Lookups.{exact_signed}
use Rattle.std.proofs.Common.{◌≡◌, ℕ, ℤ, zero, suc, ◌<◌, ◌≤◌, ◌||◌, ◌^◌, Bool, true, false, List, [], ◌∷◌, ◌++◌, take, slice_get, Some, refl, sym, ap, ◌∙◌, subst, arith}
use Rattle.std.specs.Prelude.{pos, if◌then◌else◌, FitsSigned}
use Rattle.std.specs.Int.{w64}
use Rattle.std.specs.List.{All, list_any}
use Rattle.std.specs.Map.{keys_of}
use Rattle.std.specs.List.Sorted.{IsStrictlySortedBy}
use Rattle.std.specs.Ordering.{is_eq, int_cmp, nat_cmp}
use Rattle.std.specs.BTreeMap.{is_at}
use Rattle.base_values.specs.Numbers.{greatest}
use Rattle.imp_syntax.specs.Plain.{Procedure}
use Rattle.imp_slots.specs.Plain.{Routine}
use Rattle.imp_slots.specs.Fits.{FitsCode, FitInTurn, IsChecked}
use Rattle.imp_check.specs.Slots.{routine_of, routines_of}
use Rattle.imp_chains.specs.declared.widening.Widening.{Widening}
use Rattle.imp_chains.specs.Chains.{has}
use Rattle.imp_chains.specs.Claims.{ThresholdsRise}
use Rattle.imp_chains.specs.Thresholds.{literals, thresholds_of, IsRising}
use Rattle.call_contexts.specs.Settings.{all_thresholds}
use Rattle.call_contexts.specs.Tallies.{rising, all_tallies}
use Rattle.call_contexts.proofs.LiteralLemmas.{routine_there, threshold_there}
use Rattle.call_contexts.proofs.ThresholdSets.{thresholds_by_set, threshold_of}
use Rattle.call_contexts.proofs.Parted.{had, by_thresholds}
use Rattle.call_contexts.proofs.TallyLemmas.{rising_has, rising_sorted, tally_keys}
use Rattle.base_values.proofs.Cases.{by_test, is_equal}
use Rattle.std.proofs.lemmas.Option.{same_Some}
use Rattle.imp_chains.proofs.Rising.{rest_rises}

-- Thresholds that rise are integers of 64 bits.
first_word : (x : ℤ) (xs : List ℤ) → IsRising (x ∷ xs) → FitsSigned w64 x
first_word x [] r = r
first_word x (y ∷ ys) r = r.0

words : (xs : List ℤ) → IsRising xs → (z : ℤ) → list_any (is_at (int_cmp z)) xs ≡ true → FitsSigned w64 z
words [] r z h = absurd cc
words (x ∷ xs) r z h = go (is_eq (int_cmp z x)) refl h (words xs (rest_rises x xs r) z)
  where
    go : (b : Bool) → is_eq (int_cmp z x) ≡ b → (b || list_any (is_at (int_cmp z)) xs) ≡ true → (list_any (is_at (int_cmp z)) xs ≡ true → FitsSigned w64 z) → FitsSigned w64 z
    go true e h more = let q : z ≡ x = exact_signed z x (is_equal (int_cmp z x) e) in subst (FitsSigned w64) (sym q) (first_word x xs r)
    go false e h more = more h

number_word : (n : ℕ) → FitsSigned w64 (pos n) → n ≤ greatest
number_word n f = let h : n < 2 ^ 63 = f.sfits in omega (arith, h)

-- what holds of each that stands in a list
all_in : (P : ℕ → Type 0) (ns : List ℕ) → ((n : ℕ) → has n ns ≡ true → P n) → All P ns
all_in P [] h = All-nil P
all_in P (n ∷ ns) h =
    All-cons P n ns
    (h n (by_test n n (λ b. (if b then true else has n ns) ≡ true) (λ e. refl) (λ e. absurd (e refl))))
    (all_in P ns (λ m k. h m (by_test m n (λ b. (if b then true else has m ns) ≡ true) (λ e. refl) (λ e. k))))

-- a procedure of a checked program fits
fits_at : (before rs : List Routine) (k : ℕ) (r : Routine) → FitInTurn before rs → slice_get rs k ≡ Some r → (xs : List Routine) × FitsCode xs r.layout r.code
fits_at before [] k r f h = absurd cc
fits_at before (s ∷ rs) zero r f h = let q : s ≡ r = same_Some s r h in (before, subst (λ (z : Routine). FitsCode before z.layout z.code) q f.0.code)
fits_at before (s ∷ rs) (suc k) r f h = fits_at (before ++ s ∷ []) rs k r f.1 h

-- Where numbers are thresholds, a procedure has a tally.
module _ (w : Widening) (ps : List Procedure) (k : ℕ) (u : List (ℕ × ℕ)) (e : w.thresholds ≡ true) (h : slice_get (all_tallies w (routines_of ps)) k ≡ Some u) where
  abbrev own : Routine
  own = routine_of (take k ps) (had w ps k u h).0

  own_keys : keys_of u ≡ rising (literals own.code)
  own_keys = ap keys_of (sym (had w ps k u h).2 ∙ by_thresholds w own e) ∙ tally_keys own.code

  own_has : (n : ℕ) → has n (literals own.code) ≡ has n (keys_of u)
  own_has n = sym (rising_has n (literals own.code)) ∙ ap (has n) (sym own_keys)

  pub keys_rise : IsStrictlySortedBy nat_cmp (keys_of u)
  keys_rise = subst (IsStrictlySortedBy nat_cmp) (sym own_keys) (rising_sorted (literals own.code))

  pub keys_small : ThresholdsRise → IsChecked (routines_of ps) → All (λ (n : ℕ). n ≤ greatest) (keys_of u)
  keys_small rises checked =
      let fit = fits_at [] (routines_of ps) k own checked.fit (routine_there ps k (had w ps k u h).0 (had w ps k u h).1) in
      let rise : IsRising (thresholds_of (literals own.code)) = subst (λ (b : Bool). IsRising (if b then thresholds_of (literals own.code) else [])) e (rises w fit.0 own fit.1) in
      all_in (λ (n : ℕ). n ≤ greatest) (keys_of u) (λ n i. number_word n (words (thresholds_of (literals own.code)) rise (pos n) (threshold_of n (literals own.code) (own_has n ∙ i))))

  pub thresholds_by_keys : (ms : List ℤ) → ms ≡ thresholds_of (keys_of u) → slice_get (all_thresholds w (routines_of ps)) k ≡ Some ms
  thresholds_by_keys ms m =
      threshold_there w ps k (had w ps k u h).0 (had w ps k u h).1
      ∙ ap (λ (b : Bool). Some (if b then thresholds_of (literals own.code) else [])) e
      ∙ ap Some (thresholds_by_set (literals own.code) (keys_of u) own_has)
      ∙ ap Some (sym m)

-- Where they are not, it has no thresholds.
pub no_thresholds : (w : Widening) (ps : List Procedure) (k : ℕ) (u : List (ℕ × ℕ)) → w.thresholds ≡ false → slice_get (all_tallies w (routines_of ps)) k ≡ Some u → slice_get (all_thresholds w (routines_of ps)) k ≡ Some []
no_thresholds w ps k u e h =
    let p = had w ps k u h in
    threshold_there w ps k p.0 p.1 ∙ ap (λ (b : Bool). Some (if b then thresholds_of (literals (routine_of (take k ps) p.0).code) else [])) e
