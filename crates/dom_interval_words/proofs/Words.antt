-- The words of intervals.
use Rattle.std.specs.Prelude.{◌≡◌, ◌≤ℤ◌, ℤ, pos, negsuc, List, [], ◌∷◌, Option, Some, None, true, option_map, if◌then◌else◌}
use Rattle.std.proofs.Common.{refl, sym, ap, ◌∙◌, arith, subst}
use Rattle.std.proofs.lemmas.Int.{ints}
use Rattle.std.proofs.lemmas.Bool.{and_parts, and_from}
use Rattle.imp_slots.specs.Plain.{Numeric, Layout}
use Rattle.num_bounds.specs.Bounds.{least, greatest}
use Rattle.base_values.proofs.Cases.{by_bool}
use Rattle.cert_words.proofs.Numbers.{word_is}
use Rattle.cert_words.specs.Claims.{IsSmall, AreSmall}
use Rattle.cert_words.specs.States.{AreWords}
use Rattle.cert_words.specs.Words.{is_number}
use Rattle.dom_interval_meaning.specs.State.{Intervals, Empty, Within}
use Rattle.dom_interval_meaning.specs.Covers.{fits_slot, fits_slots, fits}
use Rattle.dom_interval_meaning.specs.Domain.{intervals}
use Rattle.dom_interval_meaning.specs.declared.slot_range.SlotRange.{SlotRange}
use Rattle.dom_interval_meaning.proofs.SlotLaws.{fits_slots-true, fits-range}
use Rattle.dom_interval_words.specs.Words.{slots_told, state_words, slot_with, slot_if, before, slots_of, empty_of, within_of, state_of}
use Rattle.std.proofs.lemmas.Option.{same_Some}

told_some : (s : Intervals) → state_words s ≡ [] → ⊥
told_some Empty e = cc
told_some (Within rs) e = cc

small_word : (z : ℤ) → least ≤ℤ z → z ≤ℤ greatest → IsSmall (Some z)
small_word (pos n) a b = omega (arith, ints)
small_word (negsuc n) a b = omega (arith, ints)

small_slots : (ks : List Numeric) (rs : List SlotRange) → fits_slots ks rs ≡ true → AreSmall (slots_told rs)
small_slots [] [] h = tt
small_slots [] (r ∷ rs) h = cc
small_slots (k ∷ ks) [] h = cc
small_slots (k ∷ ks) (r ∷ rs) h =
    let f = (fits_slots-true (k ∷ ks) (r ∷ rs) h).0 in
    let i = fits-range r.is_array r.range f.1 in
    let low : least ≤ℤ r.range.lo = i.low in
    let middle : r.range.lo ≤ℤ r.range.hi = i.ordered in
    let high : r.range.hi ≤ℤ greatest = i.high in
    (small_word r.range.lo low (omega (arith, ints)), (small_word r.range.hi (omega (arith, ints)) high, small_slots ks rs (and_parts (fits_slot k r) (fits_slots ks rs) h).1))

told_small : (ls : List Layout) (s : Intervals) → fits s ls ≡ true → AreSmall (state_words s)
unfolding fits
told_small ls Empty h = (omega arith, tt)
told_small [] (Within rs) h = cc
told_small (l ∷ ls) (Within rs) h = (omega arith, small_slots l.numbers rs h)

slots_back : (ks : List Numeric) (rs : List SlotRange) → fits_slots ks rs ≡ true → slots_of ks (slots_told rs) ≡ Some rs
slots_back [] [] h = refl
slots_back [] (r ∷ rs) h = cc
slots_back (k ∷ ks) [] h = cc
slots_back (k ∷ ks) (r ∷ rs) h =
    let p = and_parts (fits_slot k r) (fits_slots ks rs) h in
    let e : k.is_array ≡ r.is_array = (fits_slots-true (k ∷ ks) (r ∷ rs) h).0.0 in
    ap (λ b. before (slot_if k (record { is_array = b; range = r.range })) (slots_of ks (slots_told rs))) e ∙
    ap (before (slot_if k r)) (slots_back ks rs p.1) ∙ ap (λ c. before (if c then Some r else None) (Some rs)) p.0

told_back : (ls : List Layout) (s : Intervals) → fits s ls ≡ true → state_of ls (state_words s) ≡ Some s
unfolding fits
told_back ls Empty h = refl
told_back [] (Within rs) h = cc
told_back (l ∷ ls) (Within rs) h = ap (option_map Within) (slots_back l.numbers rs h)

-- what comes of an option that is changed
record Changed {A B : Type 0} (f : A → B) (o : Option A) (b : B) : Type 0 where
  from : A
  was : o ≡ Some from
  is : f from ≡ b

changed : {A B : Type 0} (f : A → B) (o : Option A) (b : B) → option_map f o ≡ Some b → Changed f o b
changed f None b e = absurd cc
changed f (Some a) b e = record { from = a; was = refl; is = same_Some (f a) b e }

abbrev SlotsAre : List Numeric → List (Option ℤ) → List SlotRange → Type 0
SlotsAre ks ws rs = (fits_slots ks rs ≡ true) × (slots_told rs ≡ ws)

before_exact : (k : Numeric) (ks : List Numeric) (s : SlotRange) (o : Option (List SlotRange)) (ws : List (Option ℤ)) (rs : List SlotRange) → ((qs : List SlotRange) → o ≡ Some qs → SlotsAre ks ws qs) → before (slot_if k s) o ≡ Some rs → SlotsAre (k ∷ ks) (Some s.range.lo ∷ (Some s.range.hi ∷ ws)) rs
before_exact k ks s o ws rs rest e =
    by_bool (fits_slot k s)
    (λ f.
    let c = changed (λ ss. s ∷ ss) o rs (sym (ap (λ c. before (if c then Some s else None) o) f) ∙ e) in
    let r = rest c.from c.was in
    subst (SlotsAre (k ∷ ks) (Some s.range.lo ∷ (Some s.range.hi ∷ ws))) c.is
    (and_from (fits_slot k s) (fits_slots ks c.from) f r.0, ap (λ ws. Some s.range.lo ∷ (Some s.range.hi ∷ ws)) r.1))
    (λ f. let i : None ≡ Some rs = sym (ap (λ c. before (if c then Some s else None) o) f) ∙ e in absurd cc)

slots_exact : (ks : List Numeric) (ws : List (Option ℤ)) (rs : List SlotRange) → slots_of ks ws ≡ Some rs → SlotsAre ks ws rs
slots_exact [] [] rs e = subst (SlotsAre [] []) (same_Some [] rs e) (refl, refl)
slots_exact [] (w ∷ ws) rs e = absurd cc
slots_exact (k ∷ ks) [] rs e = absurd cc
slots_exact (k ∷ ks) (None ∷ ws) rs e = absurd cc
slots_exact (k ∷ ks) (Some lo ∷ []) rs e = absurd cc
slots_exact (k ∷ ks) (Some lo ∷ (None ∷ ws)) rs e = absurd cc
slots_exact (k ∷ ks) (Some lo ∷ (Some hi ∷ ws)) rs e =
    before_exact k ks (slot_with k lo hi) (slots_of ks ws) ws rs (λ qs i. slots_exact ks ws qs i) e

abbrev IsTold : List Layout → List (Option ℤ) → Intervals → Type 0
IsTold ls ws s = (fits s ls ≡ true) × (state_words s ≡ ws)

empty_exact : (ls : List Layout) (ws : List (Option ℤ)) (s : Intervals) → empty_of ws ≡ Some s → IsTold ls (Some (pos 0) ∷ ws) s
unfolding fits
empty_exact ls [] s e = subst (IsTold ls (Some (pos 0) ∷ [])) (same_Some Empty s e) (refl, refl)
empty_exact ls (w ∷ ws) s e = absurd cc

within_exact : (ls : List Layout) (ws : List (Option ℤ)) (s : Intervals) → within_of ls ws ≡ Some s → IsTold ls (Some (pos 1) ∷ ws) s
unfolding fits
within_exact [] ws s e = absurd cc
within_exact (l ∷ ls) ws s e =
    let c = changed Within (slots_of l.numbers ws) s e in
    let x = slots_exact l.numbers ws c.from c.was in
    subst (IsTold (l ∷ ls) (Some (pos 1) ∷ ws)) c.is (x.0, ap (λ ws. Some (pos 1) ∷ ws) x.1)

told_exact : (ls : List Layout) (ws : List (Option ℤ)) (s : Intervals) → state_of ls ws ≡ Some s → IsTold ls ws s
told_exact ls [] s e = absurd cc
told_exact ls (w ∷ ws) s e =
    by_bool (is_number 0 w)
    (λ k. subst (λ w. IsTold ls (w ∷ ws) s) (sym (word_is 0 w k)) (empty_exact ls ws s (sym (ap (λ c. if c then empty_of ws else (if is_number 1 w then within_of ls ws else None)) k) ∙ e)))
    (λ k.
    let g : (if is_number 1 w then within_of ls ws else None) ≡ Some s = sym (ap (λ c. if c then empty_of ws else (if is_number 1 w then within_of ls ws else None)) k) ∙ e in
    by_bool (is_number 1 w)
    (λ i. subst (λ w. IsTold ls (w ∷ ws) s) (sym (word_is 1 w i)) (within_exact ls ws s (sym (ap (λ c. if c then within_of ls ws else None) i) ∙ g)))
    (λ i. let j : None ≡ Some s = sym (ap (λ c. if c then within_of ls ws else None) i) ∙ g in absurd cc))

pub interval_words_are : AreWords intervals state_words state_of
interval_words_are = record { some = told_some; small = λ ls s f h. told_small ls s f; back = λ ls s f h. told_back ls s f; exact = told_exact }
