-- The order of intervals.
use Rattle.std.specs.Prelude.{◌≡◌, ◌≤ℤ◌, ℤ, int_le, ◌&&◌, List, [], ◌∷◌, map, Bool, true}
use Rattle.std.proofs.Common.{refl, sym, arith, subst}
use Rattle.std.proofs.lemmas.Int.{ints}
use Rattle.std.proofs.lemmas.Bool.{and_parts, and_from}
use Rattle.std.specs.List.{AllZip}
use Rattle.imp_slots.specs.Plain.{Numeric, Layout}
use Rattle.concrete_sem.specs.Values.{Number, Int, Variables}
use Rattle.cert_meaning.specs.Portable.{IsSoundOrder, HasUpperBounds}
use Rattle.dom_interval_meaning.specs.State.{Intervals, Empty, Within}
use Rattle.dom_interval_meaning.specs.Operations.{join}
use Rattle.dom_interval_meaning.specs.Widening.{widen}
use Rattle.dom_numeric.specs.Measures.{measure}
use Rattle.dom_interval_meaning.specs.Covers.{Holds, covers, fits}
use Rattle.dom_interval_meaning.specs.Domain.{intervals}
use Rattle.dom_interval_meaning.specs.declared.slot_range.SlotRange.{SlotRange}
use Rattle.dom_interval_meaning.proofs.SlotLaws.{FitsSlot, fits_slots-true}
use Rattle.dom_interval_meaning.proofs.CompareLaws.{FitsState, Describes, join-left, join-right}
use Rattle.dom_interval_meaning.proofs.WidenLaws.{widen-left, widen-right, outside}
use Rattle.dom_interval_words.specs.Words.{slots_leq, leq}
use Rattle.dom_interval_meaning.proofs.Laws.{fits-state}
use Rattle.num_bounds.proofs.Ends.{le-true, true-le}

abbrev slot_leq : SlotRange → SlotRange → Bool
slot_leq r q = int_le q.range.lo r.range.lo && int_le r.range.hi q.range.hi

slot_below : (r q : SlotRange) (n : Number) → slot_leq r q ≡ true → Holds r n → Holds q n
slot_below r q n e h =
    let p = and_parts (int_le q.range.lo r.range.lo) (int_le r.range.hi q.range.hi) e in
    outside (measure n) q.range.lo q.range.hi r.range.lo r.range.hi (le-true q.range.lo r.range.lo p.0) (le-true r.range.hi q.range.hi p.1) h.0 h.1

slots_below : (ks : List Numeric) (rs qs : List SlotRange) (ns : List Number) → AllZip FitsSlot ks rs → AllZip FitsSlot ks qs → slots_leq rs qs ≡ true → AllZip Holds rs ns → AllZip Holds qs ns
slots_below [] [] [] ns f g e h = h
slots_below [] [] (q ∷ qs) ns f g e h = absurd g
slots_below [] (r ∷ rs) qs ns f g e h = absurd f
slots_below (k ∷ ks) [] qs ns f g e h = absurd f
slots_below (k ∷ ks) (r ∷ rs) [] ns f g e h = absurd g
slots_below (k ∷ ks) (r ∷ rs) (q ∷ qs) [] f g e h = absurd h
slots_below (k ∷ ks) (r ∷ rs) (q ∷ qs) (n ∷ ns) f g e h =
    let p = and_parts (slot_leq r q) (slots_leq rs qs) e in (slot_below r q n p.0 h.0, slots_below ks rs qs ns f.1 g.1 p.1 h.1)

pub interval_order : IsSoundOrder intervals covers leq
unfolding fits
interval_order ls Empty t h vs f g p e c = absurd c
interval_order [] (Within rs) t h vs f g p e c = absurd cc
interval_order (l ∷ ls) (Within rs) Empty h vs f g p e c = absurd cc
interval_order (l ∷ ls) (Within rs) (Within qs) h [] f g p e c = c
interval_order (l ∷ ls) (Within rs) (Within qs) h (v ∷ vs) f g p e c = slots_below l.numbers rs qs v.numbers (fits_slots-true l.numbers rs f) (fits_slots-true l.numbers qs g) e c

-- the numbers at the low ends, and at the high ends
abbrev lows : List SlotRange → List Number
lows rs = map (λ (r : SlotRange). Int r.range.lo) rs

abbrev highs : List SlotRange → List Number
highs rs = map (λ (r : SlotRange). Int r.range.hi) rs

self_le : (z : ℤ) → z ≤ℤ z
self_le z = omega (arith, ints)

lows_hold : (ks : List Numeric) (rs : List SlotRange) → AllZip FitsSlot ks rs → AllZip Holds rs (lows rs)
lows_hold [] [] f = tt
lows_hold [] (r ∷ rs) f = absurd f
lows_hold (k ∷ ks) [] f = absurd f
lows_hold (k ∷ ks) (r ∷ rs) f = ((self_le r.range.lo, f.0.1.ordered), lows_hold ks rs f.1)

highs_hold : (ks : List Numeric) (rs : List SlotRange) → AllZip FitsSlot ks rs → AllZip Holds rs (highs rs)
highs_hold [] [] f = tt
highs_hold [] (r ∷ rs) f = absurd f
highs_hold (k ∷ ks) [] f = absurd f
highs_hold (k ∷ ks) (r ∷ rs) f = ((f.0.1.ordered, self_le r.range.hi), highs_hold ks rs f.1)

slots_by_ends : (rs qs : List SlotRange) → AllZip Holds qs (lows rs) → AllZip Holds qs (highs rs) → slots_leq rs qs ≡ true
slots_by_ends [] qs a b = refl
slots_by_ends (r ∷ rs) [] a b = refl
slots_by_ends (r ∷ rs) (q ∷ qs) a b =
    and_from (slot_leq r q) (slots_leq rs qs) (and_from (int_le q.range.lo r.range.lo) (int_le r.range.hi q.range.hi) (true-le q.range.lo r.range.lo a.0.0) (true-le r.range.hi q.range.hi b.0.1)) (slots_by_ends rs qs a.1 b.1)

-- where one state describes what the other does, it is above it
above : (l : Layout) (s t : Intervals) → FitsState l s → ((v : Variables) → Describes v s → Describes v t) → leq s t ≡ true
above l Empty t f g = refl
above l (Within rs) Empty f g = absurd (g (record { numbers = lows rs; links = [] }) (lows_hold l.numbers rs f))
above l (Within rs) (Within qs) f g =
    slots_by_ends rs qs (g (record { numbers = lows rs; links = [] }) (lows_hold l.numbers rs f)) (g (record { numbers = highs rs; links = [] }) (highs_hold l.numbers rs f))

below_self : (s : Intervals) → leq s s ≡ true
below_self Empty = refl
below_self (Within rs) = slots rs
  where
    slots : (rs : List SlotRange) → slots_leq rs rs ≡ true
    slots [] = refl
    slots (r ∷ rs) =
        and_from (slot_leq r r) (slots_leq rs rs) (and_from (int_le r.range.lo r.range.lo) (int_le r.range.hi r.range.hi) (true-le r.range.lo r.range.lo (self_le r.range.lo)) (true-le r.range.hi r.range.hi (self_le r.range.hi))) (slots rs)

-- a law of two states in the same frames, of which there may be none
two : (f : Intervals → Intervals → Intervals) (g : Intervals → Intervals → Intervals) → g Empty Empty ≡ Empty → ((l : Layout) (s t : Intervals) → FitsState l s → FitsState l t → leq (g s t) (f s t) ≡ true) → (ls : List Layout) (s t : Intervals) → fits s ls ≡ true → fits t ls ≡ true → leq (g s t) (f s t) ≡ true
unfolding fits
two f g e k [] Empty Empty h i = subst (λ s. leq s (f Empty Empty) ≡ true) (sym e) refl
two f g e k [] Empty (Within qs) h i = cc
two f g e k [] (Within rs) t h i = cc
two f g e k (l ∷ ls) s t h i = k l s t (fits-state s l ls h) (fits-state t l ls i)

describes_more : (v : Variables) (l : Layout) (s t : Intervals) → FitsState l s → FitsState l t → leq s t ≡ true → Describes v s → Describes v t
describes_more v l Empty t f g e c = absurd c
describes_more v l (Within rs) Empty f g e c = absurd cc
describes_more v l (Within rs) (Within qs) f g e c = slots_below l.numbers rs qs v.numbers f g e c

below_trans : (ls : List Layout) (s t u : Intervals) → fits s ls ≡ true → fits t ls ≡ true → fits u ls ≡ true → leq s t ≡ true → leq t u ≡ true → leq s u ≡ true
unfolding fits
below_trans ls Empty t u f g h a b = refl
below_trans [] (Within rs) t u f g h a b = absurd cc
below_trans (l ∷ ls) (Within rs) t u f g h a b =
    above l (Within rs) u (fits-state (Within rs) l ls f)
    (λ v c. describes_more v l t u (fits-state t l ls g) (fits-state u l ls h) b (describes_more v l (Within rs) t (fits-state (Within rs) l ls f) (fits-state t l ls g) a c))

pub interval_bounds : HasUpperBounds intervals leq
interval_bounds = record {
  self = λ ls s f. below_self s;
  trans = below_trans;
  join_left = λ ls s t h k. two join (λ s t. s) refl (λ l s t f g. above l s (join s t) f (λ v c. join-left l v s t f g c)) ls s t h k;
  join_right = λ ls s t h k. two join (λ s t. t) refl (λ l s t f g. above l t (join s t) g (λ v c. join-right l v s t f g c)) ls s t h k;
  widen_left = λ ms ls s t rising h k. two (widen ms) (λ s t. s) refl (λ l s t f g. above l s (widen ms s t) f (λ v c. widen-left ms l v s t f g c)) ls s t h k;
  widen_right = λ ms ls s t rising h k. two (widen ms) (λ s t. t) refl (λ l s t f g. above l t (widen ms s t) g (λ v c. widen-right ms l v s t f g c)) ls s t h k;
}
