-- Negations: what is taken at the ends of the ranges after their assignment.
use Rattle.std.proofs.Common.{◌≡◌, ◌≢◌, sym, ap, ◌∙◌, subst, ℕ, ℤ, pos, neg_ℤ, true, false, List, [], ◌∷◌, length, ◌⊎◌, inl, inr, IfSome, arith, refl}
use Rattle.std.proofs.lemmas.Int.{ints}
use Rattle.std.proofs.lemmas.Bool.{and_parts}
use Rattle.std.proofs.lemmas.List.Elements.{All-nil}
use Rattle.std.specs.List.{AllZip}
use Rattle.imp_slots.specs.Plain.{Layout, Term, Literal, Negative, SetInt, Does}
use Rattle.imp_slots.specs.Fits.{fits_term, fits_effect, is_int}
use Rattle.concrete_sem.specs.Values.{Int, Variables, Gives, IsWord}
use Rattle.concrete_sem.specs.Evaluation as machine
use Rattle.concrete_sem.specs.Evaluation.{value_of}
use Rattle.concrete_sem.specs.Effects.{effect_of}
use Rattle.num_bounds.specs.Bounds.{Bounds, IsRange, Within as Lies}
use Rattle.num_bounds.specs.Operations.{word, negations}
use Rattle.num_bounds.proofs.Ends.{word-range}
use Rattle.num_bounds.proofs.Sums.{negations-best}
use Rattle.dom_numeric.specs.Ranges.{range_by}
use Rattle.dom_interval_meaning.specs.State.{Intervals, Empty, Within}
use Rattle.dom_interval_meaning.specs.Ranges.{range_at, with_range}
use Rattle.dom_interval_meaning.specs.Operations.{needs, side_of, does, post}
use Rattle.dom_interval_meaning.specs.Covers.{fits}
use Rattle.dom_interval_meaning.specs.declared.slot_range.SlotRange.{SlotRange}
use Rattle.dom_interval_meaning.proofs.SlotLaws.{FitsSlot}
use Rattle.dom_interval_meaning.proofs.CompareLaws.{FitsState}
use Rattle.dom_interval_meaning.proofs.Laws.{fits-state, post_empty}
use Rattle.dom_interval_precise.specs.Best.{IsBest}
use Rattle.dom_interval_precise.specs.Sets.{After}
use Rattle.dom_interval_precise.specs.Claims.{IsOperand, NeverFails, IsOnly}
use Rattle.dom_interval_precise.proofs.Frames.{LieAll, frame, first_frames, bare, lows, lows-lie, put, put-here, put-lies, put_at, put_at-else}
use Rattle.dom_interval_precise.proofs.Tight.{Tight, tight-smallest, needs-tight}
use Rattle.dom_interval_precise.proofs.Own.{frame-of}
use Rattle.dom_interval_precise.proofs.Words.{word-fits}
use Rattle.dom_interval_precise.proofs.Comparisons.{operand_range, range_of-operand, value_of-operand, two-lie, two-left, after-sound}
use Rattle.dom_interval_precise.proofs.Statements.{Sets, bare-sets, set-tight, slot-there}
use Rattle.dom_interval_precise.proofs.Operations.{both-some}

-- z is a negated number of the range, and does not overflow
abbrev Negated : Bounds → ℤ → Type 0
Negated r z = (p : ℤ) × Lies p r × (machine.word (neg_ℤ p) ≡ Gives z)

abbrev EndsNegated : Bounds → Bounds → Type 0
EndsNegated r t = Negated r t.lo × Negated r t.hi

ends-negated : (r : Bounds) → IfSome (word (negations r)) (EndsNegated r)
ends-negated r =
    both-some (word (negations r)) IsRange (λ t. (z : ℤ) → Lies z t → (x : ℤ) × Lies x r × (neg_ℤ x ≡ z)) (EndsNegated r) (word-range (negations r)) (negations-best r)
    (λ t k taken.
    let o = k.ordered in
    let a = taken t.lo (omega (arith, ints), o) in
    let b = taken t.hi (o, omega (arith, ints)) in
    ((a.0, a.1, word-fits (neg_ℤ a.0) t.lo a.2 k.low (omega (arith, ints, k.high))), (b.0, b.1, word-fits (neg_ℤ b.0) t.hi b.2 (omega (arith, ints, k.low)) k.high)))

negative-is : (v : Variables) (t : Term) (p z : ℤ) → value_of v t ≡ Gives p → machine.word (neg_ℤ p) ≡ Gives z → value_of v (Negative t) ≡ Gives z
unfolding value_of
negative-is v t p z e f = rw e f

fits-parts : (l : Layout) (x : ℕ) (t : Term) → fits_effect l (SetInt x (Negative t)) ≡ true → (is_int l x ≡ true) × (fits_term l t ≡ true)
unfolding fits_effect fits_term
fits-parts l x t f = and_parts (is_int l x) (fits_term l t) f

-- The negation never fails, or the slot that is set is the only one of the expression.
abbrev pub IsFree : Layout → List Layout → ℕ → Term → Intervals → Type 0
IsFree l ls x t s = NeverFails l ls (Negative t) s ⊎ IsOnly x t

module _ (l : Layout) (ls : List Layout) (rs : List SlotRange) (fit : AllZip FitsSlot l.numbers rs) (x : ℕ) (t : Term) (i : IsOperand t) (f : fits_term l t ≡ true) where
  abbrev range : Bounds
  range = operand_range rs t

  abbrev at_number : ℤ → (ℕ → ℤ) → ℕ → ℤ
  at_number p at = put_at (side_of t) p at

  lie : (p : ℤ) (at : ℕ → ℤ) → Lies p range → LieAll rs at → LieAll rs (at_number p at)
  lie p at w h = two-lie rs t (Literal 0) p (pos 0) at i tt w (omega (arith, ints), omega (arith, ints)) h

  sets : (z : ℤ) (at : ℕ → ℤ) → LieAll rs at → value_of (frame l at) (Negative t) ≡ Gives z → Sets l ls rs (SetInt x (Negative t)) x z at
  unfolding effect_of
  sets z at h e = bare-sets l ls rs fit (SetInt x (Negative t)) x z at [] (Int z) h (All-nil IsWord) (rw e refl) refl

  negated-sets : (z : ℤ) (at : ℕ → ℤ) → LieAll rs at → (n : Negated range z) → Sets l ls rs (SetInt x (Negative t)) x z (at_number n.0 at)
  negated-sets z at h n =
      let k = lie n.0 at n.1 h in
      sets z (at_number n.0 at) k (negative-is (frame l (at_number n.0 at)) t n.0 z (value_of-operand l rs (at_number n.0 at) t i f fit k ∙ ap Gives (two-left rs t (Literal 0) n.0 (pos 0) at i (λ y e k. cc) n.1)) n.2)

  -- the numbers of another slot
  free : (c : ℤ) → Negated range c → IsFree l ls x t (Within rs) → (y : ℕ) (z : ℤ) → x ≢ y → Lies z (range_at rs y) → (h : ℕ → ℤ) × (w : ℤ) × (h y ≡ z) × Sets l ls rs (SetInt x (Negative t)) x w h
  free c n (inl never) y z ne w =
      let h = put y z (lows rs) in
      let k = put-lies rs y z (lows rs) w (lows-lie l.numbers rs fit) in
      let v = never (bare []) (frame l h) (first_frames ls) (frame-of l ls [] rs h (All-nil IsWord) fit k) in
      (h, v.0, put-here y z (lows rs), sets v.0 h k v.1)
  free c n (inr only) y z ne w =
      let at = put y z (lows rs) in
      let k = put-lies rs y z (lows rs) w (lows-lie l.numbers rs fit) in
      (at_number n.0 at, c, put_at-else (side_of t) y n.0 at (λ e. ne (sym (only y e))) ∙ put-here y z (lows rs), negated-sets c at k n)

  negation-assigned : (r : Bounds) → is_int l x ≡ true → EndsNegated range r → IsFree l ls x t (Within rs) → Tight (After (l ∷ ls) (SetInt x (Negative t)) (Within rs)) (length l.numbers) (Within (with_range rs x r))
  negation-assigned r e n h =
      let low = lows-lie l.numbers rs fit in
      set-tight l ls rs fit (SetInt x (Negative t)) x r (slot-there l.numbers false x e)
      (at_number n.0.0 (lows rs), negated-sets r.lo (lows rs) low n.0)
      (at_number n.1.0 (lows rs), negated-sets r.hi (lows rs) low n.1)
      (free r.lo n.0 h)

set-post : (l : Layout) (x : ℕ) (t : Term) (rs : List SlotRange) → IsOperand t → fits_term l t ≡ true → post (Does (SetInt x (Negative t))) (Within rs) ≡ needs (word (negations (operand_range rs t))) (λ r. Within (with_range rs x r))
unfolding post does range_by
set-post l x t rs i f = rw (range_of-operand l rs t i f) refl

negation-tight : (l : Layout) (ls : List Layout) (x : ℕ) (t : Term) (s : Intervals) → IsOperand t → fits_effect l (SetInt x (Negative t)) ≡ true → FitsState l s → IsFree l ls x t s → Tight (After (l ∷ ls) (SetInt x (Negative t)) s) (length l.numbers) (post (Does (SetInt x (Negative t))) s)
negation-tight l ls x t Empty i f h q = subst (Tight (After (l ∷ ls) (SetInt x (Negative t)) Empty) (length l.numbers)) (sym (post_empty (SetInt x (Negative t)))) tt
negation-tight l ls x t (Within rs) i f h q =
    let among = After (l ∷ ls) (SetInt x (Negative t)) (Within rs) in
    let p = fits-parts l x t f in
    let r = operand_range rs t in
    subst (Tight among (length l.numbers)) (sym (set-post l x t rs i p.1))
    (needs-tight among (length l.numbers) (word (negations r)) (EndsNegated r) (λ c. Within (with_range rs x c)) (ends-negated r)
    (λ c e. negation-assigned l ls rs h x t i p.1 c p.0 e q))

pub negation-best : (l : Layout) (ls : List Layout) (x : ℕ) (t : Term) (s : Intervals) → IsOperand t → fits_effect l (SetInt x (Negative t)) ≡ true → fits s (l ∷ ls) ≡ true → IsFree l ls x t s → IsBest (After (l ∷ ls) (SetInt x (Negative t)) s) (post (Does (SetInt x (Negative t))) s)
negation-best l ls x t s i f g q = record {
  sound = after-sound l ls (SetInt x (Negative t)) s f g;
  smallest = λ r c. tight-smallest (After (l ∷ ls) (SetInt x (Negative t)) s) (length l.numbers) (post (Does (SetInt x (Negative t))) s) r (negation-tight l ls x t s i f (fits-state s l ls g) q) c;
}
