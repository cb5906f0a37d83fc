-- Sums, differences, products and quotients: what is taken at the ends of the ranges after their assignment.
use Rattle.std.proofs.Common.{◌≡◌, ◌≢◌, refl, sym, ap, ◌∙◌, subst, ℕ, ℤ, pos, ◌≤ℤ◌, int_div, Bool, if◌then◌else◌, ◌+ℤ◌, ◌-ℤ◌, ◌*ℤ◌, true, false, ◌&&◌, List, [], ◌∷◌, length, Option, Some, None, IfSome, arith}
use Rattle.std.proofs.lemmas.Int.{ints, clamps}
use Rattle.std.proofs.lemmas.Bool.{and_parts}
use Rattle.std.proofs.lemmas.List.Elements.{All-nil}
use Rattle.std.specs.Int.{int_max, int_min}
use Rattle.std.specs.Ordering.{int_eq}
use Rattle.std.specs.List.{AllZip}
use Rattle.imp_syntax.specs.declared.words.Operator.{Operator}
use Rattle.imp_syntax.specs.declared.words.Operator.TheVariants.{Add, Subtract, Multiply, Divide, Remainder}
use Rattle.imp_words.specs.declared.fault.FaultKind.TheVariants.{Zero}
use Rattle.imp_slots.specs.Plain.{Layout, Term, Binary, SetInt, Does}
use Rattle.imp_slots.specs.Fits.{fits_term, fits_effect, is_int}
use Rattle.concrete_sem.specs.Values.{Int, Variables, Gives, Faults, IsWord}
use Rattle.concrete_sem.specs.Evaluation as machine
use Rattle.concrete_sem.specs.Evaluation.{combine, value_of}
use Rattle.concrete_sem.specs.Effects.{effect_of}
use Rattle.concrete_sem.proofs.Numbers.{word_gives}
use Rattle.num_bounds.specs.Bounds.{Bounds, IsRange, Within as Lies, least, greatest}
use Rattle.num_bounds.specs.Meaning.{IsTaken}
use Rattle.num_bounds.specs.Operations.{word, sums, differences, products, quotients, word_if}
use Rattle.num_bounds.proofs.Ends.{between-left, word-range}
use Rattle.num_bounds.proofs.Sums.{sums-best, differences-best}
use Rattle.num_bounds.proofs.Products.{products-best}
use Rattle.dom_numeric.specs.Ranges.{operation, range_by}
use Rattle.dom_interval_meaning.specs.State.{Intervals, Empty, Within}
use Rattle.dom_interval_meaning.specs.Ranges.{range_at, with_range, range_of}
use Rattle.dom_interval_meaning.specs.Operations.{needs, side_of, does, post}
use Rattle.dom_interval_meaning.specs.Covers.{fits}
use Rattle.dom_interval_meaning.specs.declared.slot_range.SlotRange.{SlotRange}
use Rattle.dom_interval_meaning.proofs.SlotLaws.{FitsSlot}
use Rattle.dom_interval_meaning.proofs.CompareLaws.{FitsState}
use Rattle.dom_interval_meaning.proofs.Laws.{fits-state, post_empty}
use Rattle.dom_interval_precise.specs.Best.{IsBest}
use Rattle.dom_interval_precise.specs.Sets.{After}
use Rattle.dom_interval_precise.specs.Claims.{IsOperand, AreApart, NeverFails, IsExact, IsLinear, IsOnly}
use Rattle.dom_interval_precise.proofs.Frames.{LieAll, frame, first_frames, bare, lows, lows-lie, put, put-here, put-lies, put_at, put_at-else}
use Rattle.dom_interval_precise.proofs.Tight.{Tight, tight-smallest, needs-tight}
use Rattle.dom_interval_precise.proofs.Quotients.{EndsTaken, quotients-taken}
use Rattle.dom_interval_precise.proofs.Own.{frame-of}
use Rattle.dom_interval_precise.proofs.Words.{word-fits, word-back, word-ends}
use Rattle.dom_interval_precise.proofs.Comparisons.{operand_range, range_of-operand, value_of-operand, operand_range-range, two, two-lie, two-left, two-right, after-sound}
use Rattle.dom_interval_precise.proofs.Statements.{Sets, bare-sets, set-tight, slot-there}

-- z is a result that does not overflow at some numbers of the two ranges
abbrev Gained : Operator → Bounds → Bounds → ℤ → Type 0
Gained o r s z = (p : ℤ) × (q : ℤ) × Lies p r × Lies q s × (combine o p q ≡ Gives z)

abbrev EndsGained : Operator → Bounds → Bounds → Bounds → Type 0
EndsGained o r s t = (t.lo ≤ℤ t.hi) × Gained o r s t.lo × Gained o r s t.hi

pub both-some : (o : Option Bounds) (P Q R : Bounds → Type 0) → IfSome o P → IfSome o Q → ((r : Bounds) → P r → Q r → R r) → IfSome o R
both-some None P Q R p q f = tt
both-some (Some r) P Q R p q f = f r p q

linear-gained : (o : Operator) (r s : Bounds) → IsLinear o → IsRange r → IsRange s → IfSome (operation o r s) (EndsGained o r s)
linear-gained Add r s h i j =
    both-some (word (sums r s)) IsRange (λ t. (z : ℤ) → Lies z t → IsTaken ◌+ℤ◌ r s z) (EndsGained Add r s) (word-range (sums r s)) (sums-best r s i.ordered j.ordered)
    (λ t k taken.
    let o = k.ordered in
    let a = taken t.lo (omega (arith, ints), o) in
    let b = taken t.hi (o, omega (arith, ints)) in
    (o, (a.0, a.1, a.2, a.3, word-fits (a.0 +ℤ a.1) t.lo a.4 k.low (omega (arith, ints, k.high))), (b.0, b.1, b.2, b.3, word-fits (b.0 +ℤ b.1) t.hi b.4 (omega (arith, ints, k.low)) k.high)))
linear-gained Subtract r s h i j =
    both-some (word (differences r s)) IsRange (λ t. (z : ℤ) → Lies z t → IsTaken ◌-ℤ◌ r s z) (EndsGained Subtract r s) (word-range (differences r s)) (differences-best r s i.ordered j.ordered)
    (λ t k taken.
    let o = k.ordered in
    let a = taken t.lo (omega (arith, ints), o) in
    let b = taken t.hi (o, omega (arith, ints)) in
    (o, (a.0, a.1, a.2, a.3, word-fits (a.0 -ℤ a.1) t.lo a.4 k.low (omega (arith, ints, k.high))), (b.0, b.1, b.2, b.3, word-fits (b.0 -ℤ b.1) t.hi b.4 (omega (arith, ints, k.low)) k.high)))
linear-gained Multiply r s h i j = absurd h
linear-gained Divide r s h i j = absurd h
linear-gained Remainder r s h i j = absurd h

-- the operation has a result at all numbers of the two ranges
abbrev AlwaysGives : Operator → Bounds → Bounds → Type 0
AlwaysGives o r s = (p q : ℤ) → Lies p r → Lies q s → (z : ℤ) × (combine o p q ≡ Gives z)

-- z is a word, and a result at some numbers of the two ranges
abbrev GainedWord : Operator → Bounds → Bounds → ℤ → Type 0
GainedWord o r s z = Gained o r s z × ((least ≤ℤ z) × (z ≤ℤ greatest))

-- a range whose ends are such results is not cut
gained-word : (o : Operator) (r s b : Bounds) → GainedWord o r s b.lo → GainedWord o r s b.hi → IfSome (word b) (EndsGained o r s)
gained-word o r s b low high =
    let a = low.1.0 in
    let c = high.1.1 in
    between-left (int_max b.lo least) (int_min b.hi greatest) (EndsGained o r s) (λ k. (
      k,
      subst (Gained o r s) (lower b.lo a) low.0,
      subst (Gained o r s) (upper b.hi c) high.0,
    ))
  where
    lower : (z : ℤ) → least ≤ℤ z → z ≡ int_max z least
    lower z h = omega (arith, ints, clamps)

    upper : (z : ℤ) → z ≤ℤ greatest → z ≡ int_min z greatest
    upper z h = omega (arith, ints, clamps)

-- a result that is taken is gained
taken-gained : (o : Operator) (f : ℤ → ℤ → ℤ) (r s : Bounds) → ((p q z : ℤ) → combine o p q ≡ Gives z → machine.word (f p q) ≡ Gives z) → AlwaysGives o r s → (z : ℤ) → IsTaken f r s z → GainedWord o r s z
taken-gained o f r s word_of always z t =
    let w = always t.0 t.1 t.2 t.3 in
    let e = word_of t.0 t.1 w.0 w.1 in
    let same : w.0 ≡ z = sym (word-back (f t.0 t.1) w.0 e) ∙ t.4 in
    let is : combine o t.0 t.1 ≡ Gives z = w.1 ∙ ap Gives same in
    ((t.0, t.1, t.2, t.3, is), word-ends z (word_gives (f t.0 t.1) z (e ∙ ap Gives same)))

product-gained : (r s : Bounds) → IsRange r → IsRange s → AlwaysGives Multiply r s → IfSome (word (products r s)) (EndsGained Multiply r s)
product-gained r s i j always =
    let t = products-best r s i.ordered j.ordered in
    let g = taken-gained Multiply ◌*ℤ◌ r s (λ p q z e. e) always in
    gained-word Multiply r s (products r s) (g (products r s).lo t.0) (g (products r s).hi t.1)

quotient-word : (p q z : ℤ) → combine Divide p q ≡ Gives z → machine.word (int_div p q) ≡ Gives z
quotient-word p q z e = by (int_eq q (pos 0)) e
  where
    by : (b : Bool) → (if b then Faults Zero else machine.word (int_div p q)) ≡ Gives z → machine.word (int_div p q) ≡ Gives z
    by true e = cc
    by false e = e

quotient-gained : (r s : Bounds) → IsRange r → IsRange s → AlwaysGives Divide r s → IfSome (word_if (quotients r s)) (EndsGained Divide r s)
quotient-gained r s i j always = by (quotients r s) (quotients-taken r s i.ordered)
  where
    by : (o : Option Bounds) → IfSome o (EndsTaken r s) → IfSome (word_if o) (EndsGained Divide r s)
    by None t = tt
    by (Some b) t = let g = taken-gained Divide int_div r s quotient-word always in gained-word Divide r s b (g b.lo t.0) (g b.hi t.1)

exact-gained : (o : Operator) (r s : Bounds) → IsExact o → IsRange r → IsRange s → AlwaysGives o r s → IfSome (operation o r s) (EndsGained o r s)
exact-gained Add r s h i j f = linear-gained Add r s tt i j
exact-gained Subtract r s h i j f = linear-gained Subtract r s tt i j
exact-gained Multiply r s h i j f = product-gained r s i j f
exact-gained Divide r s h i j f = quotient-gained r s i j f
exact-gained Remainder r s h i j f = absurd h

binary-is : (v : Variables) (o : Operator) (a b : Term) (p q z : ℤ) → value_of v a ≡ Gives p → value_of v b ≡ Gives q → combine o p q ≡ Gives z → value_of v (Binary o a b) ≡ Gives z
unfolding value_of
binary-is v o a b p q z e f g = rw e (rw f g)

binary-gives : (v : Variables) (o : Operator) (a b : Term) (p q z : ℤ) → value_of v a ≡ Gives p → value_of v b ≡ Gives q → value_of v (Binary o a b) ≡ Gives z → combine o p q ≡ Gives z
unfolding value_of
binary-gives v o a b p q z e f g = rw (e, f) at g

binary-range : (l : Layout) (rs : List SlotRange) (o : Operator) (a b : Term) → IsOperand a → IsOperand b → fits_term l a ≡ true → fits_term l b ≡ true → range_of rs (Binary o a b) ≡ operation o (operand_range rs a) (operand_range rs b)
unfolding range_by
binary-range l rs o a b i j f g = rw (range_of-operand l rs a i f, range_of-operand l rs b j g) refl

fits-parts : (l : Layout) (x : ℕ) (o : Operator) (a b : Term) → fits_effect l (SetInt x (Binary o a b)) ≡ true → (is_int l x ≡ true) × (fits_term l a ≡ true) × (fits_term l b ≡ true)
unfolding fits_effect fits_term
fits-parts l x o a b f = let p = and_parts (is_int l x) (fits_term l a && fits_term l b) f in let q = and_parts (fits_term l a) (fits_term l b) p.1 in (p.0, q.0, q.1)

module _ (l : Layout) (ls : List Layout) (rs : List SlotRange) (fit : AllZip FitsSlot l.numbers rs) (x : ℕ) (o : Operator) (a b : Term) (i : IsOperand a) (j : IsOperand b) (apart : AreApart (side_of a) (side_of b)) (f : fits_term l a ≡ true) (g : fits_term l b ≡ true) where
  abbrev left : Bounds
  left = operand_range rs a

  abbrev right : Bounds
  right = operand_range rs b

  value-at : (p q z : ℤ) (at : ℕ → ℤ) → Lies p left → Lies q right → combine o p q ≡ Gives z → LieAll rs at → value_of (frame l (two a b p q at)) (Binary o a b) ≡ Gives z
  value-at p q z at w u e h =
      let k = two-lie rs a b p q at i j w u h in
      binary-is (frame l (two a b p q at)) o a b p q z (value_of-operand l rs (two a b p q at) a i f fit k ∙ ap Gives (two-left rs a b p q at i apart w)) (value_of-operand l rs (two a b p q at) b j g fit k ∙ ap Gives (two-right rs a b p q at j u)) e

  sets : (z : ℤ) (at : ℕ → ℤ) → LieAll rs at → value_of (frame l at) (Binary o a b) ≡ Gives z → Sets l ls rs (SetInt x (Binary o a b)) x z at
  unfolding effect_of
  sets z at h e = bare-sets l ls rs fit (SetInt x (Binary o a b)) x z at [] (Int z) h (All-nil IsWord) (rw e refl) refl

  gained-sets : (z : ℤ) (at : ℕ → ℤ) → LieAll rs at → (t : Gained o left right z) → Sets l ls rs (SetInt x (Binary o a b)) x z (two a b t.0 t.1 at)
  gained-sets z at h t = sets z (two a b t.0 t.1 at) (two-lie rs a b t.0 t.1 at i j t.2 t.3 h) (value-at t.0 t.1 z at t.2 t.3 t.4 h)

  assigned : (r : Bounds) → is_int l x ≡ true → EndsGained o left right r → ((y : ℕ) (z : ℤ) → x ≢ y → Lies z (range_at rs y) → (h : ℕ → ℤ) × (w : ℤ) × (h y ≡ z) × Sets l ls rs (SetInt x (Binary o a b)) x w h) → Tight (After (l ∷ ls) (SetInt x (Binary o a b)) (Within rs)) (length l.numbers) (Within (with_range rs x r))
  assigned r e t free =
      let low = lows-lie l.numbers rs fit in
      set-tight l ls rs fit (SetInt x (Binary o a b)) x r (slot-there l.numbers false x e)
      (two a b t.1.0 t.1.1 (lows rs), gained-sets r.lo (lows rs) low t.1)
      (two a b t.2.0 t.2.1 (lows rs), gained-sets r.hi (lows rs) low t.2)
      free

  -- the numbers of another slot, where the expression has a value in every frame
  never-free : NeverFails l ls (Binary o a b) (Within rs) → (y : ℕ) (z : ℤ) → x ≢ y → Lies z (range_at rs y) → (h : ℕ → ℤ) × (w : ℤ) × (h y ≡ z) × Sets l ls rs (SetInt x (Binary o a b)) x w h
  never-free never y z ne w =
      let h = put y z (lows rs) in
      let k = put-lies rs y z (lows rs) w (lows-lie l.numbers rs fit) in
      let v = never (bare []) (frame l h) (first_frames ls) (frame-of l ls [] rs h (All-nil IsWord) fit k) in
      (h, v.0, put-here y z (lows rs), sets v.0 h k v.1)

  -- the same, where the slot that is set is the only one of the expression
  only-free : (c : ℤ) → Gained o left right c → IsOnly x a → IsOnly x b → (y : ℕ) (z : ℤ) → x ≢ y → Lies z (range_at rs y) → (h : ℕ → ℤ) × (w : ℤ) × (h y ≡ z) × Sets l ls rs (SetInt x (Binary o a b)) x w h
  only-free c t m n y z ne w =
      let at = put y z (lows rs) in
      let k = put-lies rs y z (lows rs) w (lows-lie l.numbers rs fit) in (
        two a b t.0 t.1 at,
        c,
        put_at-else (side_of b) y t.1 (put_at (side_of a) t.0 at) (λ e. ne (sym (n y e))) ∙ put_at-else (side_of a) y t.0 at (λ e. ne (sym (m y e))) ∙ put-here y z (lows rs),
        gained-sets c at k t,
      )

  always-gives : NeverFails l ls (Binary o a b) (Within rs) → AlwaysGives o left right
  always-gives never p q w u =
      let low = lows-lie l.numbers rs fit in
      let at = two a b p q (lows rs) in
      let k = two-lie rs a b p q (lows rs) i j w u low in
      let v = never (bare []) (frame l at) (first_frames ls) (frame-of l ls [] rs at (All-nil IsWord) fit k) in
      (v.0, binary-gives (frame l at) o a b p q v.0 (value_of-operand l rs at a i f fit k ∙ ap Gives (two-left rs a b p q (lows rs) i apart w)) (value_of-operand l rs at b j g fit k ∙ ap Gives (two-right rs a b p q (lows rs) j u)) v.1)

set-post : (l : Layout) (x : ℕ) (o : Operator) (a b : Term) (rs : List SlotRange) → IsOperand a → IsOperand b → fits_term l a ≡ true → fits_term l b ≡ true → post (Does (SetInt x (Binary o a b))) (Within rs) ≡ needs (operation o (operand_range rs a) (operand_range rs b)) (λ r. Within (with_range rs x r))
unfolding post does
set-post l x o a b rs i j f g = ap (λ t. needs t (λ r. Within (with_range rs x r))) (binary-range l rs o a b i j f g)

operation-tight : (l : Layout) (ls : List Layout) (x : ℕ) (o : Operator) (a b : Term) (s : Intervals) → IsExact o → IsOperand a → IsOperand b → AreApart (side_of a) (side_of b) → fits_effect l (SetInt x (Binary o a b)) ≡ true → FitsState l s → NeverFails l ls (Binary o a b) s → Tight (After (l ∷ ls) (SetInt x (Binary o a b)) s) (length l.numbers) (post (Does (SetInt x (Binary o a b))) s)
operation-tight l ls x o a b Empty m i j apart f h never = subst (Tight (After (l ∷ ls) (SetInt x (Binary o a b)) Empty) (length l.numbers)) (sym (post_empty (SetInt x (Binary o a b)))) tt
operation-tight l ls x o a b (Within rs) m i j apart f h never =
    let among = After (l ∷ ls) (SetInt x (Binary o a b)) (Within rs) in
    let p = fits-parts l x o a b f in
    let r = operand_range rs a in
    let t = operand_range rs b in
    subst (Tight among (length l.numbers)) (sym (set-post l x o a b rs i j p.1 p.2))
    (needs-tight among (length l.numbers) (operation o r t) (EndsGained o r t) (λ c. Within (with_range rs x c))
    (exact-gained o r t m (operand_range-range l rs a i p.1 h) (operand_range-range l rs b j p.2 h) (always-gives l ls rs h x o a b i j apart p.1 p.2 never))
    (λ c e. assigned l ls rs h x o a b i j apart p.1 p.2 c p.0 e (never-free l ls rs h x o a b i j apart p.1 p.2 never)))

update-tight : (l : Layout) (ls : List Layout) (x : ℕ) (o : Operator) (a b : Term) (s : Intervals) → IsLinear o → IsOperand a → IsOperand b → AreApart (side_of a) (side_of b) → IsOnly x a → IsOnly x b → fits_effect l (SetInt x (Binary o a b)) ≡ true → FitsState l s → Tight (After (l ∷ ls) (SetInt x (Binary o a b)) s) (length l.numbers) (post (Does (SetInt x (Binary o a b))) s)
update-tight l ls x o a b Empty m i j apart u w f h = subst (Tight (After (l ∷ ls) (SetInt x (Binary o a b)) Empty) (length l.numbers)) (sym (post_empty (SetInt x (Binary o a b)))) tt
update-tight l ls x o a b (Within rs) m i j apart u w f h =
    let among = After (l ∷ ls) (SetInt x (Binary o a b)) (Within rs) in
    let p = fits-parts l x o a b f in
    let r = operand_range rs a in
    let t = operand_range rs b in
    subst (Tight among (length l.numbers)) (sym (set-post l x o a b rs i j p.1 p.2))
    (needs-tight among (length l.numbers) (operation o r t) (EndsGained o r t) (λ c. Within (with_range rs x c))
    (linear-gained o r t m (operand_range-range l rs a i p.1 h) (operand_range-range l rs b j p.2 h))
    (λ c e. assigned l ls rs h x o a b i j apart p.1 p.2 c p.0 e (only-free l ls rs h x o a b i j apart p.1 p.2 c.lo e.1 u w)))

pub operation-best : (l : Layout) (ls : List Layout) (x : ℕ) (o : Operator) (a b : Term) (s : Intervals) → IsExact o → IsOperand a → IsOperand b → AreApart (side_of a) (side_of b) → fits_effect l (SetInt x (Binary o a b)) ≡ true → fits s (l ∷ ls) ≡ true → NeverFails l ls (Binary o a b) s → IsBest (After (l ∷ ls) (SetInt x (Binary o a b)) s) (post (Does (SetInt x (Binary o a b))) s)
operation-best l ls x o a b s m i j apart f g never = record {
  sound = after-sound l ls (SetInt x (Binary o a b)) s f g;
  smallest = λ t c. tight-smallest (After (l ∷ ls) (SetInt x (Binary o a b)) s) (length l.numbers) (post (Does (SetInt x (Binary o a b))) s) t (operation-tight l ls x o a b s m i j apart f (fits-state s l ls g) never) c;
}

pub update-best : (l : Layout) (ls : List Layout) (x : ℕ) (o : Operator) (a b : Term) (s : Intervals) → IsLinear o → IsOperand a → IsOperand b → AreApart (side_of a) (side_of b) → IsOnly x a → IsOnly x b → fits_effect l (SetInt x (Binary o a b)) ≡ true → fits s (l ∷ ls) ≡ true → IsBest (After (l ∷ ls) (SetInt x (Binary o a b)) s) (post (Does (SetInt x (Binary o a b))) s)
update-best l ls x o a b s m i j apart u w f g = record {
  sound = after-sound l ls (SetInt x (Binary o a b)) s f g;
  smallest = λ t c. tight-smallest (After (l ∷ ls) (SetInt x (Binary o a b)) s) (length l.numbers) (post (Does (SetInt x (Binary o a b))) s) t (update-tight l ls x o a b s m i j apart u w f (fits-state s l ls g)) c;
}
