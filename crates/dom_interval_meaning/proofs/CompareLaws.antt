-- Comparisons, joins and guards: what a state describes stays described, and states that fit stay so.
use Rattle.std.proofs.Common.{◌≡◌, ◌≢◌, refl, sym, ap, ◌∙◌, subst, ℕ, ℤ, pos, ◌≤ℤ◌, ◌<ℤ◌, ◌+ℤ◌, ◌-ℤ◌, int_le, int_lt, Bool, true, false, not, ◌&&◌, List, [], ◌∷◌, map, Option, Some, None, IfSome, arith, if◌then◌else◌}
use Rattle.std.proofs.lemmas.Int.{ints, clamps}
use Rattle.std.proofs.lemmas.Bool.{and_parts}
use Rattle.std.proofs.lemmas.Bool.Decides.{Decides-int_eq}
use Rattle.std.specs.Int.{int_max, int_min}
use Rattle.std.specs.Ordering.{int_eq}
use Rattle.std.specs.List.{AllZip, zip}
use Rattle.imp_syntax.specs.declared.words.Relation.{Relation}
use Rattle.imp_syntax.specs.declared.words.Relation.TheVariants.{Equal, NotEqual, Less, AtMost, Greater, AtLeast}
use Rattle.imp_slots.specs.Plain.{Numeric, Layout, Term, Literal, Slot, Length, Negative, Binary, Guard}
use Rattle.imp_slots.specs.Fits.{fits_term, fits_guard}
use Rattle.concrete_sem.specs.Values.{Number, Variables, Gives, number_at}
use Rattle.concrete_sem.specs.Evaluation.{value_of, truth_of, relates}
use Rattle.concrete_sem.specs.Proper.{IsNumber}
use Rattle.domain_laws.specs.Guards.{Compares, Tells}
use Rattle.domain_laws.proofs.GuardLaws.{assumed-fits, assumed-covers}
use Rattle.num_bounds.specs.Bounds.{Bounds, IsRange, Within as Lies, least, greatest}
use Rattle.num_bounds.specs.Operations.{cut_of, hull_of}
use Rattle.num_bounds.specs.Meaning.{Covers}
use Rattle.num_bounds.proofs.Ends.{cut-covers, between-left}
use Rattle.dom_numeric.specs.Measures.{measure}
use Rattle.dom_numeric.proofs.Slots.{slot-measure, length-measure}
use Rattle.dom_interval_meaning.specs.State.{Intervals, Empty, Within}
use Rattle.dom_interval_meaning.specs.Ranges.{slot_at, range_at, with_range, range_of}
use Rattle.dom_interval_meaning.specs.Operations.{needs, unless_empty, side_of, cut_side, cut_both, less, at_most, equal, is_single, lose_end, not_equal, related, compare, compare_ranges, compare_links, hull_slot, join, assume}
use Rattle.dom_interval_meaning.specs.Covers.{Holds}
use Rattle.dom_interval_meaning.proofs.SlotLaws.{FitsSlot, FitsRange, at-fits, at-holds, set-fits, cut-holds}
use Rattle.dom_interval_meaning.proofs.RangeLaws.{range_of-covers, range_of-range}
use Rattle.dom_interval_meaning.specs.declared.slot_range.SlotRange.{SlotRange}

-- a state that fits a frame's layout, and one that describes its variables
abbrev pub FitsState : Layout → Intervals → Type 0
FitsState l Empty = Unit {0}
FitsState l (Within rs) = AllZip FitsSlot l.numbers rs

abbrev pub Describes : Variables → Intervals → Type 0
Describes v Empty = ⊥
Describes v (Within rs) = AllZip Holds rs v.numbers

pub after-fits : (l : Layout) (s : Intervals) (f : List SlotRange → Intervals) → FitsState l s → ((rs : List SlotRange) → AllZip FitsSlot l.numbers rs → FitsState l (f rs)) → FitsState l (unless_empty s f)
after-fits l Empty f h g = tt
after-fits l (Within rs) f h g = g rs h

pub after-describes : (l : Layout) (v : Variables) (s : Intervals) (f : List SlotRange → Intervals) → FitsState l s → Describes v s → ((rs : List SlotRange) → AllZip FitsSlot l.numbers rs → AllZip Holds rs v.numbers → Describes v (f rs)) → Describes v (unless_empty s f)
after-describes l v Empty f k h g = absurd h
after-describes l v (Within rs) f k h g = g rs k h

pub needs-fits : (l : Layout) (o : Option Bounds) (P : Bounds → Type 0) (f : Bounds → Intervals) → IfSome o P → ((r : Bounds) → P r → FitsState l (f r)) → FitsState l (needs o f)
needs-fits l None P f h g = tt
needs-fits l (Some r) P f h g = g r h

pub needs-describes : (v : Variables) (o : Option Bounds) (z : ℤ) (f : Bounds → Intervals) → Covers o z → ((r : Bounds) → Lies z r → Describes v (f r)) → Describes v (needs o f)
needs-describes v None z f h g = absurd h
needs-describes v (Some r) z f h g = g r h

pub cut-fits : (b : Bool) (r : Bounds) (lo hi : ℤ) → FitsRange b r → IfSome (cut_of r lo hi) (FitsRange b)
cut-fits b r lo hi h =
    let low = h.low in
    let high = h.high in
    between-left (int_max r.lo lo) (int_min r.hi hi) (FitsRange b) (λ e. record { low = omega (arith, ints, clamps, low); ordered = e; high = omega (arith, ints, clamps, high) })

side-fits : (l : Layout) (o : Option ℕ) (lo hi : ℤ) (rs : List SlotRange) → AllZip FitsSlot l.numbers rs → FitsState l (cut_side o lo hi rs)
side-fits l None lo hi rs h = h
side-fits l (Some x) lo hi rs h =
    needs-fits l (cut_of (range_at rs x) lo hi) (FitsRange (slot_at rs x).is_array) (λ r. Within (with_range rs x r)) (cut-fits (slot_at rs x).is_array (range_at rs x) lo hi (at-fits l.numbers rs x h))
    (λ r k. set-fits l.numbers rs x r h k)

both-fits : (l : Layout) (a b : Option ℕ) (r s : Bounds) (rs : List SlotRange) → AllZip FitsSlot l.numbers rs → FitsState l (cut_both a b r s rs)
both-fits l a b r s rs h = after-fits l (cut_side a r.lo r.hi rs) (cut_side b s.lo s.hi) (side-fits l a r.lo r.hi rs h) (λ qs k. side-fits l b s.lo s.hi qs k)

if-fits : (l : Layout) (b : Bool) (s : Intervals) → FitsState l s → FitsState l (if b then Empty else s)
if-fits l true s h = tt
if-fits l false s h = h

choice-fits : (l : Layout) (b : Bool) (s t : Intervals) → FitsState l s → FitsState l t → FitsState l (if b then s else t)
choice-fits l true s t h k = h
choice-fits l false s t h k = k

lose-fits : (l : Layout) (a : Option ℕ) (r s : Bounds) (rs : List SlotRange) → AllZip FitsSlot l.numbers rs → FitsState l (lose_end a r s rs)
lose-fits l a r s rs h =
    choice-fits l (is_single s) (if int_eq r.lo s.lo then cut_side a (r.lo +ℤ pos 1) greatest rs else (if int_eq r.hi s.lo then cut_side a least (r.hi -ℤ pos 1) rs else Within rs)) (Within rs)
    (choice-fits l (int_eq r.lo s.lo) (cut_side a (r.lo +ℤ pos 1) greatest rs) (if int_eq r.hi s.lo then cut_side a least (r.hi -ℤ pos 1) rs else Within rs) (side-fits l a (r.lo +ℤ pos 1) greatest rs h)
    (choice-fits l (int_eq r.hi s.lo) (cut_side a least (r.hi -ℤ pos 1) rs) (Within rs) (side-fits l a least (r.hi -ℤ pos 1) rs h) h))
    h

less-fits : (l : Layout) (a b : Option ℕ) (r s : Bounds) (rs : List SlotRange) → AllZip FitsSlot l.numbers rs → FitsState l (less a b r s rs)
less-fits l a b r s rs h = if-fits l (int_le s.hi r.lo) _ (both-fits l a b (record { lo = least; hi = s.hi -ℤ pos 1 }) (record { lo = r.lo +ℤ pos 1; hi = greatest }) rs h)

at_most-fits : (l : Layout) (a b : Option ℕ) (r s : Bounds) (rs : List SlotRange) → AllZip FitsSlot l.numbers rs → FitsState l (at_most a b r s rs)
at_most-fits l a b r s rs h = if-fits l (int_lt s.hi r.lo) _ (both-fits l a b (record { lo = least; hi = s.hi }) (record { lo = r.lo; hi = greatest }) rs h)

any-some : {A : Type 0} (o : Option A) → IfSome o (λ _. Unit {0})
any-some None = tt
any-some (Some a) = tt

related-fits : (l : Layout) (c : Relation) (a b : Option ℕ) (r s : Bounds) (rs : List SlotRange) → AllZip FitsSlot l.numbers rs → FitsState l (related c a b r s rs)
related-fits l Equal a b r s rs h = needs-fits l (cut_of r s.lo s.hi) (λ _. Unit {0}) (λ q. cut_both a b q q rs) (any-some (cut_of r s.lo s.hi)) (λ q _. both-fits l a b q q rs h)
related-fits l NotEqual a b r s rs h = if-fits l (is_single r && (is_single s && int_eq r.lo s.lo)) _ (after-fits l (lose_end a r s rs) (lose_end b s r) (lose-fits l a r s rs h) (λ qs k. lose-fits l b s r qs k))
related-fits l Less a b r s rs h = less-fits l a b r s rs h
related-fits l AtMost a b r s rs h = at_most-fits l a b r s rs h
related-fits l Greater a b r s rs h = less-fits l b a s r rs h
related-fits l AtLeast a b r s rs h = at_most-fits l b a s r rs h

compare-fits : (l : Layout) (c : Relation) (a b : Term) (s : Intervals) → FitsState l s → FitsState l (compare c a b s)
compare-fits l c a b s h =
    after-fits l s (compare_ranges c a b) h (λ rs k. needs-fits l (range_of rs a) (λ _. Unit {0}) _ (any-some (range_of rs a)) (λ r _.
    needs-fits l (range_of rs b) (λ _. Unit {0}) _ (any-some (range_of rs b)) (λ q _. related-fits l c (side_of a) (side_of b) r q rs k)))

-- the value of a side that is a slot's
abbrev IsSide : Variables → Option ℕ → ℤ → Type 0
IsSide v None z = Unit {0}
IsSide v (Some x) z = measure (number_at v x) ≡ z

side_of-is : (l : Layout) (v : Variables) (t : Term) (z : ℤ) → fits_term l t ≡ true → AllZip IsNumber l.numbers v.numbers → value_of v t ≡ Gives z → IsSide v (side_of t) z
unfolding value_of fits_term
side_of-is l v (Literal n) z f k g = tt
side_of-is l v (Slot x) z f k g = slot-measure l v x z k f g
side_of-is l v (Length a) z f k g = length-measure l v a z k f g
side_of-is l v (Negative t) z f k g = tt
side_of-is l v (Binary o a b) z f k g = tt

side-describes : (v : Variables) (o : Option ℕ) (z lo hi : ℤ) (rs : List SlotRange) → IsSide v o z → lo ≤ℤ z → z ≤ℤ hi → AllZip Holds rs v.numbers → Describes v (cut_side o lo hi rs)
side-describes v None z lo hi rs e p q h = h
side-describes v (Some x) z lo hi rs e p q h =
    let w = subst (λ y. Lies y (range_at rs x)) e (at-holds rs v.numbers x h) in
    needs-describes v (cut_of (range_at rs x) lo hi) z (λ r. Within (with_range rs x r)) (cut-covers (range_at rs x) lo hi z w p q)
    (λ r k. cut-holds rs v.numbers x r h (subst (λ y. Lies y r) (sym e) k))

module _ (l : Layout) (v : Variables) where
  both-describes : (a b : Option ℕ) (x y : ℤ) (r s : Bounds) (rs : List SlotRange) → IsSide v a x → IsSide v b y → Lies x r → Lies y s → AllZip FitsSlot l.numbers rs → AllZip Holds rs v.numbers → Describes v (cut_both a b r s rs)
  both-describes a b x y r s rs d e p q k h =
      after-describes l v (cut_side a r.lo r.hi rs) (cut_side b s.lo s.hi) (side-fits l a r.lo r.hi rs k) (side-describes v a x r.lo r.hi rs d p.0 p.1 h)
      (λ qs m n. side-describes v b y s.lo s.hi qs e q.0 q.1 n)

  if-describes : (b : Bool) (s : Intervals) → b ≡ false → Describes v s → Describes v (if b then Empty else s)
  if-describes true s e h = cc
  if-describes false s e h = h

  less-describes : (a b : Option ℕ) (x y : ℤ) (r s : Bounds) (rs : List SlotRange) → IsSide v a x → IsSide v b y → IsRange r → IsRange s → Lies x r → Lies y s → x <ℤ y → AllZip FitsSlot l.numbers rs → AllZip Holds rs v.numbers → Describes v (less a b r s rs)
  less-describes a b x y r s rs d e i j p q lt k h =
      let low : r.lo ≤ℤ x = p.0 in
      let high : y ≤ℤ s.hi = q.1 in
      let bottom : least ≤ℤ r.lo = i.low in
      let top : s.hi ≤ℤ greatest = j.high in
      let no : int_le s.hi r.lo ≡ false = let ne : r.lo <ℤ s.hi = omega (arith, ints) in grind (arith, ints) in
      if-describes (int_le s.hi r.lo) _ no
      (both-describes a b x y (record { lo = least; hi = s.hi -ℤ pos 1 }) (record { lo = r.lo +ℤ pos 1; hi = greatest }) rs d e (omega (arith, ints), omega (arith, ints)) (omega (arith, ints), omega (arith, ints)) k h)

  at_most-describes : (a b : Option ℕ) (x y : ℤ) (r s : Bounds) (rs : List SlotRange) → IsSide v a x → IsSide v b y → IsRange r → IsRange s → Lies x r → Lies y s → x ≤ℤ y → AllZip FitsSlot l.numbers rs → AllZip Holds rs v.numbers → Describes v (at_most a b r s rs)
  at_most-describes a b x y r s rs d e i j p q le k h =
      let low : r.lo ≤ℤ x = p.0 in
      let high : y ≤ℤ s.hi = q.1 in
      let bottom : least ≤ℤ r.lo = i.low in
      let top : s.hi ≤ℤ greatest = j.high in
      let no : int_lt s.hi r.lo ≡ false = let ne : r.lo ≤ℤ s.hi = omega (arith, ints) in grind (arith, ints) in
      if-describes (int_lt s.hi r.lo) _ no
      (both-describes a b x y (record { lo = least; hi = s.hi }) (record { lo = r.lo; hi = greatest }) rs d e (omega (arith, ints), omega (arith, ints)) (omega (arith, ints), omega (arith, ints)) k h)

  equal-describes : (a b : Option ℕ) (x : ℤ) (r s : Bounds) (rs : List SlotRange) → IsSide v a x → IsSide v b x → Lies x r → Lies x s → AllZip FitsSlot l.numbers rs → AllZip Holds rs v.numbers → Describes v (equal a b r s rs)
  equal-describes a b x r s rs d e p q k h =
      needs-describes v (cut_of r s.lo s.hi) x (λ c. cut_both a b c c rs) (cut-covers r s.lo s.hi x p q.0 q.1) (λ c w. both-describes a b x x c c rs d e w w k h)

  -- a choice by a test, each side with what the test says
  choice-describes : (b : Bool) (s t : Intervals) → (b ≡ true → Describes v s) → (b ≡ false → Describes v t) → Describes v (if b then s else t)
  choice-describes true s t f g = f refl
  choice-describes false s t f g = g refl

  lose-describes : (a : Option ℕ) (x y : ℤ) (r s : Bounds) (rs : List SlotRange) → IsSide v a x → IsRange r → Lies x r → Lies y s → x ≢ y → AllZip Holds rs v.numbers → Describes v (lose_end a r s rs)
  lose-describes a x y r s rs d i p q ne h =
      let low : r.lo ≤ℤ x = p.0 in
      let high : x ≤ℤ r.hi = p.1 in
      let y_low : s.lo ≤ℤ y = q.0 in
      let y_high : y ≤ℤ s.hi = q.1 in
      let bottom : least ≤ℤ r.lo = i.low in
      let top : r.hi ≤ℤ greatest = i.high in
      choice-describes (is_single s) _ _
      (λ t. let one : s.lo ≡ s.hi = (Decides-int_eq s.lo s.hi).0 t in
      choice-describes (int_eq r.lo s.lo) _ _
      (λ t2. let at : r.lo ≡ s.lo = (Decides-int_eq r.lo s.lo).0 t2 in
      side-describes v a x (r.lo +ℤ pos 1) greatest rs d (above x y r.lo s.lo s.hi low y_low y_high one at ne) (omega (arith, ints)) h)
      (λ t2. choice-describes (int_eq r.hi s.lo) _ _
      (λ t3. let at : r.hi ≡ s.lo = (Decides-int_eq r.hi s.lo).0 t3 in
      side-describes v a x least (r.hi -ℤ pos 1) rs d (omega (arith, ints)) (below x y r.hi s.lo s.hi high y_low y_high one at ne) h)
      (λ t3. h)))
      (λ t. h)
    where
      apart : (x y lo hi : ℤ) → lo ≤ℤ y → y ≤ℤ hi → lo ≡ hi → y ≡ lo
      apart x y lo hi p q e = omega (arith, ints)

      above : (x y e lo hi : ℤ) → e ≤ℤ x → lo ≤ℤ y → y ≤ℤ hi → lo ≡ hi → e ≡ lo → x ≢ y → (e +ℤ pos 1) ≤ℤ x
      above x y e lo hi p q r one at ne = let no : x ≡ e → ⊥ = λ z. ne (omega (arith, ints)) in omega (arith, ints)

      below : (x y e lo hi : ℤ) → x ≤ℤ e → lo ≤ℤ y → y ≤ℤ hi → lo ≡ hi → e ≡ lo → x ≢ y → x ≤ℤ (e -ℤ pos 1)
      below x y e lo hi p q r one at ne = let no : x ≡ e → ⊥ = λ z. ne (omega (arith, ints)) in omega (arith, ints)

  not_equal-describes : (a b : Option ℕ) (x y : ℤ) (r s : Bounds) (rs : List SlotRange) → IsSide v a x → IsSide v b y → IsRange r → IsRange s → Lies x r → Lies y s → x ≢ y → AllZip FitsSlot l.numbers rs → AllZip Holds rs v.numbers → Describes v (not_equal a b r s rs)
  not_equal-describes a b x y r s rs d e i j p q ne k h =
      choice-describes (is_single r && (is_single s && int_eq r.lo s.lo)) Empty _
      (λ t. let w = and_parts (is_single r) (is_single s && int_eq r.lo s.lo) t in
      let u = and_parts (is_single s) (int_eq r.lo s.lo) w.1 in
      ne (one-number x y r s p q ((Decides-int_eq r.lo r.hi).0 w.0) ((Decides-int_eq s.lo s.hi).0 u.0) ((Decides-int_eq r.lo s.lo).0 u.1)))
      (λ t. after-describes l v (lose_end a r s rs) (lose_end b s r) (lose-fits l a r s rs k) (lose-describes a x y r s rs d i p q ne h)
      (λ qs m n. lose-describes b y x s r qs e j q p (λ z. ne (sym z)) n))
    where
      one-number : (x y : ℤ) (r s : Bounds) → Lies x r → Lies y s → r.lo ≡ r.hi → s.lo ≡ s.hi → r.lo ≡ s.lo → x ≡ y
      one-number x y r s p q m n o =
          let a : r.lo ≤ℤ x = p.0 in
          let b : x ≤ℤ r.hi = p.1 in
          let c : s.lo ≤ℤ y = q.0 in
          let d : y ≤ℤ s.hi = q.1 in
          omega (arith, ints)

  related-describes : (c : Relation) (a b : Option ℕ) (x y : ℤ) (r s : Bounds) (rs : List SlotRange) → IsSide v a x → IsSide v b y → IsRange r → IsRange s → Lies x r → Lies y s → relates c x y ≡ true → AllZip FitsSlot l.numbers rs → AllZip Holds rs v.numbers → Describes v (related c a b r s rs)
  related-describes Equal a b x y r s rs d e i j p q t k h =
      let same : y ≡ x = sym ((Decides-int_eq x y).0 t) in
      equal-describes a b x r s rs d (subst (λ z. IsSide v b z) same e) p (subst (λ z. Lies z s) same q) k h
  related-describes NotEqual a b x y r s rs d e i j p q t k h =
      not_equal-describes a b x y r s rs d e i j p q (λ z. let u : int_eq x y ≡ true = (Decides-int_eq x y).1 z in let w : false ≡ true = sym (ap not u) ∙ t in cc) k h
  related-describes Less a b x y r s rs d e i j p q t k h = let lt : x <ℤ y = grind (arith, ints) in less-describes a b x y r s rs d e i j p q lt k h
  related-describes AtMost a b x y r s rs d e i j p q t k h = let le : x ≤ℤ y = grind (arith, ints) in at_most-describes a b x y r s rs d e i j p q le k h
  related-describes Greater a b x y r s rs d e i j p q t k h = let lt : y <ℤ x = grind (arith, ints) in less-describes b a y x s r rs e d j i q p lt k h
  related-describes AtLeast a b x y r s rs d e i j p q t k h = let le : y ≤ℤ x = grind (arith, ints) in at_most-describes b a y x s r rs e d j i q p le k h

  -- the range of a term that has a value, in one go with what is known of it
  with-range : (o : Option Bounds) (x : ℤ) (f : Bounds → Intervals) → Covers o x → IfSome o IsRange → ((r : Bounds) → IsRange r → Lies x r → Describes v (f r)) → Describes v (needs o f)
  with-range None x f c i g = absurd c
  with-range (Some r) x f c i g = g r i c

  compare-describes : (c : Relation) (a b : Term) (x y : ℤ) (s : Intervals) → fits_term l a ≡ true → fits_term l b ≡ true → AllZip IsNumber l.numbers v.numbers → FitsState l s → value_of v a ≡ Gives x → value_of v b ≡ Gives y → relates c x y ≡ true → Describes v s → Describes v (compare c a b s)
  compare-describes c a b x y s f g w k m n t h =
      after-describes l v s (compare_ranges c a b) k h (λ rs u z.
      with-range (range_of rs a) x _ (range_of-covers l rs v a x f w z m) (range_of-range l rs a f u) (λ r i p.
      with-range (range_of rs b) y _ (range_of-covers l rs v b y g w z n) (range_of-range l rs b g u) (λ q j o.
      related-describes c (side_of a) (side_of b) x y r q rs (side_of-is l v a x f w m) (side_of-is l v b y g w n) i j p o t u z)))

-- Joins.
hull-left : (z : ℤ) (a b : Bounds) → Lies z a → Lies z (hull_of a b)
hull-left z a b h = let p : a.lo ≤ℤ z = h.0 in let q : z ≤ℤ a.hi = h.1 in (omega (arith, ints, clamps), omega (arith, ints, clamps))

hull-right : (z : ℤ) (a b : Bounds) → Lies z b → Lies z (hull_of a b)
hull-right z a b h = let p : b.lo ≤ℤ z = h.0 in let q : z ≤ℤ b.hi = h.1 in (omega (arith, ints, clamps), omega (arith, ints, clamps))

hull-fits : (b : Bool) (r s : Bounds) → FitsRange b r → FitsRange b s → FitsRange b (hull_of r s)
hull-fits b r s h k = record { low = omega (arith, ints, clamps, h.low, k.low); ordered = omega (arith, ints, clamps, h.ordered, k.ordered); high = omega (arith, ints, clamps, h.high, k.high) }

-- slots made of two lists of slots that fit one layout
pub zip-fits : (f : SlotRange → SlotRange → SlotRange) → ((k : Numeric) (r s : SlotRange) → FitsSlot k r → FitsSlot k s → FitsSlot k (f r s)) → (ks : List Numeric) (rs qs : List SlotRange) → AllZip FitsSlot ks rs → AllZip FitsSlot ks qs → AllZip FitsSlot ks (map (λ p. f p.0 p.1) (zip rs qs))
zip-fits f keeps [] [] [] h k = tt
zip-fits f keeps [] [] (q ∷ qs) h k = absurd k
zip-fits f keeps [] (r ∷ rs) qs h k = absurd h
zip-fits f keeps (n ∷ ks) [] qs h k = absurd h
zip-fits f keeps (n ∷ ks) (r ∷ rs) [] h k = absurd k
zip-fits f keeps (n ∷ ks) (r ∷ rs) (q ∷ qs) h k = (keeps n r q h.0 k.0, zip-fits f keeps ks rs qs h.1 k.1)

pub zip-left : (f : SlotRange → SlotRange → SlotRange) → ((k : Numeric) (r s : SlotRange) (n : Number) → FitsSlot k r → FitsSlot k s → Holds r n → Holds (f r s) n) → (ks : List Numeric) (rs qs : List SlotRange) (ns : List Number) → AllZip FitsSlot ks rs → AllZip FitsSlot ks qs → AllZip Holds rs ns → AllZip Holds (map (λ p. f p.0 p.1) (zip rs qs)) ns
zip-left f keeps [] [] [] [] h k w = tt
zip-left f keeps [] [] [] (n ∷ ns) h k w = absurd w
zip-left f keeps [] [] (q ∷ qs) ns h k w = absurd k
zip-left f keeps [] (r ∷ rs) qs ns h k w = absurd h
zip-left f keeps (m ∷ ks) [] qs ns h k w = absurd h
zip-left f keeps (m ∷ ks) (r ∷ rs) [] ns h k w = absurd k
zip-left f keeps (m ∷ ks) (r ∷ rs) (q ∷ qs) [] h k w = absurd w
zip-left f keeps (m ∷ ks) (r ∷ rs) (q ∷ qs) (n ∷ ns) h k w = (keeps m r q n h.0 k.0 w.0, zip-left f keeps ks rs qs ns h.1 k.1 w.1)

pub zip-right : (f : SlotRange → SlotRange → SlotRange) → ((k : Numeric) (r s : SlotRange) (n : Number) → FitsSlot k r → FitsSlot k s → Holds s n → Holds (f r s) n) → (ks : List Numeric) (rs qs : List SlotRange) (ns : List Number) → AllZip FitsSlot ks rs → AllZip FitsSlot ks qs → AllZip Holds qs ns → AllZip Holds (map (λ p. f p.0 p.1) (zip rs qs)) ns
zip-right f keeps [] [] [] [] h k w = tt
zip-right f keeps [] [] [] (n ∷ ns) h k w = absurd w
zip-right f keeps [] [] (q ∷ qs) ns h k w = absurd k
zip-right f keeps [] (r ∷ rs) qs ns h k w = absurd h
zip-right f keeps (m ∷ ks) [] qs ns h k w = absurd h
zip-right f keeps (m ∷ ks) (r ∷ rs) [] ns h k w = absurd k
zip-right f keeps (m ∷ ks) (r ∷ rs) (q ∷ qs) [] h k w = absurd w
zip-right f keeps (m ∷ ks) (r ∷ rs) (q ∷ qs) (n ∷ ns) h k w = (keeps m r q n h.0 k.0 w.0, zip-right f keeps ks rs qs ns h.1 k.1 w.1)

hull_slot-fits : (k : Numeric) (r s : SlotRange) → FitsSlot k r → FitsSlot k s → FitsSlot k (hull_slot r s)
hull_slot-fits k r s h g = (h.0, hull-fits r.is_array r.range s.range h.1 (subst (λ b. FitsRange b s.range) (sym g.0 ∙ h.0) g.1))

pub join-fits : (l : Layout) (s t : Intervals) → FitsState l s → FitsState l t → FitsState l (join s t)
unfolding join
join-fits l Empty t h k = k
join-fits l (Within rs) Empty h k = h
join-fits l (Within rs) (Within qs) h k = zip-fits hull_slot hull_slot-fits l.numbers rs qs h k

pub join-left : (l : Layout) (v : Variables) (s t : Intervals) → FitsState l s → FitsState l t → Describes v s → Describes v (join s t)
unfolding join
join-left l v Empty t h k w = absurd w
join-left l v (Within rs) Empty h k w = w
join-left l v (Within rs) (Within qs) h k w = zip-left hull_slot (λ n r s m _ _ e. hull-left (measure m) r.range s.range e) l.numbers rs qs v.numbers h k w

pub join-right : (l : Layout) (v : Variables) (s t : Intervals) → FitsState l s → FitsState l t → Describes v t → Describes v (join s t)
unfolding join
join-right l v Empty t h k w = w
join-right l v (Within rs) Empty h k w = absurd w
join-right l v (Within rs) (Within qs) h k w = zip-right hull_slot (λ n r s m _ _ e. hull-right (measure m) r.range s.range e) l.numbers rs qs v.numbers h k w

-- Guards.
compares : (l : Layout) → Compares compare compare_links join l (FitsState l)
compares l = record {
  compare_keeps = λ c a b s _ _ h. compare-fits l c a b s h;
  links_keep = λ same p q s _ _ h. h;
  join_keeps = join-fits l;
}

tells : (l : Layout) (v : Variables) → AllZip IsNumber l.numbers v.numbers → Tells compare compare_links join l v (FitsState l) (Describes v)
tells l v w = record {
  compare_tells = λ c a b x y s f g k m n t h. compare-describes l v c a b x y s f g w k m n t h;
  links_tell = λ same p q s _ _ _ _ h. h;
  join_left = join-left l v;
  join_right = join-right l v;
}

pub assume-fits : (l : Layout) (g : Guard) (b : Bool) (s : Intervals) → fits_guard l g ≡ true → FitsState l s → FitsState l (assume g b s)
unfolding assume
assume-fits l g b s f h = assumed-fits compare compare_links join l (FitsState l) (compares l) g b s f h

pub assume-describes : (l : Layout) (v : Variables) (g : Guard) (b : Bool) (s : Intervals) → AllZip IsNumber l.numbers v.numbers → fits_guard l g ≡ true → FitsState l s → truth_of v g ≡ Gives b → Describes v s → Describes v (assume g b s)
unfolding assume
assume-describes l v g b s w f k t h = assumed-covers compare compare_links join l v (FitsState l) (Describes v) (compares l) (tells l v w) g b s f k t h
