-- Checks hold exactly where statements do not fail them, and negation turns truth values round.
use Rattle.std.proofs.Common.{◌≡◌, refl, sym, ap, ◌∙◌, ℕ, ◌<◌, ◌≤◌, ℤ, pos, negsuc, List, length, slice_get, slice_set, Option, Some, None, Bool, true, false, not, ◌&&◌, All, arith, subst, nat_lt, int_le, int_lt, int_div, int_rem, neg_ℤ, ◌+ℤ◌, ◌-ℤ◌, ◌*ℤ◌, if◌then◌else◌, ◌⊎◌, inl, inr}
use Rattle.std.proofs.lemmas.Int.{ints}
use borrow.Author.Tests.{ltb-true, ltb-false}
use Rattle.concrete_sem.specs.Effects.{element, with_element, cell_of, effect_of, with_cell}
use Rattle.std.specs.Ordering.{int_eq}
use Rattle.imp_syntax.specs.declared.words.Relation.{Relation}
use Rattle.imp_syntax.specs.declared.words.Relation.TheVariants.{Equal, NotEqual, Less, AtMost, Greater, AtLeast}
use Rattle.concrete_sem.specs.Values.{Int, Array, with_number, with_link, Variables, Heap, Cell, array_at, link_at, given_or, is_word, Attempt, Gives, Faults, LacksInput, andthen}
use Rattle.imp_words.specs.declared.fault.FaultKind.{FaultKind}
use Rattle.imp_words.specs.declared.fault.FaultKind.TheVariants.{Overflow, Zero, Length, Index, Null, Assert as Failed}
use Rattle.imp_syntax.specs.declared.words.Operator.{Operator}
use Rattle.imp_syntax.specs.declared.words.Operator.TheVariants.{Add, Subtract, Multiply, Divide, Remainder}
use Rattle.imp_slots.specs.Plain.{Layout, Term, Literal, Slot, Negative, Binary, Guard, Compare, CompareLinks, Not, And, Or, Effect, Skip, Assert, SetInt, Input, ReadElement, ReadItem, MakeArray, CopyArray, WriteElement, SetNull, MakeCell, CopyLink, ReadNext, WriteNext, WriteItem}
use Rattle.concrete_sem.specs.Proper.{IsLink}
use Rattle.imp_slots.specs.Fits.{fits_term, fits_guard, fits_effect, is_int, is_array, is_link}
use Rattle.std.proofs.lemmas.Bool.{and_parts, and_from}
use Rattle.imp_slots.specs.Plain as plain
use Rattle.concrete_sem.specs.Evaluation.{relates, word, quotient, combine, value_of, truth_of, same_link}
use Rattle.domain_laws.specs.Checks.{Check, Within, IsCell, check_of, checked_guard, opposite}
use Rattle.domain_laws.specs.Claims.{ChecksTo, FailsCheck}
use Rattle.std.proofs.lemmas.Option.{slice_get_within}
use Rattle.base_values.proofs.Lists.{none_past}
use Rattle.concrete_sem.proofs.Keeps.{link_is, given_some}
use Rattle.std.proofs.Math.Bool.{not-not}

lt-not_le : (x y : ℤ) → int_le y x ≡ not (int_lt x y)
lt-not_le x y = grind (arith, ints)

le-not_lt : (x y : ℤ) → int_lt y x ≡ not (int_le x y)
le-not_lt x y = grind (arith, ints)

-- the opposite relation holds exactly where the relation does not
pub relates-opposite : (r : Relation) (x y : ℤ) → relates (opposite r) x y ≡ not (relates r x y)
relates-opposite Equal x y = refl
relates-opposite NotEqual x y = sym (not-not (int_eq x y))
relates-opposite Less x y = lt-not_le x y
relates-opposite AtMost x y = le-not_lt x y
relates-opposite Greater x y = lt-not_le y x
relates-opposite AtLeast x y = le-not_lt y x

-- one thing after another gives a value only where both do
pub andthen-gives : {A B : Type 0} (m : Attempt A) (f : A → Attempt B) (b : B) → andthen m f ≡ Gives b → (a : A) × (m ≡ Gives a) × (f a ≡ Gives b)
andthen-gives (Gives a) f b h = (a, refl, h)
andthen-gives (Faults k) f b h = cc
andthen-gives LacksInput f b h = cc

-- a fault comes of the first thing, or of the second after the first gave a value
pub andthen-faults : {A B : Type 0} (m : Attempt A) (f : A → Attempt B) (k : FaultKind) → andthen m f ≡ Faults k → (m ≡ Faults k) ⊎ ((a : A) × (m ≡ Gives a) × (f a ≡ Faults k))
andthen-faults (Gives a) f k h = inr (a, refl, h)
andthen-faults (Faults j) f k h = inl (cc)
andthen-faults LacksInput f k h = cc

-- the faults of arithmetic
abbrev arithmetic : FaultKind → Bool
arithmetic Overflow = true
arithmetic Zero = true
arithmetic Length = false
arithmetic Index = false
arithmetic Null = false
arithmetic Failed = false

word-faults : (b : Bool) (z : ℤ) (k : FaultKind) → (if b then Gives z else Faults Overflow) ≡ Faults k → arithmetic k ≡ true
word-faults true z k h = cc
word-faults false z k h = let e : Overflow ≡ k = cc in subst (λ j. arithmetic j ≡ true) e refl

quotient-faults : (b : Bool) (x y : ℤ) (k : FaultKind) → (if b then Faults Zero else word (int_div x y)) ≡ Faults k → arithmetic k ≡ true
quotient-faults true x y k h = let e : Zero ≡ k = cc in subst (λ j. arithmetic j ≡ true) e refl
quotient-faults false x y k h = word-faults (is_word (int_div x y)) (int_div x y) k h

combine-faults : (o : Operator) (x y : ℤ) (k : FaultKind) → combine o x y ≡ Faults k → arithmetic k ≡ true
combine-faults Add x y k h = word-faults (is_word (x +ℤ y)) (x +ℤ y) k h
combine-faults Subtract x y k h = word-faults (is_word (x -ℤ y)) (x -ℤ y) k h
combine-faults Multiply x y k h = word-faults (is_word (x *ℤ y)) (x *ℤ y) k h
combine-faults Divide x y k h = quotient-faults (int_eq y (pos 0)) x y k h
combine-faults Remainder x y k h =
    elim (andthen-faults (quotient x y) (λ q. Gives (int_rem x y)) k h) [
      | inl e ↦ quotient-faults (int_eq y (pos 0)) x y k e
      | inr e ↦ cc (e.2)
    ]

-- terms and guards fail by arithmetic alone
pub value-faults : (v : Variables) (t : Term) (k : FaultKind) → value_of v t ≡ Faults k → arithmetic k ≡ true
unfolding value_of
value-faults v (Literal n) k h = cc
value-faults v (Slot x) k h = cc
value-faults v (plain.Length a) k h = cc
value-faults v (Negative t) k h =
    elim (andthen-faults (value_of v t) (λ x. word (neg_ℤ x)) k h) [
      | inl e ↦ value-faults v t k e
      | inr e ↦ word-faults (is_word (neg_ℤ e.0)) (neg_ℤ e.0) k e.2
    ]
value-faults v (Binary o a b) k h =
    elim (andthen-faults (value_of v a) (λ x. andthen (value_of v b) (λ y. combine o x y)) k h) [
      | inl e ↦ value-faults v a k e
      | inr e ↦ elim (andthen-faults (value_of v b) (λ y. combine o e.0 y) k e.2) [
        | inl f ↦ value-faults v b k f
        | inr f ↦ combine-faults o e.0 f.0 k f.2
      ]
    ]

and_faults : (m : Attempt Bool) (k : FaultKind) (b : Bool) → (m ≡ Faults k → arithmetic k ≡ true) → (if b then m else Gives false) ≡ Faults k → arithmetic k ≡ true
and_faults m k true f h = f h
and_faults m k false f h = cc

or_faults : (m : Attempt Bool) (k : FaultKind) (b : Bool) → (m ≡ Faults k → arithmetic k ≡ true) → (if b then Gives true else m) ≡ Faults k → arithmetic k ≡ true
or_faults m k true f h = cc
or_faults m k false f h = f h

pub truth-faults : (v : Variables) (g : Guard) (k : FaultKind) → truth_of v g ≡ Faults k → arithmetic k ≡ true
unfolding truth_of
truth-faults v (Compare r a b) k h =
    elim (andthen-faults (value_of v a) (λ x. andthen (value_of v b) (λ y. Gives (relates r x y))) k h) [
      | inl e ↦ value-faults v a k e
      | inr e ↦ elim (andthen-faults (value_of v b) (λ y. Gives (relates r e.0 y)) k e.2) [
        | inl f ↦ value-faults v b k f
        | inr f ↦ cc (f.2)
      ]
    ]
truth-faults v (CompareLinks equal p q) k h = cc
truth-faults v (Not g) k h =
    elim (andthen-faults (truth_of v g) (λ b. Gives (not b)) k h) [
      | inl e ↦ truth-faults v g k e
      | inr e ↦ cc (e.2)
    ]
truth-faults v (And g g') k h =
    elim (andthen-faults (truth_of v g) (λ b. if b then truth_of v g' else Gives false) k h) [
      | inl e ↦ truth-faults v g k e
      | inr e ↦ and_faults (truth_of v g') k e.0 (truth-faults v g' k) e.2
    ]
truth-faults v (Or g g') k h =
    elim (andthen-faults (truth_of v g) (λ b. if b then Gives true else truth_of v g') k h) [
      | inl e ↦ truth-faults v g k e
      | inr e ↦ or_faults (truth_of v g') k e.0 (truth-faults v g' k) e.2
    ]

-- what the check of an index is true of
within-truth : (v : Variables) (a : ℕ) (e : Term) (i : ℤ) → value_of v e ≡ Gives i → truth_of v (checked_guard (Within a e)) ≡ Gives (if int_le (pos 0) i then int_lt i (pos (length (array_at v a))) else false)
unfolding value_of truth_of
within-truth v a e i h = rw h (both (int_le (pos 0) i))
  where
    both : (b : Bool) → (if b then Gives (int_lt i (pos (length (array_at v a)))) else Gives false) ≡ Gives (if b then int_lt i (pos (length (array_at v a))) else false)
    both true = refl
    both false = refl

-- an index is in its list
abbrev in_list : {A : Type 0} → List A → ℤ → Bool
in_list zs i = if int_le (pos 0) i then int_lt i (pos (length zs)) else false

in_list-true : {A : Type 0} (zs : List A) (k : ℕ) → k < length zs → in_list zs (pos k) ≡ true
in_list-true zs k h =
    let a : int_le (pos 0) (pos k) ≡ true = grind (arith, ints) in
    let b : int_lt (pos k) (pos (length zs)) ≡ true = grind (arith, ints) in
    rw a b

in_list-false : {A : Type 0} (zs : List A) (k : ℕ) → length zs ≤ k → in_list zs (pos k) ≡ false
in_list-false zs k h =
    let a : int_le (pos 0) (pos k) ≡ true = grind (arith, ints) in
    let b : int_lt (pos k) (pos (length zs)) ≡ false = grind (arith, ints) in
    rw a b

given-none : {A : Type 0} (j k : FaultKind) (o : Option A) → given_or j o ≡ Faults k → o ≡ None
given-none j k None h = refl
given-none j k (Some b) h = cc

element-in : (zs : List ℤ) (i z : ℤ) → element zs i ≡ Gives z → in_list zs i ≡ true
element-in zs (pos k) z h = in_list-true zs k (slice_get_within zs k z (given_some Index (slice_get zs k) z h))
element-in zs (negsuc k) z h = cc

element-out : (zs : List ℤ) (i : ℤ) (k : FaultKind) → element zs i ≡ Faults k → in_list zs i ≡ false
element-out zs (pos j) k h = in_list-false zs j (none_past zs j (given-none Index k (slice_get zs j) h))
element-out zs (negsuc j) k h = refl

with_element-in : (zs : List ℤ) (i z : ℤ) (ys : List ℤ) → with_element zs i z ≡ Gives ys → in_list zs i ≡ true
with_element-in zs (pos k) z ys h = by (nat_lt k (length zs)) refl h
  where
    by : (b : Bool) → nat_lt k (length zs) ≡ b → (if b then Gives (slice_set zs k z) else Faults Index) ≡ Gives ys → in_list zs (pos k) ≡ true
    by true e f = in_list-true zs k (ltb-true k (length zs) e)
    by false e f = cc
with_element-in zs (negsuc k) z ys h = cc

with_element-out : (zs : List ℤ) (i z : ℤ) (k : FaultKind) → with_element zs i z ≡ Faults k → in_list zs i ≡ false
with_element-out zs (pos j) z k h = by (nat_lt j (length zs)) refl h
  where
    by : (b : Bool) → nat_lt j (length zs) ≡ b → (if b then Gives (slice_set zs j z) else Faults Index) ≡ Faults k → in_list zs (pos j) ≡ false
    by true e f = cc
    by false e f = in_list-false zs j (ltb-false j (length zs) e)
with_element-out zs (negsuc j) z k h = refl

-- the cell of a link that is a cell's
cell-some : (cells : List Cell) (l : Option ℕ) (c : ℕ × Cell) → cell_of cells l ≡ Gives c → not (same_link l None) ≡ true
cell-some cells None c h = cc
cell-some cells (Some k) c h = refl

cell-none : (cells : List Cell) (l : Option ℕ) (k : FaultKind) → IsLink (length cells) l → cell_of cells l ≡ Faults k → not (same_link l None) ≡ false
cell-none cells None k w h = refl
cell-none cells (Some j) k w h =
    elim (andthen-faults (given_or Null (slice_get cells j)) (λ c. Gives (j, c)) k h) [
      | inl e ↦ let past = none_past cells j (given-none Null k (slice_get cells j) e) in absurd (omega arith)
      | inr e ↦ cc (e.2)
    ]

cell-passed : (v : Variables) (cells : List Cell) (p : ℕ) (c : ℕ × Cell) → cell_of cells (link_at v p) ≡ Gives c → truth_of v (checked_guard (IsCell p)) ≡ Gives true
unfolding truth_of
cell-passed v cells p c h = ap Gives (cell-some cells (link_at v p) c h)

claim-passed : (m : Attempt Bool) (h : Heap) (v : Variables) (x : Heap × Variables) → andthen m (λ b. if b then Gives (h, v) else Faults Failed) ≡ Gives x → m ≡ Gives true
claim-passed (Gives true) h v x g = refl
claim-passed (Gives false) h v x g = cc
claim-passed (Faults k) h v x g = cc
claim-passed LacksInput h v x g = cc

-- a statement that goes on passed its check
pub check-passed : (e : Effect) (h : Heap) (v : Variables) (x : Heap × Variables) → effect_of e h v ≡ Gives x → ChecksTo v true (check_of e)
unfolding effect_of
check-passed Skip h v x g = tt
check-passed (Assert q) h v x g = claim-passed (truth_of v q) h v x g
check-passed (SetInt y t) h v x g = tt
check-passed (Input y) h v x g = tt
check-passed (ReadElement y a t) h v x g =
    let i = andthen-gives (value_of v t) (λ i. andthen (element (array_at v a) i) (λ z. Gives (h, with_number v y (Int z)))) x g in
    let z = andthen-gives (element (array_at v a) i.0) (λ z. Gives (h, with_number v y (Int z))) x i.2 in
    within-truth v a t i.0 i.1 ∙ ap Gives (element-in (array_at v a) i.0 z.0 z.1)
check-passed (ReadItem y q) h v x g =
    let c = andthen-gives (cell_of h.cells (link_at v q)) (λ c. Gives (h, with_number v y (Int c.1.item))) x g in
    cell-passed v h.cells q c.0 c.1
check-passed (MakeArray a t) h v x g = tt
check-passed (CopyArray a b) h v x g = tt
check-passed (WriteElement a t u) h v x g =
    let i = andthen-gives (value_of v t) (λ i. andthen (value_of v u) (λ z. andthen (with_element (array_at v a) i z) (λ zs. Gives (h, with_number v a (Array zs))))) x g in
    let z = andthen-gives (value_of v u) (λ z. andthen (with_element (array_at v a) i.0 z) (λ zs. Gives (h, with_number v a (Array zs)))) x i.2 in
    let ys = andthen-gives (with_element (array_at v a) i.0 z.0) (λ zs. Gives (h, with_number v a (Array zs))) x z.2 in
    within-truth v a t i.0 i.1 ∙ ap Gives (with_element-in (array_at v a) i.0 z.0 ys.0 ys.1)
check-passed (SetNull p) h v x g = tt
check-passed (MakeCell p) h v x g = tt
check-passed (CopyLink p q) h v x g = tt
check-passed (ReadNext p q) h v x g =
    let c = andthen-gives (cell_of h.cells (link_at v q)) (λ c. Gives (h, with_link v p c.1.next)) x g in
    cell-passed v h.cells q c.0 c.1
check-passed (WriteNext p q) h v x g =
    let c = andthen-gives (cell_of h.cells (link_at v p)) (λ c. Gives (with_cell h c.0 (record { item = c.1.item; next = link_at v q }), v)) x g in
    cell-passed v h.cells p c.0 c.1
check-passed (WriteItem p t) h v x g =
    let z = andthen-gives (value_of v t) (λ z. andthen (cell_of h.cells (link_at v p)) (λ c. Gives (with_cell h c.0 (record { item = z; next = c.1.next }), v))) x g in
    let c = andthen-gives (cell_of h.cells (link_at v p)) (λ c. Gives (with_cell h c.0 (record { item = z.0; next = c.1.next }), v)) x z.2 in
    cell-passed v h.cells p c.0 c.1

-- a fault of arithmetic is none of these
no-arithmetic : (k : FaultKind) → arithmetic k ≡ false → arithmetic k ≡ true → ⊥
no-arithmetic k e f = let h : false ≡ true = sym e ∙ f in cc

-- what faults after a value, where terms do not
behind-value : {A : Type 0} (v : Variables) (t : Term) (f : ℤ → Attempt A) (k : FaultKind) → arithmetic k ≡ false → andthen (value_of v t) f ≡ Faults k → (z : ℤ) × (value_of v t ≡ Gives z) × (f z ≡ Faults k)
behind-value v t f k n h =
    elim (andthen-faults (value_of v t) f k h) [
      | inl e ↦ absurd (no-arithmetic k n (value-faults v t k e))
      | inr e ↦ e
    ]

-- the first of two things faults where the second gives a value
first-faults : {A B : Type 0} (m : Attempt A) (f : A → B) (k : FaultKind) → andthen m (λ a. Gives (f a)) ≡ Faults k → m ≡ Faults k
first-faults (Gives a) f k h = cc
first-faults (Faults j) f k h = let e : j ≡ k = cc in ap Faults e
first-faults LacksInput f k h = cc

cell-failed : (v : Variables) (cells : List Cell) (p : ℕ) → All (IsLink (length cells)) v.links → cell_of cells (link_at v p) ≡ Faults Null → truth_of v (checked_guard (IsCell p)) ≡ Gives false
unfolding truth_of
cell-failed v cells p w h = ap Gives (cell-none cells (link_at v p) Null (link_is (length cells) v.links p w) h)

claim-failed : (m : Attempt Bool) (h : Heap) (v : Variables) → (m ≡ Faults Failed → ⊥) → andthen {B = Heap × Variables} m (λ b. if b then Gives (h, v) else Faults Failed) ≡ Faults Failed → m ≡ Gives false
claim-failed (Gives true) h v n g = cc
claim-failed (Gives false) h v n g = refl
claim-failed (Faults k) h v n g = absurd (n (let e : k ≡ Failed = cc in ap Faults e))
claim-failed LacksInput h v n g = cc

-- a statement that fails its check finds it false
pub check-failed : (e : Effect) (h : Heap) (v : Variables) → All (IsLink (length h.cells)) v.links → FailsCheck h v e (check_of e) → ChecksTo v false (check_of e)
unfolding effect_of
check-failed Skip h v w g = absurd g
check-failed (Assert q) h v w g = claim-failed (truth_of v q) h v (λ n. no-arithmetic Failed refl (truth-faults v q Failed n)) g
check-failed (SetInt y t) h v w g = absurd g
check-failed (Input y) h v w g = absurd g
check-failed (ReadElement y a t) h v w g =
    let i = behind-value v t (λ i. andthen (element (array_at v a) i) (λ z. Gives (h, with_number v y (Int z)))) Index refl g in
    let z = first-faults (element (array_at v a) i.0) (λ z. (h, with_number v y (Int z))) Index i.2 in
    within-truth v a t i.0 i.1 ∙ ap Gives (element-out (array_at v a) i.0 Index z)
check-failed (ReadItem y q) h v w g =
    cell-failed v h.cells q w (first-faults (cell_of h.cells (link_at v q)) (λ c. (h, with_number v y (Int c.1.item))) Null g)
check-failed (MakeArray a t) h v w g = absurd g
check-failed (CopyArray a b) h v w g = absurd g
check-failed (WriteElement a t u) h v w g =
    let i = behind-value v t (λ i. andthen (value_of v u) (λ z. andthen (with_element (array_at v a) i z) (λ zs. Gives (h, with_number v a (Array zs))))) Index refl g in
    let z = behind-value v u (λ z. andthen (with_element (array_at v a) i.0 z) (λ zs. Gives (h, with_number v a (Array zs)))) Index refl i.2 in
    let ys = first-faults (with_element (array_at v a) i.0 z.0) (λ zs. (h, with_number v a (Array zs))) Index z.2 in
    within-truth v a t i.0 i.1 ∙ ap Gives (with_element-out (array_at v a) i.0 z.0 Index ys)
check-failed (SetNull p) h v w g = absurd g
check-failed (MakeCell p) h v w g = absurd g
check-failed (CopyLink p q) h v w g = absurd g
check-failed (ReadNext p q) h v w g =
    cell-failed v h.cells q w (first-faults (cell_of h.cells (link_at v q)) (λ c. (h, with_link v p c.1.next)) Null g)
check-failed (WriteNext p q) h v w g =
    cell-failed v h.cells p w (first-faults (cell_of h.cells (link_at v p)) (λ c. (with_cell h c.0 (record { item = c.1.item; next = link_at v q }), v)) Null g)
check-failed (WriteItem p t) h v w g =
    let z = behind-value v t (λ z. andthen (cell_of h.cells (link_at v p)) (λ c. Gives (with_cell h c.0 (record { item = z; next = c.1.next }), v))) Null refl g in
    cell-failed v h.cells p w (first-faults (cell_of h.cells (link_at v p)) (λ c. (with_cell h c.0 (record { item = z.0; next = c.1.next }), v)) Null z.2)

-- the check of a statement that fits, fits
abbrev pub FitsCheck : Layout → Option Check → Type 0
FitsCheck l None = Unit {0}
FitsCheck l (Some c) = fits_guard l (checked_guard c) ≡ true

pub check-fits : (l : Layout) (e : Effect) → fits_effect l e ≡ true → FitsCheck l (check_of e)
unfolding fits_effect fits_guard fits_term
check-fits l Skip h = tt
check-fits l (Assert q) h = h
check-fits l (SetInt y t) h = tt
check-fits l (Input y) h = tt
check-fits l (ReadElement y a t) h =
    let p = and_parts (is_int l y) (is_array l a && fits_term l t) h in
    let q = and_parts (is_array l a) (fits_term l t) p.1 in
    and_from (fits_term l t) (fits_term l t && is_array l a) q.1 (and_from (fits_term l t) (is_array l a) q.1 q.0)
check-fits l (ReadItem y q) h = let p = and_parts (is_int l y) (is_link l q) h in and_from (is_link l q) true p.1 refl
check-fits l (MakeArray a t) h = tt
check-fits l (CopyArray a b) h = tt
check-fits l (WriteElement a t u) h =
    let p = and_parts (is_array l a) (fits_term l t && fits_term l u) h in
    let q = and_parts (fits_term l t) (fits_term l u) p.1 in
    and_from (fits_term l t) (fits_term l t && is_array l a) q.0 (and_from (fits_term l t) (is_array l a) q.0 p.0)
check-fits l (SetNull p) h = tt
check-fits l (MakeCell p) h = tt
check-fits l (CopyLink p q) h = tt
check-fits l (ReadNext p q) h = let r = and_parts (is_link l p) (is_link l q) h in and_from (is_link l q) true r.1 refl
check-fits l (WriteNext p q) h = let r = and_parts (is_link l p) (is_link l q) h in and_from (is_link l p) true r.0 refl
check-fits l (WriteItem p t) h = let r = and_parts (is_link l p) (fits_term l t) h in and_from (is_link l p) true r.0 refl
