-- The ranges and the linear forms of expressions hold their values.
use Rattle.std.proofs.Common.{◌≡◌, refl, sym, ap, ◌∙◌, subst, ℕ, zero, suc, ◌≤◌, ◌*◌, ◌+◌, ℤ, pos, ◌≤ℤ◌, ◌+ℤ◌, ◌-ℤ◌, neg_ℤ, Bool, true, false, List, [], ◌∷◌, length, map, take, slice_index_or, Option, Some, None, arith, inl, inr}
use Rattle.std.proofs.lemmas.Int.{ints}
use Rattle.std.proofs.lemmas.Bool.{and_parts, cases_lt}
use Rattle.std.specs.List.{AllZip}
use Rattle.imp_syntax.specs.declared.words.Operator.{Operator}
use Rattle.imp_syntax.specs.declared.words.Operator.TheVariants.{Add, Subtract, Multiply, Divide, Remainder}
use Rattle.imp_slots.specs.Plain.{Numeric, Layout, Term, Literal, Slot, Length, Negative, Binary}
use Rattle.imp_slots.specs.Fits.{fits_term}
use Rattle.concrete_sem.specs.Values.{Number, Int, Array, Variables, Gives, andthen}
use Rattle.concrete_sem.specs.Evaluation.{value_of, word as word_of, combine}
use Rattle.concrete_sem.specs.Proper.{IsNumber}
use Rattle.domain_laws.proofs.CheckLaws.{andthen-gives}
use Rattle.num_bounds.specs.Bounds.{Within as Lies, least, greatest}
use Rattle.num_bounds.specs.Meaning.{Covers}
use Rattle.dbm_core.proofs.HalfLemmas.{entry-outside}
use Rattle.dbm_core.proofs.ValuationLemmas.{node_value-flip}
use Rattle.dbm_core.specs.Half.{HalfMatrix, IsMatrix, entry}
use Rattle.dbm_core.specs.Nodes.{flip}
use Rattle.dbm_core.specs.Valuations.{IsSatisfiedBy, node_value}
use Rattle.dbm_close.proofs.LawLemmas.{range-sound}
use Rattle.dbm_close.specs.Laws.{AreInSlots}
use Rattle.dbm_close.specs.Steps.{extreme_high, extreme_low}
use Rattle.dom_numeric.specs.Measures.{measure}
use Rattle.dom_numeric.proofs.Expressions.{range_by-covers}
use Rattle.dom_numeric.proofs.Slots.{slot-measure, length-measure}
use Rattle.dom_numeric.proofs.Words.{word-gives}
use Rattle.dom_octagon_meaning.specs.declared.form.Form.{Form}
use Rattle.dom_octagon_meaning.specs.declared.form.Form.TheVariants.{Constant, Node}
use Rattle.dom_octagon_meaning.specs.Covers.{values}
use Rattle.dom_octagon_meaning.specs.Forms.{combined_form, form_of, if_form, negated, sum_form}
use Rattle.dom_octagon_meaning.specs.Operations.{kinds_of}
use Rattle.dom_octagon_meaning.specs.Ranges.{range_at, range_of}
use Rattle.dom_octagon_meaning.proofs.Fitting.{FitsMatrix}
use Rattle.dom_octagon_meaning.proofs.Matrices.{HasValue, form_value, slot-value}
use Rattle.concrete_sem.proofs.Numbers.{gives_same}

-- ---- the values of slots

value-in : (k : Numeric) (n : Number) → IsNumber k n → (extreme_low k.is_array ≤ℤ measure n) × (measure n ≤ℤ extreme_high k.is_array)
value-in k (Int z) h = rw h.0 (omega (arith, ints), omega (arith, ints))
value-in k (Array zs) h = rw h.0 (omega (arith, ints), omega (arith, ints))

value-word : (k : Numeric) (n : Number) → IsNumber k n → (least ≤ℤ measure n) × (measure n ≤ℤ greatest)
value-word k (Int z) h = (omega (arith, ints), omega (arith, ints))
value-word k (Array zs) h = (omega (arith, ints), omega (arith, ints))

first-in : (n : ℕ) (ks : List Numeric) (ns : List Number) → AllZip IsNumber ks ns → AreInSlots (take n (map (λ (k : Numeric). k.is_array) ks)) (λ k. measure (slice_index_or ns k (Int (pos 0))))
first-in zero ks ns h k l = absurd (omega arith)
first-in (suc n) [] ns h k l = absurd (omega arith)
first-in (suc n) (m ∷ ks) [] h k l = absurd h
first-in (suc n) (m ∷ ks) (x ∷ ns) h zero l = value-in m x h.0
first-in (suc n) (m ∷ ks) (x ∷ ns) h (suc k) l = first-in n ks ns h.1 k (omega arith)

pub in-slots : (l : Layout) (v : Variables) → AllZip IsNumber l.numbers v.numbers → AreInSlots (kinds_of l.numbers) (values v)
in-slots l v h = first-in 16 l.numbers v.numbers h

words : (ks : List Numeric) (ns : List Number) → AllZip IsNumber ks ns → (k : ℕ) → (least ≤ℤ measure (slice_index_or ns k (Int (pos 0)))) × (measure (slice_index_or ns k (Int (pos 0))) ≤ℤ greatest)
words [] [] h k = (omega (arith, ints), omega (arith, ints))
words [] (x ∷ ns) h k = absurd h
words (m ∷ ks) [] h k = absurd h
words (m ∷ ks) (x ∷ ns) h zero = value-word m x h.0
words (m ∷ ks) (x ∷ ns) h (suc k) = words ks ns h.1 k

-- ---- the ranges of slots

-- values within the extremes of their slots, and within 64 bits elsewhere
pub record AreProper (kinds : List Bool) (x : ℕ → ℤ) : Type 0 where
  pub slots : AreInSlots kinds x
  pub words : (k : ℕ) → (least ≤ℤ x k) × (x k ≤ℤ greatest)

pub proper : (l : Layout) (v : Variables) → AllZip IsNumber l.numbers v.numbers → AreProper (kinds_of l.numbers) (values v)
proper l v h = record { slots = in-slots l v h; words = words l.numbers v.numbers h }

no_kind : (bs : List Bool) (k : ℕ) → length bs ≤ k → slice_index_or bs k false ≡ false
no_kind [] k l = refl
no_kind (b ∷ bs) zero l = absurd (omega arith)
no_kind (b ∷ bs) (suc k) l = no_kind bs k (omega arith)

-- what is no slot has the full range
pub range_at-outside : (m : HalfMatrix) → IsMatrix m → (k : ℕ) → length m.kinds ≤ k → range_at m k ≡ record { lo = least; hi = greatest }
unfolding range_at
range_at-outside m h k l =
    let e : entry m (2 * k) (2 * k + 1) ≡ None = entry-outside m h (2 * k) (2 * k + 1) (inl (omega arith)) in
    let f : entry m (2 * k + 1) (2 * k) ≡ None = entry-outside m h (2 * k + 1) (2 * k) (inl (omega arith)) in
    rw (e, f, no_kind m.kinds k l) refl

pub range_at-covers : (kinds : List Bool) (m : HalfMatrix) (x : ℕ → ℤ) → FitsMatrix kinds m → AreProper kinds x → IsSatisfiedBy m x → (k : ℕ) → Lies (x k) (range_at m k)
unfolding range_at
range_at-covers kinds m x h a s k = elim (cases_lt k (length m.kinds)) [
  | inl l ↦ range-sound (entry m) m.kinds x (subst (λ ks. AreInSlots ks x) (sym h.same_kinds) a.slots) s k l
  | inr l ↦ subst (Lies (x k)) (sym (range_at-outside m h.matrix k l)) (a.words k)
]

-- ---- the ranges of expressions

-- where each slot's value lies in its range, the range of an expression holds its value
pub range_of-covers : (l : Layout) (m : HalfMatrix) (v : Variables) (t : Term) (z : ℤ) → fits_term l t ≡ true → AllZip IsNumber l.numbers v.numbers → ((k : ℕ) → Lies (values v k) (range_at m k)) → value_of v t ≡ Gives z → Covers (range_of m t) z
range_of-covers l m v t z f k h g = range_by-covers l (range_at m) v t z f k h g

-- ---- linear forms

sum-value : (x : ℕ → ℤ) (f g : Form) (y z : ℤ) → form_value x f ≡ y → form_value x g ≡ z → HasValue x (sum_form f g) (y +ℤ z)
sum-value x (Constant c) (Constant d) y z e f = omega (arith, ints)
sum-value x (Constant c) (Node j d) y z e f = let g : node_value x j +ℤ d ≡ z = f in omega (arith, ints)
sum-value x (Node i c) (Constant d) y z e f = let g : node_value x i +ℤ c ≡ y = e in omega (arith, ints)
sum-value x (Node i c) (Node j d) y z e f = tt

negated-value : (x : ℕ → ℤ) (f : Form) (y : ℤ) → form_value x f ≡ y → form_value x (negated f) ≡ neg_ℤ y
negated-value x (Constant c) y e = ap neg_ℤ e
negated-value x (Node i c) y e = let g : node_value x i +ℤ c ≡ y = e in let n : node_value x (flip i) ≡ neg_ℤ (node_value x i) = node_value-flip x i in omega (arith, ints)

has-same : (x : ℕ → ℤ) (o : Option Form) (y z : ℤ) → y ≡ z → HasValue x o y → HasValue x o z
has-same x o y z e h = subst (HasValue x o) e h

combined-value : (o : Operator) (x : ℕ → ℤ) (f g : Form) (y z w : ℤ) → form_value x f ≡ y → form_value x g ≡ z → combine o y z ≡ Gives w → HasValue x (combined_form o f g) w
combined-value Add x f g y z w d e h = has-same x (sum_form f g) (y +ℤ z) w (sym (word-gives (y +ℤ z) w h).0) (sum-value x f g y z d e)
combined-value Subtract x f g y z w d e h = has-same x (sum_form f (negated g)) (y -ℤ z) w (sym (word-gives (y -ℤ z) w h).0)
    (has-same x (sum_form f (negated g)) (y +ℤ neg_ℤ z) (y -ℤ z) (let q : y +ℤ neg_ℤ z ≡ y -ℤ z = omega (arith, ints) in q) (sum-value x f (negated g) y (neg_ℤ z) d (negated-value x g z e)))
combined-value Multiply x f g y z w d e h = tt
combined-value Divide x f g y z w d e h = tt
combined-value Remainder x f g y z w d e h = tt

if_form-value : (x : ℕ → ℤ) (o : Option Form) (f : Form → Option Form) (y z : ℤ) → HasValue x o y → ((a : Form) → form_value x a ≡ y → HasValue x (f a) z) → HasValue x (if_form o f) z
if_form-value x None f y z h g = tt
if_form-value x (Some a) f y z h g = g a h

pub form_of-value : (l : Layout) (v : Variables) (t : Term) (z : ℤ) → fits_term l t ≡ true → AllZip IsNumber l.numbers v.numbers → value_of v t ≡ Gives z → HasValue (values v) (form_of t) z
unfolding form_of value_of fits_term
form_of-value l v (Literal n) z f k g = gives_same g
form_of-value l v (Slot x) z f k g = slot-value (values v) x ∙ slot-measure l v x z k f g
form_of-value l v (Length a) z f k g = slot-value (values v) a ∙ length-measure l v a z k f g
form_of-value l v (Negative t) z f k g =
    let x = andthen-gives (value_of v t) (λ y. word_of (neg_ℤ y)) z g in
    if_form-value (values v) (form_of t) (λ a. Some (negated a)) x.0 z (form_of-value l v t x.0 f k x.1)
    (λ a e. negated-value (values v) a x.0 e ∙ sym (word-gives (neg_ℤ x.0) z x.2).0)
form_of-value l v (Binary o a b) z f k g =
    let p = and_parts (fits_term l a) (fits_term l b) f in
    let x = andthen-gives (value_of v a) (λ y. andthen (value_of v b) (λ y2. combine o y y2)) z g in
    let y = andthen-gives (value_of v b) (λ y2. combine o x.0 y2) z x.2 in
    if_form-value (values v) (form_of a) (λ c. if_form (form_of b) (combined_form o c)) x.0 z (form_of-value l v a x.0 p.0 k x.1)
    (λ c d. if_form-value (values v) (form_of b) (combined_form o c) y.0 z (form_of-value l v b y.0 p.1 k y.1)
    (λ e q. combined-value o (values v) c e x.0 y.0 z d q y.2))
