-- Frames whose numeric slots measure numbers of our choice.
use Rattle.std.proofs.Common.{◌≡◌, ◌≢◌, refl, sym, ap, ◌∙◌, subst, ℕ, zero, suc, ◌<◌, ◌≤◌, ◌==◌, ◌^◌, ℤ, pos, negsuc, ◌≤ℤ◌, Bool, true, false, List, [], ◌∷◌, map, length, replicate, slice_get, slice_index_or, Option, Some, None, All, arith, if◌then◌else◌}
use Rattle.std.proofs.lemmas.Int.{ints}
use Rattle.std.proofs.lemmas.List.{length-replicate}
use Rattle.std.proofs.lemmas.List.Elements.{All-nil, All-cons, All-replicate}
use Rattle.std.specs.List.{AllZip}
use Rattle.base_values.proofs.Cases.{by_test}
use Rattle.imp_slots.specs.Plain.{Numeric, Layout}
use Rattle.imp_slots.specs.Fits.{is_kind}
use Rattle.concrete_sem.specs.Values.{Number, Int, Array, Variables, Heap, IsWord}
use Rattle.concrete_sem.specs.Passing.{first_variables}
use Rattle.concrete_sem.specs.Proper.{IsNumber, IsLink, IsCell, IsProper, AreFrames}
use Rattle.concrete_sem.proofs.Keeps.{first_kept}
use Rattle.concrete_sem.proofs.Numbers.{is_word_zero}
use Rattle.num_bounds.specs.Bounds.{Bounds, Within as Lies, least, greatest}
use Rattle.dom_numeric.specs.Measures.{measure}
use Rattle.dom_numeric.proofs.Slots.{kind-is, kind-none}
use Rattle.dom_interval_meaning.specs.Ranges.{range_at}
use Rattle.dom_interval_meaning.specs.Covers.{Holds}
use Rattle.dom_interval_meaning.specs.declared.slot_range.SlotRange.{SlotRange}
use Rattle.dom_interval_meaning.proofs.SlotLaws.{FitsSlot, FitsRange, at-fits}

abbrev pub as_length : ℤ → ℕ
as_length (pos n) = n
as_length (negsuc n) = 0

-- a number of a kind that measures z
abbrev pub of_measure : (is_array : Bool) → ℤ → Number
of_measure true z = Array (replicate (as_length z) (pos 0))
of_measure false z = Int z

abbrev pub fill : List Numeric → (ℕ → ℤ) → List Number
fill [] f = []
fill (k ∷ ks) f = of_measure k.is_array (f 0) ∷ fill ks (λ n. f (suc n))

-- the frame whose slots measure what f says, with these links, or with links that are null
abbrev pub linked : Layout → List (Option ℕ) → (ℕ → ℤ) → Variables
linked l links f = record { numbers = fill l.numbers f; links = links }

abbrev pub frame : Layout → (ℕ → ℤ) → Variables
frame l f = linked l (first_variables l).links f

abbrev pub first_frames : List Layout → List Variables
first_frames [] = []
first_frames (l ∷ ls) = first_variables l ∷ first_frames ls

-- each number lies in the range of its slot
abbrev pub LieAll : List SlotRange → (ℕ → ℤ) → Type 0
LieAll rs f = (n : ℕ) → Lies (f n) (range_at rs n)

pub length-measures : (z : ℤ) → pos 0 ≤ℤ z → pos (as_length z) ≡ z
length-measures (pos n) h = refl
length-measures (negsuc n) h = absurd (omega (arith, ints))

pub measures : (b : Bool) (z : ℤ) → (b ≡ true → pos 0 ≤ℤ z) → measure (of_measure b z) ≡ z
measures true z h = ap pos (length-replicate (as_length z) (pos 0)) ∙ length-measures z (h refl)
measures false z h = refl

pub not-below : (b : Bool) (r : Bounds) (z : ℤ) → FitsRange b r → Lies z r → b ≡ true → pos 0 ≤ℤ z
not-below true r z f w e = let low : pos 0 ≤ℤ r.lo = f.low in let from : r.lo ≤ℤ z = w.0 in omega (arith, ints)
not-below false r z f w e = cc

pub fill-holds : (ks : List Numeric) (rs : List SlotRange) (f : ℕ → ℤ) → AllZip FitsSlot ks rs → LieAll rs f → AllZip Holds rs (fill ks f)
fill-holds [] [] f h w = tt
fill-holds [] (r ∷ rs) f h w = absurd h
fill-holds (k ∷ ks) [] f h w = absurd h
fill-holds (k ∷ ks) (r ∷ rs) f h w = (subst (λ z. Lies z r.range) (sym (measures k.is_array (f 0) (λ e. not-below r.is_array r.range (f 0) h.0.1 (w 0) (sym h.0.0 ∙ e)))) (w 0), fill-holds ks rs (λ n. f (suc n)) h.1 (λ n. w (suc n)))

pub word-from : (z : ℤ) → least ≤ℤ z → z ≤ℤ greatest → IsWord z
word-from (pos n) p q = record { sfits = below n q }
  where
    below : (n : ℕ) → pos n ≤ℤ greatest → n < 2 ^ 63
    below n q = omega (arith, ints)
word-from (negsuc n) p q = record { sfits = below n p }
  where
    below : (n : ℕ) → least ≤ℤ negsuc n → n < 2 ^ 63
    below n p = omega (arith, ints)

short : (z : ℤ) → z ≤ℤ pos 1000000 → length (replicate (as_length z) (pos 0)) ≤ 1000000
short z h = subst (λ n. n ≤ 1000000) (sym (length-replicate (as_length z) (pos 0))) (by z h)
  where
    by : (z : ℤ) → z ≤ℤ pos 1000000 → as_length z ≤ 1000000
    by (pos n) h = omega (arith, ints)
    by (negsuc n) h = omega arith

number-is : (k : Numeric) (b : Bool) (r : Bounds) (z : ℤ) → k.is_array ≡ b → FitsRange b r → Lies z r → IsNumber k (of_measure b z)
number-is k true r z e f w = let high : r.hi ≤ℤ pos 1000000 = f.high in let to : z ≤ℤ r.hi = w.1 in (e, short z (omega (arith, ints)), All-replicate IsWord (as_length z) (pos 0) is_word_zero)
number-is k false r z e f w =
    let low : least ≤ℤ r.lo = f.low in
    let high : r.hi ≤ℤ greatest = f.high in
    let from : r.lo ≤ℤ z = w.0 in
    let to : z ≤ℤ r.hi = w.1 in
    (e, word-from z (omega (arith, ints)) (omega (arith, ints)))

fill-numbers : (ks : List Numeric) (rs : List SlotRange) (f : ℕ → ℤ) → AllZip FitsSlot ks rs → LieAll rs f → AllZip IsNumber ks (fill ks f)
fill-numbers [] [] f h w = tt
fill-numbers [] (r ∷ rs) f h w = absurd h
fill-numbers (k ∷ ks) [] f h w = absurd h
fill-numbers (k ∷ ks) (r ∷ rs) f h w = (number-is k k.is_array r.range (f 0) refl (subst (λ b. FitsRange b r.range) (sym h.0.0) h.0.1) (w 0), fill-numbers ks rs (λ n. f (suc n)) h.1 (λ n. w (suc n)))

-- what a slot of a kind holds
pub fill-at : (ks : List Numeric) (f : ℕ → ℤ) (x : ℕ) (b : Bool) → is_kind b (slice_get ks x) ≡ true → slice_index_or (fill ks f) x (Int (pos 0)) ≡ of_measure b (f x)
fill-at [] f x b e = absurd (kind-none b e)
fill-at (k ∷ ks) f zero b e = ap (λ c. of_measure c (f 0)) (kind-is b k e)
fill-at (k ∷ ks) f (suc x) b e = fill-at ks (λ n. f (suc n)) x b e

-- what a slot measures
fill-measures : (ks : List Numeric) (rs : List SlotRange) (f : ℕ → ℤ) (x : ℕ) → x < length rs → AllZip FitsSlot ks rs → LieAll rs f → measure (slice_index_or (fill ks f) x (Int (pos 0))) ≡ f x
fill-measures ks [] f x lt h w = absurd (omega arith)
fill-measures [] (r ∷ rs) f x lt h w = absurd h
fill-measures (k ∷ ks) (r ∷ rs) f zero lt h w = measures k.is_array (f 0) (λ e. not-below r.is_array r.range (f 0) h.0.1 (w 0) (sym h.0.0 ∙ e))
fill-measures (k ∷ ks) (r ∷ rs) f (suc x) lt h w = fill-measures ks rs (λ n. f (suc n)) x (omega arith) h.1 (λ n. w (suc n))

pub frame-measures : (l : Layout) (rs : List SlotRange) (f : ℕ → ℤ) (x : ℕ) → x < length rs → AllZip FitsSlot l.numbers rs → LieAll rs f → measure (slice_index_or (fill l.numbers f) x (Int (pos 0))) ≡ f x
frame-measures l rs f x lt h w = fill-measures l.numbers rs f x lt h w

pub fill-length : (ks : List Numeric) (f : ℕ → ℤ) → length (fill ks f) ≡ length ks
fill-length [] f = refl
fill-length (k ∷ ks) f = ap suc (fill-length ks (λ n. f (suc n)))

pub fits-length : (ks : List Numeric) (rs : List SlotRange) → AllZip FitsSlot ks rs → length rs ≡ length ks
fits-length [] [] h = refl
fits-length [] (r ∷ rs) h = absurd h
fits-length (k ∷ ks) [] h = absurd h
fits-length (k ∷ ks) (r ∷ rs) h = ap suc (fits-length ks rs h.1)

-- no cells, and these inputs
abbrev pub bare : List ℤ → Heap
bare zs = record { cells = []; inputs = zs }

first-frames : (c : ℕ) (ls : List Layout) → AreFrames c (first_frames ls) ls
first-frames c [] = tt
first-frames c (l ∷ ls) = (first_kept c l, first-frames c ls)

pub frame-proper : (l : Layout) (ls : List Layout) (zs : List ℤ) (rs : List SlotRange) (f : ℕ → ℤ) → All IsWord zs → AllZip FitsSlot l.numbers rs → LieAll rs f → IsProper (bare zs) (frame l f ∷ first_frames ls) (l ∷ ls)
frame-proper l ls zs rs f i h w =
    let first = first_kept 0 l in
    record { cells = All-nil (IsCell 0); inputs = i; frames = (record { numbers = fill-numbers l.numbers rs f h w; count = first.count; links = first.links }, first-frames 0 ls) }

-- Numbers of our choice: the low ends, and other numbers at some slots.
abbrev pub lows : List SlotRange → ℕ → ℤ
lows rs n = (range_at rs n).lo

abbrev pub put : ℕ → ℤ → (ℕ → ℤ) → ℕ → ℤ
put x z f n = if n == x then z else f n

abbrev pub put_at : Option ℕ → ℤ → (ℕ → ℤ) → ℕ → ℤ
put_at None z f = f
put_at (Some x) z f = put x z f

pub lows-lie : (ks : List Numeric) (rs : List SlotRange) → AllZip FitsSlot ks rs → LieAll rs (lows rs)
lows-lie ks rs h n = let o = (at-fits ks rs n h).ordered in (omega (arith, ints), o)

pub put-here : (x : ℕ) (z : ℤ) (f : ℕ → ℤ) → put x z f x ≡ z
put-here x z f = by_test x x (λ b. (if b then z else f x) ≡ z) (λ e. refl) (λ ne. absurd (ne refl))

pub put-else : (x : ℕ) (z : ℤ) (f : ℕ → ℤ) (n : ℕ) → n ≢ x → put x z f n ≡ f n
put-else x z f n ne = by_test n x (λ b. (if b then z else f n) ≡ f n) (λ e. absurd (ne e)) (λ _. refl)

pub put-lies : (rs : List SlotRange) (x : ℕ) (z : ℤ) (f : ℕ → ℤ) → Lies z (range_at rs x) → LieAll rs f → LieAll rs (put x z f)
put-lies rs x z f w h n = by_test n x (λ b. Lies (if b then z else f n) (range_at rs n)) (λ e. subst (λ m. Lies z (range_at rs m)) (sym e) w) (λ _. h n)

pub put_at-here : (a : Option ℕ) (x : ℕ) (z : ℤ) (f : ℕ → ℤ) → a ≡ Some x → put_at a z f x ≡ z
put_at-here None x z f e = cc
put_at-here (Some y) x z f e = let same : y ≡ x = cc in subst (λ m. put y z f m ≡ z) same (put-here y z f)

pub put_at-else : (a : Option ℕ) (x : ℕ) (z : ℤ) (f : ℕ → ℤ) → a ≢ Some x → put_at a z f x ≡ f x
put_at-else None x z f ne = refl
put_at-else (Some y) x z f ne = put-else y z f x (λ e. ne (ap Some (sym e)))

pub put_at-lies : (rs : List SlotRange) (a : Option ℕ) (z : ℤ) (f : ℕ → ℤ) → ((x : ℕ) → a ≡ Some x → Lies z (range_at rs x)) → LieAll rs f → LieAll rs (put_at a z f)
put_at-lies rs None z f w h = h
put_at-lies rs (Some x) z f w h = put-lies rs x z f (w x refl) h

-- one cell, to which all links lead
abbrev pub one_cell : ℤ → Heap
one_cell z = record { cells = record { item = z; next = None } ∷ []; inputs = [] }

abbrev pub to_cell : {A : Type 0} → List A → List (Option ℕ)
to_cell ps = map (λ _. Some 0) ps

to-cell-length : (ps : List (List ℕ)) → length (to_cell ps) ≡ length ps
to-cell-length [] = refl
to-cell-length (p ∷ ps) = ap suc (to-cell-length ps)

to-cell-links : (ps : List (List ℕ)) → All (IsLink 1) (to_cell ps)
to-cell-links [] = All-nil (IsLink 1)
to-cell-links (p ∷ ps) = All-cons (IsLink 1) (Some 0) (to_cell ps) (omega arith) (to-cell-links ps)

pub to-cell-at : (ps : List (List ℕ)) (p : ℕ) → p < length ps → slice_index_or (to_cell ps) p None ≡ Some 0
to-cell-at [] p lt = absurd (omega arith)
to-cell-at (q ∷ ps) zero lt = refl
to-cell-at (q ∷ ps) (suc p) lt = to-cell-at ps p (omega arith)

pub linked-proper : (l : Layout) (ls : List Layout) (z : ℤ) (rs : List SlotRange) (f : ℕ → ℤ) → IsWord z → AllZip FitsSlot l.numbers rs → LieAll rs f → IsProper (one_cell z) (linked l (to_cell l.links) f ∷ first_frames ls) (l ∷ ls)
linked-proper l ls z rs f i h w = record {
  cells = All-cons (IsCell 1) (record { item = z; next = None }) [] (i, tt) (All-nil (IsCell 1));
  inputs = All-nil IsWord;
  frames = (record { numbers = fill-numbers l.numbers rs f h w; count = to-cell-length l.links; links = to-cell-links l.links }, first-frames 1 ls);
}
