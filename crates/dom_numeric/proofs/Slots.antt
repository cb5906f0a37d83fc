-- What the numeric slots of a frame hold, and what they measure.
use Rattle.std.proofs.Common.{◌≡◌, refl, sym, ap, ◌∙◌, ℕ, zero, suc, ◌≤◌, ℤ, pos, Bool, true, false, List, [], ◌∷◌, length, slice_get, slice_index_or, Some, None}
use Rattle.std.specs.List.{AllZip}
use Rattle.imp_slots.specs.Plain.{Numeric, Layout}
use Rattle.imp_slots.specs.Fits.{is_kind}
use Rattle.concrete_sem.specs.Values.{Number, Int, Array, Variables, Gives, as_int, as_array, number_at, IsWord}
use Rattle.concrete_sem.specs.Proper.{IsNumber}
use Rattle.dom_numeric.specs.Measures.{measure}
use Rattle.concrete_sem.proofs.Numbers.{gives_same}
use Rattle.std.proofs.lemmas.Bool.{not-true}

pub kind-is : (b : Bool) (k : Numeric) → is_kind b (Some k) ≡ true → k.is_array ≡ b
kind-is true k h = h
kind-is false k h = not-true k.is_array h

-- what is no slot has no kind
pub kind-none : (b : Bool) → is_kind b None ≡ true → ⊥
kind-none true h = cc
kind-none false h = cc

-- what an int slot holds, and an array slot
pub int-at : (ks : List Numeric) (ns : List Number) (x : ℕ) → AllZip IsNumber ks ns → is_kind false (slice_get ks x) ≡ true → (z : ℤ) × (slice_index_or ns x (Int (pos 0)) ≡ Int z) × IsWord z
int-at [] ns x h e = cc
int-at (k ∷ ks) [] x h e = absurd h
int-at (k ∷ ks) (Int z ∷ ns) zero h e = (z, refl, h.0.1)
int-at (k ∷ ks) (Array zs ∷ ns) zero h e = let c : k.is_array ≡ false = kind-is false k e in let d : k.is_array ≡ true = h.0.0 in let f : false ≡ true = sym c ∙ d in cc
int-at (k ∷ ks) (n ∷ ns) (suc x) h e = int-at ks ns x h.1 e

pub array-at : (ks : List Numeric) (ns : List Number) (x : ℕ) → AllZip IsNumber ks ns → is_kind true (slice_get ks x) ≡ true → (zs : List ℤ) × (slice_index_or ns x (Int (pos 0)) ≡ Array zs) × (length zs ≤ 1000000)
array-at [] ns x h e = cc
array-at (k ∷ ks) [] x h e = absurd h
array-at (k ∷ ks) (Array zs ∷ ns) zero h e = (zs, refl, h.0.1)
array-at (k ∷ ks) (Int z ∷ ns) zero h e = let c : k.is_array ≡ true = kind-is true k e in let d : k.is_array ≡ false = h.0.0 in let f : false ≡ true = sym d ∙ c in cc
array-at (k ∷ ks) (n ∷ ns) (suc x) h e = array-at ks ns x h.1 e

-- the value of an int slot, and of the length of an array slot, is what the slot measures
pub slot-measure : (l : Layout) (v : Variables) (x : ℕ) (z : ℤ) → AllZip IsNumber l.numbers v.numbers → is_kind false (slice_get l.numbers x) ≡ true → Gives (as_int (number_at v x)) ≡ Gives z → measure (number_at v x) ≡ z
slot-measure l v x z k f g = let i = int-at l.numbers v.numbers x k f in ap measure i.1 ∙ sym (ap as_int i.1) ∙ gives_same g

pub length-measure : (l : Layout) (v : Variables) (a : ℕ) (z : ℤ) → AllZip IsNumber l.numbers v.numbers → is_kind true (slice_get l.numbers a) ≡ true → Gives (pos (length (as_array (number_at v a)))) ≡ Gives z → measure (number_at v a) ≡ z
length-measure l v a z k f g = let i = array-at l.numbers v.numbers a k f in ap measure i.1 ∙ sym (ap (λ n. pos (length (as_array n))) i.1) ∙ gives_same g
