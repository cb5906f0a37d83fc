-- How the lengths of arrays change.
use Rattle.std.proofs.Common.{◌≡◌, refl, sym, ap, ◌∙◌, ◌≤◌, nat_lt, nat_le, ℤ, pos, negsuc, ◌≤ℤ◌, Bool, true, false, List, length, replicate, slice_set, arith, if◌then◌else◌}
use Rattle.std.proofs.lemmas.Int.{ints}
use Rattle.std.proofs.lemmas.List.{length-set, length-replicate}
use Rattle.std.proofs.lemmas.Bool.Decides.{nat_tests}
use Rattle.imp_words.specs.declared.fault.FaultKind.TheVariants.{Length as TooLong, Index, Assert as Failed}
use Rattle.concrete_sem.specs.Values.{Variables, Heap, Gives, Faults}
use Rattle.concrete_sem.specs.Effects.{new_array, with_element}
use Rattle.dom_numeric.specs.Measures.{longest}
use Rattle.concrete_sem.proofs.Numbers.{gives_same}

-- a claim that holds goes on
pub held : (b : Bool) (m n : Heap × Variables) → (if b then Gives m else Faults Failed) ≡ Gives n → Gives m ≡ Gives n
held true m n h = h
held false m n h = cc

pub new_array-length : (n : ℤ) (zs : List ℤ) → new_array n ≡ Gives zs → (pos (length zs) ≡ n) × (pos 0 ≤ℤ n) × (n ≤ℤ longest)
new_array-length (pos n) zs h = by (nat_le n 1000000) refl h
  where
    by : (b : Bool) → nat_le n 1000000 ≡ b → (if b then Gives (replicate n (pos 0)) else Faults TooLong) ≡ Gives zs → (pos (length zs) ≡ pos n) × (pos 0 ≤ℤ pos n) × (pos n ≤ℤ longest)
    by true e f =
        let k : n ≤ 1000000 = grind (arith, nat_tests) in
        let w : length zs ≡ n = ap length (sym (gives_same f)) ∙ length-replicate n (pos 0) in
        (ap pos w, omega (arith, ints), omega (arith, ints))
    by false e f = cc
new_array-length (negsuc n) zs h = cc

pub with_element-length : (zs : List ℤ) (i z : ℤ) (ys : List ℤ) → with_element zs i z ≡ Gives ys → length ys ≡ length zs
with_element-length zs (pos k) z ys h = by (nat_lt k (length zs)) h
  where
    by : (b : Bool) → (if b then Gives (slice_set zs k z) else Faults Index) ≡ Gives ys → length ys ≡ length zs
    by true f = ap length (sym (gives_same f)) ∙ length-set zs k z
    by false f = cc
with_element-length zs (negsuc k) z ys h = cc
