-- How often a state can change under widening: widening never closes its left matrix, so its bounds never fall.
use Rattle.std.proofs.Common.{◌≡◌, refl, ap, ℕ, ◌+◌, ◌*◌, ◌<◌, ◌≤◌, ℤ, List, length, map, arith, ◌⊎◌, inl, inr}
use Rattle.std.proofs.Math.Nat.{mul-le-mul_left, mul-le-mul_right}
use Rattle.std.proofs.lemmas.List.{length-take, length-map}
use Rattle.imp_slots.specs.Plain.{Numeric, Layout}
use Rattle.dbm_core.proofs.RisesLemmas.{rises-few, rises-widened}
use Rattle.dbm_core.specs.Half.{HalfMatrix}
use Rattle.dbm_core.specs.Operations.{widened}
use Rattle.dbm_core.specs.Rises.{rises}
use Rattle.dbm_core.specs.Tables.{matrix_of}
use Rattle.dbm_close.specs.declared.closed.Closed.{Closed}
use Rattle.dbm_close.specs.declared.closed.Closed.TheVariants.{Empty, Matrix}
use Rattle.dom_octagon_meaning.specs.Convergence.{WideningEnds, changes_left, most_changes}
use Rattle.dom_octagon_meaning.specs.Operations.{kinds_of, widen, widen_closed}
use Rattle.dom_octagon_meaning.specs.States.{closed}
use Rattle.dom_octagon_meaning.proofs.Fitting.{FitsMatrix, FitsState, closed-fits}
use Rattle.dom_octagon_meaning.proofs.Guards.{alike, widen-entries}
use Rattle.dom_octagon_meaning.proofs.Laws.{fits-state}

no-more : (ks : List Numeric) → length (kinds_of ks) ≤ length ks
no-more ks = omega (arith, length-take 16 (map (λ (k : Numeric). k.is_array) ks), length-map ks (λ (k : Numeric). k.is_array))

squares : (a b : ℕ) → a ≤ b → a * a ≤ b * b
squares a b h = omega (arith, mul-le-mul_left a h, mul-le-mul_right b h)

seldom : (a b n : ℕ) → a ≤ b → 2 * a * (2 * a * n) ≤ 4 * b * b * n
seldom a b n h = let s : a * a ≤ b * b = squares a b h in omega (arith, mul-le-mul_right n (mul-le-mul_left 4 s))

rises-most : (ms : List ℤ) (l : Layout) (m : HalfMatrix) → FitsMatrix (kinds_of l.numbers) m → rises ms m ≤ most_changes (length l.numbers) (length ms)
rises-most ms l m h =
    let k : length m.kinds ≡ length (kinds_of l.numbers) = ap length h.same_kinds in
    let n : length m.kinds ≤ length l.numbers = omega (arith, k, no-more l.numbers) in
    omega (arith, rises-few ms m, seldom (length m.kinds) (length l.numbers) (length ms + 1) n)

few-left : (ms : List ℤ) (l : Layout) (s : Closed) → FitsState (kinds_of l.numbers) s → changes_left ms l s ≤ most_changes (length l.numbers) (length ms) + 1
unfolding changes_left
few-left ms l Empty h = omega arith
few-left ms l (Matrix m) h = omega (arith, rises-most ms l m h)

lift : (ms : List ℤ) (l : Layout) (a w : HalfMatrix) → (w ≡ a) ⊎ (rises ms w < rises ms a) → (Matrix w ≡ Matrix a) ⊎ (changes_left ms l (Matrix w) < changes_left ms l (Matrix a))
unfolding changes_left
lift ms l a w (inl e) = inl (ap Matrix e)
lift ms l a w (inr h) = inr h

from_empty : (ms : List ℤ) (l : Layout) (t : Closed) → FitsState (kinds_of l.numbers) t → (t ≡ Empty) ⊎ (changes_left ms l t < changes_left ms l Empty)
unfolding changes_left
from_empty ms l Empty h = inl refl
from_empty ms l (Matrix m) h = inr (omega (arith, rises-most ms l m h))

widen-falls : (ms : List ℤ) (l : Layout) (s t : Closed) → FitsState (kinds_of l.numbers) s → FitsState (kinds_of l.numbers) t → (widen_closed ms s t ≡ s) ⊎ (changes_left ms l (widen_closed ms s t) < changes_left ms l s)
widen-falls ms l Empty t h k = from_empty ms l t k
widen-falls ms l (Matrix a) Empty h k = inl refl
widen-falls ms l (Matrix a) (Matrix b) h k = rw (alike (kinds_of l.numbers) a b h k)
    (lift ms l a (matrix_of a.kinds (widened ms a b)) (rises-widened ms a b (matrix_of a.kinds (widened ms a b)) h.matrix (widen-entries ms (kinds_of l.numbers) a b h k)))

pub widening_ends : WideningEnds
unfolding widen
widening_ends = record {
  falls = λ ms l ls s t h k. widen-falls ms l s (closed t) (fits-state s l ls h) (closed-fits (kinds_of l.numbers) t (fits-state t l ls k));
  few = λ ms l ls s h. few-left ms l s (fits-state s l ls h);
}
