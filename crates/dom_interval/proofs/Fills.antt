-- The slots of a layout and the ranges of arguments, place by place.
use Rattle.std.proofs.Common.{ℕ, zero, suc, ◌+◌, ◌<◌, ◌≡◌, List, [], ◌∷◌, ◌++◌, length, drop, get_or, pos, ap, refl, Option, Some, None, arith, add-one, append_assoc, ◌∙◌, sym}
use Rattle.imp_slots.specs.Plain.{Numeric}
use Rattle.num_bounds.specs.Bounds.{Bounds}
use Rattle.num_bounds.specs.Operations.{single}
use Rattle.dom_interval_meaning.specs.Operations.{filled, in_front}
use Rattle.dom_interval.specs.Lists.{filled_slot, behind_these}
use Rattle.dom_interval_meaning.specs.declared.slot_range.SlotRange.{SlotRange}

step_none : (ks : List Numeric) (i : ℕ) (k : Numeric) → i < length ks → k ≡ get_or ks i k → filled (drop i ks) [] ≡ record { is_array = k.is_array; range = single (pos 0) } ∷ filled (drop (suc i) ks) []
step_none [] i k h e = absurd (omega arith)
step_none (x ∷ ks) zero k h e = ap (λ (y : Numeric). record { is_array = y.is_array; range = single (pos 0) } ∷ filled ks []) (sym e)
step_none (x ∷ ks) (suc i) k h e = step_none ks i k (omega arith) e

step : (ks : List Numeric) (rs : List Bounds) (i : ℕ) (k : Numeric) → i < length ks → k ≡ get_or ks i k → filled (drop i ks) (drop i rs) ≡ filled_slot k rs i ∷ filled (drop (suc i) ks) (drop (suc i) rs)
step [] rs i k h e = absurd (omega arith)
step (x ∷ ks) [] zero k h e = ap (λ (y : Numeric). record { is_array = y.is_array; range = single (pos 0) } ∷ filled ks []) (sym e)
step (x ∷ ks) (r ∷ rs) zero k h e = ap (λ (y : Numeric). record { is_array = y.is_array; range = r } ∷ filled ks rs) (sym e)
step (x ∷ ks) [] (suc i) k h e = step_none ks i k (omega arith) e
step (x ∷ ks) (r ∷ rs) (suc i) k h e = step ks rs i k (omega arith) e

-- what is there and what is still to be done are all
pub filled_step : (done : List SlotRange) (ks : List Numeric) (rs : List Bounds) (i : ℕ) (k : Numeric) → i < length ks → k ≡ get_or ks i k → done ++ filled (drop i ks) (drop i rs) ≡ (done ++ filled_slot k rs i ∷ []) ++ filled (drop (i + 1) ks) (drop (i + 1) rs)
filled_step done ks rs i k h e = rw add-one (ap (λ xs. done ++ xs) (step ks rs i k h e) ∙ sym (append_assoc done (filled_slot k rs i ∷ []) (filled (drop (suc i) ks) (drop (suc i) rs))))

-- the ranges so far with one more, before the others
pub behind_front : (xs : List Bounds) (r : Bounds) (o : Option (List Bounds)) → behind_these (xs ++ r ∷ []) o ≡ behind_these xs (in_front r o)
behind_front xs r None = refl
behind_front xs r (Some ys) = ap Some (append_assoc xs (r ∷ []) ys)
