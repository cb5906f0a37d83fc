-- What the range of an expression says of its value.
use Rattle.std.specs.Prelude.{◌≡◌, ℕ, ℤ, true, IfSome}
use Rattle.std.specs.List.{AllZip}
use Rattle.imp_slots.specs.Plain.{Layout, Term}
use Rattle.imp_slots.specs.Fits.{fits_term}
use Rattle.concrete_sem.specs.Values.{Variables, Gives, number_at}
use Rattle.concrete_sem.specs.Evaluation.{value_of}
use Rattle.concrete_sem.specs.Proper.{IsNumber}
use Rattle.num_bounds.specs.Bounds.{Bounds, IsRange, Within}
use Rattle.num_bounds.specs.Meaning.{Covers}
use Rattle.dom_numeric.specs.Measures.{measure}
use Rattle.dom_numeric.specs.Ranges.{range_by}

-- where each slot's measure lies in its range, an expression's value lies in that of the expression
abbrev pub RangesHold : Type 0
RangesHold = (l : Layout) (at : ℕ → Bounds) (v : Variables) (t : Term) (z : ℤ) → fits_term l t ≡ true → AllZip IsNumber l.numbers v.numbers → ((x : ℕ) → Within (measure (number_at v x)) (at x)) → value_of v t ≡ Gives z → Covers (range_by at t) z

-- where the slots' ranges are of integers of 64 bits, so is that of an expression
abbrev pub RangesAreWords : Type 0
RangesAreWords = (l : Layout) (at : ℕ → Bounds) (t : Term) → fits_term l t ≡ true → ((x : ℕ) → IsRange (at x)) → IfSome (range_by at t) IsRange
