-- The range of an expression holds its value.
use Rattle.std.proofs.Common.{◌≡◌, ℤ, true, List, IfSome}
use Rattle.std.specs.List.{AllZip}
use Rattle.imp_slots.specs.Plain.{Layout, Term}
use Rattle.imp_slots.specs.Fits.{fits_term}
use Rattle.concrete_sem.specs.Values.{Variables, Gives}
use Rattle.concrete_sem.specs.Evaluation.{value_of}
use Rattle.concrete_sem.specs.Proper.{IsNumber}
use Rattle.num_bounds.specs.Bounds.{IsRange}
use Rattle.num_bounds.specs.Meaning.{Covers}
use Rattle.dom_numeric.proofs.Expressions.{range_by-covers, range_by-range}
use Rattle.dom_interval_meaning.specs.Ranges.{range_at, range_of}
use Rattle.dom_interval_meaning.specs.Covers.{Holds}
use Rattle.dom_interval_meaning.proofs.SlotLaws.{FitsSlot, fits-range, at-fits, at-holds}
use Rattle.dom_interval_meaning.specs.declared.slot_range.SlotRange.{SlotRange}

-- where slots hold the values of a frame, the range of an expression holds its value
pub range_of-covers : (l : Layout) (rs : List SlotRange) (v : Variables) (t : Term) (z : ℤ) → fits_term l t ≡ true → AllZip IsNumber l.numbers v.numbers → AllZip Holds rs v.numbers → value_of v t ≡ Gives z → Covers (range_of rs t) z
range_of-covers l rs v t z f k h g = range_by-covers l (range_at rs) v t z f k (λ x. at-holds rs v.numbers x h) g

-- the range of an expression is one of integers of 64 bits
pub range_of-range : (l : Layout) (rs : List SlotRange) (t : Term) → fits_term l t ≡ true → AllZip FitsSlot l.numbers rs → IfSome (range_of rs t) IsRange
range_of-range l rs t f h = range_by-range l (range_at rs) t f (λ x. fits-range _ (range_at rs x) (at-fits l.numbers rs x h))
