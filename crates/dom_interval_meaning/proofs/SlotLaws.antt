-- Slots that fit a layout, and slots that hold the values of a frame.
use Rattle.std.proofs.Common.{◌≡◌, refl, sym, ◌∙◌, ℕ, zero, suc, pos, ◌≤ℤ◌, int_le, Bool, true, false, ◌&&◌, List, [], ◌∷◌, slice_get, slice_index_or, slice_set, arith}
use Rattle.std.proofs.lemmas.Int.{ints}
use Rattle.std.proofs.lemmas.Bool.{and_parts, and_from}
use Rattle.std.specs.List.{AllZip}
use Rattle.imp_slots.specs.Plain.{Numeric}
use Rattle.imp_slots.specs.Fits.{is_kind}
use Rattle.concrete_sem.specs.Values.{Number, Int}
use Rattle.num_bounds.specs.Bounds.{Bounds, IsRange, Within as Lies}
use Rattle.dom_numeric.specs.Measures.{measure}
use Rattle.dom_numeric.proofs.Slots.{kind-is, kind-none}
use Rattle.dom_interval_meaning.specs.State.{bool_same, bool_equal}
use Rattle.dom_interval_meaning.specs.Ranges.{extremes, slot_at, range_at, with_range, full}
use Rattle.dom_interval_meaning.specs.Covers.{Holds, fits_slot, fits_slots}
use Rattle.dom_interval_meaning.specs.declared.slot_range.SlotRange.{SlotRange}
use Rattle.num_bounds.proofs.Ends.{le-true, true-le}

true-same : (a b : Bool) → a ≡ b → bool_same a b ≡ true
true-same true true h = refl
true-same true false h = cc
true-same false true h = cc
true-same false false h = refl

-- a range that is not empty, within the extremes of a kind
pub record FitsRange (is_array : Bool) (r : Bounds) : Type 0 where
  pub low : (extremes is_array).lo ≤ℤ r.lo
  pub ordered : r.lo ≤ℤ r.hi
  pub high : r.hi ≤ℤ (extremes is_array).hi

abbrev pub FitsSlot : Numeric → SlotRange → Type 0
FitsSlot k s = (k.is_array ≡ s.is_array) × FitsRange s.is_array s.range

fits_slot-true : (k : Numeric) (s : SlotRange) → fits_slot k s ≡ true → FitsSlot k s
fits_slot-true k s h =
    let e = extremes s.is_array in
    let p = and_parts (bool_same k.is_array s.is_array) (int_le e.lo s.range.lo && (int_le s.range.lo s.range.hi && int_le s.range.hi e.hi)) h in
    let q = and_parts (int_le e.lo s.range.lo) (int_le s.range.lo s.range.hi && int_le s.range.hi e.hi) p.1 in
    let r = and_parts (int_le s.range.lo s.range.hi) (int_le s.range.hi e.hi) q.1 in
    (bool_equal k.is_array s.is_array p.0, record { low = le-true e.lo s.range.lo q.0; ordered = le-true s.range.lo s.range.hi r.0; high = le-true s.range.hi e.hi r.1 })

true-fits_slot : (k : Numeric) (s : SlotRange) → FitsSlot k s → fits_slot k s ≡ true
true-fits_slot k s h =
    let e = extremes s.is_array in
    and_from (bool_same k.is_array s.is_array) (int_le e.lo s.range.lo && (int_le s.range.lo s.range.hi && int_le s.range.hi e.hi)) (true-same k.is_array s.is_array h.0)
    (and_from (int_le e.lo s.range.lo) (int_le s.range.lo s.range.hi && int_le s.range.hi e.hi) (true-le e.lo s.range.lo h.1.low)
    (and_from (int_le s.range.lo s.range.hi) (int_le s.range.hi e.hi) (true-le s.range.lo s.range.hi h.1.ordered) (true-le s.range.hi e.hi h.1.high)))

pub fits_slots-true : (ks : List Numeric) (rs : List SlotRange) → fits_slots ks rs ≡ true → AllZip FitsSlot ks rs
fits_slots-true [] [] h = tt
fits_slots-true [] (r ∷ rs) h = cc
fits_slots-true (k ∷ ks) [] h = cc
fits_slots-true (k ∷ ks) (r ∷ rs) h = let p = and_parts (fits_slot k r) (fits_slots ks rs) h in (fits_slot-true k r p.0, fits_slots-true ks rs p.1)

pub true-fits_slots : (ks : List Numeric) (rs : List SlotRange) → AllZip FitsSlot ks rs → fits_slots ks rs ≡ true
true-fits_slots [] [] h = refl
true-fits_slots [] (r ∷ rs) h = absurd h
true-fits_slots (k ∷ ks) [] h = absurd h
true-fits_slots (k ∷ ks) (r ∷ rs) h = and_from (fits_slot k r) (fits_slots ks rs) (true-fits_slot k r h.0) (true-fits_slots ks rs h.1)

-- such a range is one of integers of 64 bits
pub fits-range : (b : Bool) (r : Bounds) → FitsRange b r → IsRange r
fits-range true r h =
    let low : pos 0 ≤ℤ r.lo = h.low in
    let high : r.hi ≤ℤ pos 1000000 = h.high in
    record { low = omega (arith, ints); ordered = h.ordered; high = omega (arith, ints) }
fits-range false r h = record { low = h.low; ordered = h.ordered; high = h.high }

pub range-fits : (r : Bounds) → IsRange r → FitsRange false r
range-fits r h = record { low = h.low; ordered = h.ordered; high = h.high }

full-fits : FitsRange false full
full-fits = record { low = omega (arith, ints); ordered = omega (arith, ints); high = omega (arith, ints) }

-- the slot at a place fits its own kind
pub at-fits : (ks : List Numeric) (rs : List SlotRange) (x : ℕ) → AllZip FitsSlot ks rs → FitsRange (slot_at rs x).is_array (range_at rs x)
at-fits [] [] x h = full-fits
at-fits [] (r ∷ rs) x h = absurd h
at-fits (k ∷ ks) [] x h = absurd h
at-fits (k ∷ ks) (r ∷ rs) zero h = h.0.1
at-fits (k ∷ ks) (r ∷ rs) (suc x) h = at-fits ks rs x h.1

-- and that of the layout
pub at-kind : (b : Bool) (ks : List Numeric) (rs : List SlotRange) (x : ℕ) → AllZip FitsSlot ks rs → is_kind b (slice_get ks x) ≡ true → (slot_at rs x).is_array ≡ b
at-kind b [] rs x h e = absurd (kind-none b e)
at-kind b (k ∷ ks) [] x h e = absurd h
at-kind b (k ∷ ks) (r ∷ rs) zero h e = sym h.0.0 ∙ kind-is b k e
at-kind b (k ∷ ks) (r ∷ rs) (suc x) h e = at-kind b ks rs x h.1 e

-- a slot gets a range that fits its kind
pub set-fits : (ks : List Numeric) (rs : List SlotRange) (x : ℕ) (r : Bounds) → AllZip FitsSlot ks rs → FitsRange (slot_at rs x).is_array r → AllZip FitsSlot ks (with_range rs x r)
set-fits [] [] x r h f = tt
set-fits [] (s ∷ rs) x r h f = absurd h
set-fits (k ∷ ks) [] x r h f = absurd h
set-fits (k ∷ ks) (s ∷ rs) zero r h f = ((h.0.0, f), h.1)
set-fits (k ∷ ks) (s ∷ rs) (suc x) r h f = (h.0, set-fits ks rs x r h.1 f)

-- the slot at a place holds the value there
pub at-holds : (rs : List SlotRange) (ns : List Number) (x : ℕ) → AllZip Holds rs ns → Holds (slot_at rs x) (slice_index_or ns x (Int (pos 0)))
at-holds [] [] x h = (omega (arith, ints), omega (arith, ints))
at-holds [] (n ∷ ns) x h = absurd h
at-holds (r ∷ rs) [] x h = absurd h
at-holds (r ∷ rs) (n ∷ ns) zero h = h.0
at-holds (r ∷ rs) (n ∷ ns) (suc x) h = at-holds rs ns x h.1

-- a slot gets a range in which its value lies
pub cut-holds : (rs : List SlotRange) (ns : List Number) (x : ℕ) (r : Bounds) → AllZip Holds rs ns → Lies (measure (slice_index_or ns x (Int (pos 0)))) r → AllZip Holds (with_range rs x r) ns
cut-holds [] [] x r h w = tt
cut-holds [] (n ∷ ns) x r h w = absurd h
cut-holds (s ∷ rs) [] x r h w = absurd h
cut-holds (s ∷ rs) (n ∷ ns) zero r h w = (w, h.1)
cut-holds (s ∷ rs) (n ∷ ns) (suc x) r h w = (h.0, cut-holds rs ns x r h.1 w)

-- a variable gets a value, and its slot a range in which it lies
pub set-holds : (rs : List SlotRange) (ns : List Number) (x : ℕ) (r : Bounds) (m : Number) → AllZip Holds rs ns → Lies (measure m) r → AllZip Holds (with_range rs x r) (slice_set ns x m)
set-holds [] [] x r m h w = tt
set-holds [] (n ∷ ns) x r m h w = absurd h
set-holds (s ∷ rs) [] x r m h w = absurd h
set-holds (s ∷ rs) (n ∷ ns) zero r m h w = (w, h.1)
set-holds (s ∷ rs) (n ∷ ns) (suc x) r m h w = (h.0, set-holds rs ns x r m h.1 w)
