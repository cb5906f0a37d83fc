-- Slots after others.
use Rattle.std.proofs.Common.{◌≡◌, subst, arith, pos, ◌≤ℤ◌, ◌&&◌, int_le, ℤ, refl, sym, ap, ◌∙◌, List, [], ◌∷◌, ◌++◌, Option, Some, None, Bool, true, false, if◌then◌else◌, append_assoc}
use Rattle.std.specs.Option.{option_map}
use Rattle.imp_slots.specs.Plain.{Numeric}
use Rattle.num_bounds.specs.Bounds.{Bounds, least, greatest}
use Rattle.dom_interval_words.specs.Words.{before, slot_if, slot_with}
use Rattle.dom_interval_words.specs.Slots.{within_extremes}
use Rattle.dom_interval_meaning.specs.State.{bool_self}
use Rattle.dom_interval_meaning.specs.Ranges.{extremes}
use Rattle.std.proofs.lemmas.Bool.{and_parts}
use Rattle.std.proofs.lemmas.Int.{ints}
use Rattle.dom_interval_meaning.specs.declared.slot_range.SlotRange.{SlotRange}
use Rattle.num_bounds.proofs.Ends.{le-true}

-- the slots so far with one more, before the others
pub more_behind : (done : List SlotRange) (s : SlotRange) (o : Option (List SlotRange)) (first : Option SlotRange) → first ≡ Some s →
    option_map (λ more. (done ++ s ∷ []) ++ more) o ≡ option_map (λ more. done ++ more) (before first o)
more_behind done s o first e = by o ∙ ap (λ (first : Option SlotRange). option_map (λ more. done ++ more) (before first o)) (sym e)
  where
    by : (o : Option (List SlotRange)) → option_map (λ more. (done ++ s ∷ []) ++ more) o ≡ option_map (λ more. done ++ more) (option_map (λ ss. s ∷ ss) o)
    by None = refl
    by (Some more) = ap Some (append_assoc done (s ∷ []) more)

-- a slot of its own kind fits exactly where its ends are within the extremes
pub slot_within : (k : Numeric) (lo hi : ℤ) → within_extremes (extremes k.is_array) lo hi ≡ true → slot_if k (slot_with k lo hi) ≡ Some (slot_with k lo hi)
slot_within k lo hi e =
    ap (λ c. if c && within_extremes (extremes k.is_array) lo hi then Some (slot_with k lo hi) else None) (bool_self k.is_array) ∙ ap (λ c. if c then Some (slot_with k lo hi) else None) e

pub slot_without : (k : Numeric) (lo hi : ℤ) → within_extremes (extremes k.is_array) lo hi ≡ false → slot_if k (slot_with k lo hi) ≡ None
slot_without k lo hi e =
    ap (λ c. if c && within_extremes (extremes k.is_array) lo hi then Some (slot_with k lo hi) else None) (bool_self k.is_array) ∙ ap (λ c. if c then Some (slot_with k lo hi) else None) e

pub ordered_within : (b : Bool) (lo hi : ℤ) → within_extremes (extremes b) lo hi ≡ true → ((extremes b).lo ≤ℤ lo) × (lo ≤ℤ hi) × (hi ≤ℤ (extremes b).hi)
ordered_within b lo hi e =
    let p = and_parts (int_le (extremes b).lo lo) (int_le lo hi && int_le hi (extremes b).hi) e in
    let q = and_parts (int_le lo hi) (int_le hi (extremes b).hi) p.1 in
    (le-true (extremes b).lo lo p.0, le-true lo hi q.0, le-true hi (extremes b).hi q.1)

-- a slot with these ends, as it is made
pub slot_made : (k : Numeric) (a : Bool) (lo hi : ℤ) (r : Bounds) → a ≡ k.is_array → r ≡ record { lo = lo; hi = hi } → within_extremes (extremes a) lo hi ≡ true → Some (record { is_array = a; range = r }) ≡ slot_if k (slot_with k lo hi)
slot_made k a lo hi r kind ends e =
    (λ i. Some (record { is_array = kind i; range = ends i })) ∙ sym (slot_within k lo hi (subst (λ b. within_extremes (extremes b) lo hi ≡ true) kind e))

-- both ends are integers of 64 bits
pub ends_are_words : (b : Bool) (lo hi : ℤ) → within_extremes (extremes b) lo hi ≡ true → (least ≤ℤ lo) × (lo ≤ℤ greatest) × (least ≤ℤ hi) × (hi ≤ℤ greatest)
ends_are_words true lo hi e =
    let w = ordered_within true lo hi e in
    let x : pos 0 ≤ℤ lo = w.0 in
    let y : lo ≤ℤ hi = w.1 in
    let z : hi ≤ℤ pos 1000000 = w.2 in
    (omega (arith, ints), omega (arith, ints), omega (arith, ints), omega (arith, ints))
ends_are_words false lo hi e =
    let w = ordered_within false lo hi e in
    let x : least ≤ℤ lo = w.0 in
    let y : lo ≤ℤ hi = w.1 in
    let z : hi ≤ℤ greatest = w.2 in
    (x, omega (arith, ints), omega (arith, ints), z)
