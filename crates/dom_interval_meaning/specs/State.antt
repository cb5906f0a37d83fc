-- States of the intervals, and the equality and the hashing of their slots.
use Rattle.std.specs.Prelude.{ℕ, ℤ, ◌≡◌, refl, Bool, true, false, not, ◌&&◌, ◌++◌, List, Option, Some, None}
use Rattle.std.specs.Ordering.{int_eq}
use Rattle.std.specs.Bool.{Decides}
use Rattle.std.specs.Cmp.{IsEquivalence, IsPartialEquivalence, decided, partial_equiv_from_equiv}
use Rattle.std.specs.Coded.{Coded, code_by, coded×, coded_bool, coded_ℤ, coded_list, coded_option}
use Rattle.std.proofs.Common.{ap, subst}
use Rattle.std.proofs.lemmas.Bool.{and_parts, and_from}
use Rattle.std.proofs.lemmas.Bool.Decides.{Decides-int_eq}
use Rattle.std.specs.Hash as fed
use lib.Pointwise.{pointwise}
use Rattle.dom_interval_meaning.specs.declared.slot_range.SlotRange.{SlotRange}

-- Empty, or a range for each numeric slot.
pub data Intervals : Type 0 where
  Empty : Intervals
  Within : List SlotRange → Intervals

abbrev slot_code : Coded SlotRange
slot_code =
    code_by (Bool × (ℤ × ℤ)) (coded× coded_bool (coded× coded_ℤ coded_ℤ)) (λ s. (s.is_array, (s.range.lo, s.range.hi))) (λ p. record { is_array = p.0; range = record { lo = p.1.0; hi = p.1.1 } }) (λ _. refl)

abbrev to_option : Intervals → Option (List SlotRange)
to_option Empty = None
to_option (Within rs) = Some rs

abbrev from_option : Option (List SlotRange) → Intervals
from_option None = Empty
from_option (Some rs) = Within rs

pub from_to : (s : Intervals) → from_option (to_option s) ≡ s
from_to Empty = refl
from_to (Within rs) = refl

abbrev pub intervals_code : Coded Intervals
intervals_code = code_by (Option (List SlotRange)) (coded_option (coded_list slot_code)) to_option from_option from_to

abbrev pub bool_same : Bool → Bool → Bool
bool_same true b = b
bool_same false b = not b

pub bool_equal : (a b : Bool) → bool_same a b ≡ true → a ≡ b
bool_equal true true h = refl
bool_equal true false h = cc
bool_equal false true h = cc
bool_equal false false h = refl

pub bool_self : (a : Bool) → bool_same a a ≡ true
bool_self true = refl
bool_self false = refl

abbrev pub slot_same : SlotRange → SlotRange → Bool
slot_same a b = bool_same a.is_array b.is_array && (int_eq a.range.lo b.range.lo && int_eq a.range.hi b.range.hi)

pub slot_equal : (a b : SlotRange) → slot_same a b ≡ true → a ≡ b
slot_equal a b h =
    let p = and_parts (bool_same a.is_array b.is_array) (int_eq a.range.lo b.range.lo && int_eq a.range.hi b.range.hi) h in
    let q = and_parts (int_eq a.range.lo b.range.lo) (int_eq a.range.hi b.range.hi) p.1 in
    λ i. record { is_array = bool_equal a.is_array b.is_array p.0 i; range = record { lo = (Decides-int_eq a.range.lo b.range.lo).0 q.0 i; hi = (Decides-int_eq a.range.hi b.range.hi).0 q.1 i } }

slot_self : (a : SlotRange) → slot_same a a ≡ true
slot_self a =
    and_from (bool_same a.is_array a.is_array) (int_eq a.range.lo a.range.lo && int_eq a.range.hi a.range.hi) (bool_self a.is_array)
    (and_from (int_eq a.range.lo a.range.lo) (int_eq a.range.hi a.range.hi) ((Decides-int_eq a.range.lo a.range.lo).1 refl) ((Decides-int_eq a.range.hi a.range.hi).1 refl))

pub slot_Decides : (a b : SlotRange) → Decides (slot_same a b) (a ≡ b)
slot_Decides a b = (slot_equal a b, λ e. subst (λ z. slot_same a z ≡ true) e (slot_self a))

pub slot_equiv : IsEquivalence slot_same
slot_equiv = decided slot_same slot_Decides

pub slot_per : IsPartialEquivalence slot_same
slot_per = partial_equiv_from_equiv slot_equiv

abbrev pub slot_fed : SlotRange → List (List ℕ)
slot_fed s = (fed.bool s.is_array ++ fed.i64 s.range.lo) ++ fed.i64 s.range.hi

pub slot_fed-same : (a b : SlotRange) → slot_same a b ≡ true → slot_fed a ≡ slot_fed b
slot_fed-same a b h = ap slot_fed (slot_equal a b h)

-- whether two states are equal
abbrev pub intervals_same : Intervals → Intervals → Bool
intervals_same Empty Empty = true
intervals_same Empty (Within qs) = false
intervals_same (Within rs) Empty = false
intervals_same (Within rs) (Within qs) = pointwise slot_same rs qs

-- what a state feeds a hasher
abbrev pub intervals_fed : Intervals → List (List ℕ)
intervals_fed Empty = fed.u8 0
intervals_fed (Within rs) = fed.u8 1 ++ fed.slice slot_fed rs
