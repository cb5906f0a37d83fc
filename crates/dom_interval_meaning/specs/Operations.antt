-- The operations of the intervals.
use Rattle.std.specs.Prelude.{ℕ, Bool, true, false, ◌&&◌, ℤ, pos, ◌+ℤ◌, ◌-ℤ◌, int_le, int_lt, if◌then◌else◌, List, [], ◌∷◌, map, Option, Some, None}
use Rattle.std.specs.Ordering.{int_eq}
use Rattle.std.specs.List.{zip}
use Rattle.imp_syntax.specs.declared.words.Relation.{Relation}
use Rattle.imp_syntax.specs.declared.words.Relation.TheVariants.{Equal, NotEqual, Less, AtMost, Greater, AtLeast}
use Rattle.imp_slots.specs.Plain.{Numeric, Layout, Term, Literal, Slot, Length, Negative, Binary, Guard, Effect, Skip, Assert, SetInt, Input, ReadElement, ReadItem, MakeArray, CopyArray, WriteElement, SetNull, MakeCell, CopyLink, ReadNext, WriteNext, WriteItem, Act, DoBreak, Does, Argument, IntArgument, ArrayArgument, LinkArgument, Entering, Returning, NumericResult, LinkResult}
use Rattle.num_bounds.specs.Bounds.{Bounds, least, greatest}
use Rattle.num_bounds.specs.Operations.{single, cut_of, hull_of}
use Rattle.domain_laws.specs.Checks.{check_of}
use Rattle.domain_laws.specs.Guards.{assumed, past_check, verdict_by}
use Rattle.imp_words.specs.declared.verdict.Verdict.{Verdict}
use Rattle.dom_interval_meaning.specs.State.{Intervals, Empty, Within}
use Rattle.dom_numeric.specs.Measures.{longest}
use Rattle.dom_numeric.specs.Ranges.{if_range}
use Rattle.dom_interval_meaning.specs.Ranges.{full, range_at, with_range, range_of}
use Rattle.dom_interval_meaning.specs.declared.slot_range.SlotRange.{SlotRange}

-- Empty where a range is needed and there is none
abbrev pub needs : Option Bounds → (Bounds → Intervals) → Intervals
needs None f = Empty
needs (Some r) f = f r

-- one thing after another: what is Empty stays so
abbrev pub unless_empty : Intervals → (List SlotRange → Intervals) → Intervals
unless_empty Empty f = Empty
unless_empty (Within rs) f = f rs

-- the slot of a side of a comparison that is a variable or the length of one
abbrev pub side_of : Term → Option ℕ
side_of (Literal n) = None
side_of (Slot x) = Some x
side_of (Length a) = Some a
side_of (Negative e) = None
side_of (Binary o a b) = None

-- a side that is a slot's is cut to the numbers from lo to hi
abbrev pub cut_side : Option ℕ → ℤ → ℤ → List SlotRange → Intervals
cut_side None lo hi rs = Within rs
cut_side (Some x) lo hi rs = needs (cut_of (range_at rs x) lo hi) (λ r. Within (with_range rs x r))

-- the left side is cut to the one range, the right side to the other
abbrev pub cut_both : (a b : Option ℕ) → (r s : Bounds) → List SlotRange → Intervals
cut_both a b r s rs = unless_empty (cut_side a r.lo r.hi rs) (cut_side b s.lo s.hi)

-- Comparisons of a side with the range l and one with the range r.
abbrev pub less : (a b : Option ℕ) → (l r : Bounds) → List SlotRange → Intervals
less a b l r rs = if int_le r.hi l.lo then Empty else cut_both a b (record { lo = least; hi = r.hi -ℤ pos 1 }) (record { lo = l.lo +ℤ pos 1; hi = greatest }) rs

abbrev pub at_most : (a b : Option ℕ) → (l r : Bounds) → List SlotRange → Intervals
at_most a b l r rs = if int_lt r.hi l.lo then Empty else cut_both a b (record { lo = least; hi = r.hi }) (record { lo = l.lo; hi = greatest }) rs

-- both are cut to the common part
abbrev pub equal : (a b : Option ℕ) → (l r : Bounds) → List SlotRange → Intervals
equal a b l r rs = needs (cut_of l r.lo r.hi) (λ c. cut_both a b c c rs)

abbrev pub is_single : Bounds → Bool
is_single r = int_eq r.lo r.hi

-- a side of the range l loses an end where the other side is one number, that end
abbrev pub lose_end : (a : Option ℕ) → (l r : Bounds) → List SlotRange → Intervals
lose_end a l r rs =
    if is_single r then
    (if int_eq l.lo r.lo then cut_side a (l.lo +ℤ pos 1) greatest rs
    else (if int_eq l.hi r.lo then cut_side a least (l.hi -ℤ pos 1) rs else Within rs))
    else Within rs

abbrev pub not_equal : (a b : Option ℕ) → (l r : Bounds) → List SlotRange → Intervals
not_equal a b l r rs =
    if is_single l && (is_single r && int_eq l.lo r.lo) then Empty else unless_empty (lose_end a l r rs) (lose_end b r l)

abbrev pub related : Relation → (a b : Option ℕ) → (l r : Bounds) → List SlotRange → Intervals
related Equal = equal
related NotEqual = not_equal
related Less = less
related AtMost = at_most
related Greater = λ a b l r. less b a r l
related AtLeast = λ a b l r. at_most b a r l

abbrev pub compare_ranges : Relation → Term → Term → List SlotRange → Intervals
compare_ranges c a b rs = needs (range_of rs a) (λ l. needs (range_of rs b) (λ r. related c (side_of a) (side_of b) l r rs))

abbrev pub compare : Relation → Term → Term → Intervals → Intervals
compare c a b s = unless_empty s (compare_ranges c a b)

-- comparisons of links say nothing of numbers
abbrev pub compare_links : Bool → Option ℕ → Option ℕ → Intervals → Intervals
compare_links same p q s = s

abbrev pub hull_slot : SlotRange → SlotRange → SlotRange
hull_slot a b = record { is_array = a.is_array; range = hull_of a.range b.range }

-- the outer ends; Empty is neutral
unfoldable pub join : Intervals → Intervals → Intervals
join Empty t = t
join (Within rs) Empty = Within rs
join (Within rs) (Within qs) = Within (map (λ p. hull_slot p.0 p.1) (zip rs qs))

unfoldable pub assume : Guard → Bool → Intervals → Intervals
assume = assumed compare compare_links join

-- what a simple statement does after its check
unfoldable pub does : Effect → List SlotRange → Intervals
does Skip rs = Within rs
does (Assert g) rs = Within rs
does (SetInt x e) rs = needs (range_of rs e) (λ r. Within (with_range rs x r))
does (Input x) rs = Within (with_range rs x full)
does (ReadElement x a e) rs = Within (with_range rs x full)
does (ReadItem x q) rs = Within (with_range rs x full)
does (MakeArray a e) rs = needs (range_of rs e) (λ r. needs (cut_of r (pos 0) longest) (λ c. Within (with_range rs a c)))
does (CopyArray a b) rs = Within (with_range rs a (range_at rs b))
does (WriteElement a e f) rs = needs (range_of rs f) (λ r. Within rs)
does (SetNull p) rs = Within rs
does (MakeCell p) rs = Within rs
does (CopyLink p q) rs = Within rs
does (ReadNext p q) rs = Within rs
does (WriteNext p q) rs = Within rs
does (WriteItem p e) rs = needs (range_of rs e) (λ r. Within rs)

unfoldable pub post : Act → Intervals → Intervals
post DoBreak s = Empty
post (Does e) s = unless_empty (past_check assume (check_of e) s) (does e)

-- The slots of a layout: the first get these ranges, the others 0.
abbrev pub filled : List Numeric → List Bounds → List SlotRange
filled [] rs = []
filled (k ∷ ks) [] = record { is_array = k.is_array; range = single (pos 0) } ∷ filled ks []
filled (k ∷ ks) (r ∷ rs) = record { is_array = k.is_array; range = r } ∷ filled ks rs

unfoldable pub init : Layout → Intervals
init l = Within (filled l.numbers [])

abbrev pub in_front : Bounds → Option (List Bounds) → Option (List Bounds)
in_front r None = None
in_front r (Some rs) = Some (r ∷ rs)

-- the ranges of the arguments that take numeric slots, none where one has none
abbrev pub argument_ranges : List SlotRange → List Argument → Option (List Bounds)
argument_ranges rs [] = Some []
argument_ranges rs (IntArgument e ∷ more) = if_range (range_of rs e) (λ r. in_front r (argument_ranges rs more))
argument_ranges rs (ArrayArgument a ∷ more) = in_front (range_at rs a) (argument_ranges rs more)
argument_ranges rs (LinkArgument p ∷ more) = argument_ranges rs more

abbrev pub entered : List Numeric → Option (List Bounds) → Intervals
entered ks None = Empty
entered ks (Some rs) = Within (filled ks rs)

unfoldable pub enter : Entering → Intervals → Intervals
enter e s = unless_empty s (λ rs. entered e.layout.numbers (argument_ranges rs e.arguments))

-- the slot that takes the result gets its range
abbrev pub returned : Option Returning → List SlotRange → List SlotRange → Intervals
returned None rs ds = Within rs
returned (Some (NumericResult to from)) rs ds = Within (with_range rs to (range_at ds from))
returned (Some (LinkResult to from)) rs ds = Within rs

unfoldable pub leave : Option Returning → Intervals → Intervals → Intervals
leave o s d = unless_empty s (λ rs. unless_empty d (returned o rs))

abbrev pub shed : Intervals → Intervals
shed s = s

-- dead exactly where it is Empty
unfoldable pub dead : Intervals → Bool
dead Empty = true
dead (Within rs) = false

unfoldable pub check : Act → Intervals → Verdict
check = verdict_by assume dead
