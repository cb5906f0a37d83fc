-- Where the intervals lose: what they give is sound, but not best. Each by an example of one or two int variables.
use Rattle.std.specs.Prelude.{◌≡◌, ℕ, ℤ, pos, ◌^◌, ◌-◌, List, [], ◌∷◌, true, false, codes}
use Rattle.imp_syntax.specs.declared.words.Relation.TheVariants.{NotEqual, Less}
use Rattle.imp_syntax.specs.declared.words.Operator.TheVariants.{Add, Subtract, Multiply, Divide, Remainder}
use Rattle.imp_slots.specs.Plain.{Numeric, Layout, Term, Literal, Slot, Binary, Guard, Compare, And, Effect, SetInt, Does}
use Rattle.concrete_sem.specs.Values.{Variables, Heap, Gives}
use Rattle.concrete_sem.specs.Evaluation.{truth_of}
use Rattle.dom_interval_meaning.specs.State.{Intervals, Within}
use Rattle.dom_interval_meaning.specs.Domain.{intervals}
use Rattle.dom_interval_meaning.specs.declared.slot_range.SlotRange.{SlotRange}
use Rattle.dom_interval_precise.specs.Best.{IsBest}
use Rattle.dom_interval_precise.specs.Sets.{OfEither, Where, After}

abbrev pub int : List ℕ → Numeric
int name = record { name = name; is_array = false }

-- the frames of a main with the int x, and of one with x and y
abbrev pub only_x : List Layout
only_x = record { numbers = int (codes "x") ∷ []; links = [] } ∷ []

abbrev pub x_and_y : List Layout
x_and_y = record { numbers = int (codes "x") ∷ int (codes "y") ∷ []; links = [] } ∷ []

-- an int from lo to hi
abbrev pub from_to : (lo hi : ℤ) → SlotRange
from_to lo hi = record { is_array = false; range = record { lo = lo; hi = hi } }

abbrev pub x : Term
x = Slot 0

abbrev pub y : Term
y = Slot 1

abbrev pub AssumesBest : List Layout → Guard → Intervals → Type 0
AssumesBest ls g s = IsBest (Where ls g true s) (intervals.assume g true s)

abbrev pub DoesBest : List Layout → Effect → Intervals → Type 0
DoesBest ls e s = IsBest (After ls e s) (intervals.post (Does e) s)

-- One variable on both sides of a comparison: x < x, for x from 0 to 5, is assumed without a contradiction.
abbrev pub OneOnBothSidesLoses : Type 0
OneOnBothSidesLoses = AssumesBest only_x (Compare Less x x) (Within (from_to (pos 0) (pos 5) ∷ [])) → ⊥

-- Two comparisons: x != 1 && x != 0, for x from 0 to 5, leaves the 1.
abbrev pub TwoComparisonsLose : Type 0
TwoComparisonsLose = AssumesBest only_x (And (Compare NotEqual x (Literal 1)) (Compare NotEqual x (Literal 0))) (Within (from_to (pos 0) (pos 5) ∷ [])) → ⊥

-- One variable on both sides of an operation: after x = x - x, for x from 0 to 1, x is from -1 to 1.
abbrev pub OneTwiceLoses : Type 0
OneTwiceLoses = DoesBest only_x (SetInt 0 (Binary Subtract x x)) (Within (from_to (pos 0) (pos 1) ∷ [])) → ⊥

-- Several operations: after x = 10 / (4 * x - 2), for x from 0 to 1, x is from -10 to 10, since a range from -2 to 2 says
-- that the divisor may be 1.
abbrev pub SeveralOperationsLose : Type 0
SeveralOperationsLose =
    DoesBest only_x (SetInt 0 (Binary Divide (Literal 10) (Binary Subtract (Binary Multiply (Literal 4) x) (Literal 2)))) (Within (from_to (pos 0) (pos 1) ∷ [])) → ⊥

-- A widening, by design: of 0 by a range from 0 to 1 it gives, without thresholds, all from 0 on.
abbrev pub WideningLoses : Type 0
WideningLoses =
    let s = Within (from_to (pos 0) (pos 0) ∷ []) in
    let t = Within (from_to (pos 0) (pos 1) ∷ []) in
    IsBest (OfEither only_x s t) (intervals.widen [] s t) → ⊥

-- A remainder: after x = 5 % 3, x is from 0 to 2.
abbrev pub RemainderLoses : Type 0
RemainderLoses = DoesBest only_x (SetInt 0 (Binary Remainder (Literal 5) (Literal 3))) (Within (from_to (pos 0) (pos 0) ∷ [])) → ⊥

-- A statement that may fail: after y = x + 1, for x up to 2^63 - 1, x still may be 2^63 - 1.
abbrev pub FailureLoses : Type 0
FailureLoses = DoesBest x_and_y (SetInt 1 (Binary Add x (Literal 1))) (Within (from_to (pos 0) (pos (2 ^ 63 - 1)) ∷ from_to (pos 0) (pos 0) ∷ [])) → ⊥

-- those that the statement makes of one that the state describes, and in which the guard holds
abbrev pub AfterWhere : List Layout → Effect → Guard → Intervals → Heap → List Variables → Type 0
AfterWhere ls e g s h [] = ⊥
AfterWhere ls e g s h (u ∷ vs) = After ls e s h (u ∷ vs) × (truth_of u g ≡ Gives true)

-- Two steps: y = x and x < y after it, for x from 0 to 5, are done without a contradiction, since no range says that x and y
-- are equal. Each of the two steps is best.
abbrev pub TwoStepsLose : Type 0
TwoStepsLose =
    let s = Within (from_to (pos 0) (pos 5) ∷ from_to (pos 0) (pos 0) ∷ []) in
    IsBest (AfterWhere x_and_y (SetInt 1 x) (Compare Less x y) s) (intervals.assume (Compare Less x y) true (intervals.post (Does (SetInt 1 x)) s)) → ⊥
