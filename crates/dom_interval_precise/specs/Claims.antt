-- Which operations of the intervals give the best state.
use Rattle.std.specs.Prelude.{◌≡◌, ◌≢◌, ◌↔◌, ◌⊎◌, ℕ, ℤ, List, [], ◌∷◌, Option, Some, Bool, true}
use Rattle.imp_syntax.specs.declared.words.Relation.{Relation}
use Rattle.imp_syntax.specs.declared.words.Operator.{Operator}
use Rattle.imp_syntax.specs.declared.words.Operator.TheVariants.{Add, Subtract, Multiply, Divide, Remainder}
use Rattle.imp_slots.specs.Plain.{Layout, Term, Literal, Slot, Length, Negative, Binary, Compare, Effect, Skip, Assert, SetInt, Input, ReadElement, ReadItem, MakeArray, CopyArray, WriteElement, SetNull, MakeCell, CopyLink, ReadNext, WriteNext, WriteItem, Does, Argument, IntArgument, ArrayArgument, LinkArgument, Invoke}
use Rattle.imp_slots.specs.Fits.{fits_guard, fits_effect, fits_invoke}
use Rattle.domain_laws.specs.Checks.{Within, checked_guard}
use Rattle.concrete_sem.specs.Values.{Variables, Heap, Gives}
use Rattle.concrete_sem.specs.Evaluation.{value_of}
use Rattle.dom_interval_meaning.specs.State.{Intervals}
use Rattle.dom_interval_meaning.specs.Operations.{side_of}
use Rattle.dom_interval_meaning.specs.Domain.{intervals}
use Rattle.dom_interval_precise.specs.Best.{IsPartOf, Covers, IsBest}
use Rattle.dom_interval_precise.specs.Sets.{Of, OfEither, Where, After, Entered, Returned}

-- Ranges say it all: a state is part of another exactly where the other covers all that it describes.
abbrev pub PartIsInclusion : Type 0
PartIsInclusion = (l : Layout) (ls : List Layout) (s t : Intervals) → intervals.fits s (l ∷ ls) ≡ true → IsPartOf s t ↔ Covers (Of (l ∷ ls) s) t

-- The join of two states is best: it is their least upper bound.
abbrev pub JoinIsBest : Type 0
JoinIsBest = (l : Layout) (ls : List Layout) (s t : Intervals) → intervals.fits s (l ∷ ls) ≡ true → intervals.fits t (l ∷ ls) ≡ true → IsBest (OfEither (l ∷ ls) s t) (intervals.join s t)

-- a number as it is written
abbrev pub IsNumeral : Term → Type 0
IsNumeral (Literal n) = Unit {0}
IsNumeral (Slot x) = ⊥
IsNumeral (Length a) = ⊥
IsNumeral (Negative e) = ⊥
IsNumeral (Binary o a b) = ⊥

-- a number, also a negative one, an int variable or the length of an array variable
abbrev pub IsOperand : Term → Type 0
IsOperand (Literal n) = Unit {0}
IsOperand (Slot x) = Unit {0}
IsOperand (Length a) = Unit {0}
IsOperand (Negative e) = IsNumeral e
IsOperand (Binary o a b) = ⊥

-- two operands that are not of one variable
abbrev pub AreApart : Option ℕ → Option ℕ → Type 0
AreApart a b = (x : ℕ) → a ≡ Some x → b ≢ Some x

-- A comparison of two operands that are not of one variable is assumed best, in either truth value.
abbrev pub ComparisonIsBest : Type 0
ComparisonIsBest = (l : Layout) (ls : List Layout) (r : Relation) (a b : Term) (sense : Bool) (s : Intervals) → IsOperand a → IsOperand b → AreApart (side_of a) (side_of b) → fits_guard l (Compare r a b) ≡ true → intervals.fits s (l ∷ ls) ≡ true → IsBest (Where (l ∷ ls) (Compare r a b) sense s) (intervals.assume (Compare r a b) sense s)

-- So is the assertion of such a comparison.
abbrev pub AssertionIsBest : Type 0
AssertionIsBest = (l : Layout) (ls : List Layout) (r : Relation) (a b : Term) (s : Intervals) → IsOperand a → IsOperand b → AreApart (side_of a) (side_of b) → fits_guard l (Compare r a b) ≡ true → intervals.fits s (l ∷ ls) ≡ true → IsBest (After (l ∷ ls) (Assert (Compare r a b)) s) (intervals.post (Does (Assert (Compare r a b))) s)

-- The check of an index, 0 <= e && e < len a, is assumed best, where e is an operand but not the length of a.
abbrev pub IndexCheckIsBest : Type 0
IndexCheckIsBest = (l : Layout) (ls : List Layout) (a : ℕ) (e : Term) (s : Intervals) → IsOperand e → AreApart (side_of e) (Some a) → fits_guard l (checked_guard (Within a e)) ≡ true → intervals.fits s (l ∷ ls) ≡ true → IsBest (Where (l ∷ ls) (checked_guard (Within a e)) true s) (intervals.assume (checked_guard (Within a e)) true s)

-- The state after a[e] = f is best, where e and f are operands and e is not the length of a.
abbrev pub WriteIsBest : Type 0
WriteIsBest = (l : Layout) (ls : List Layout) (a : ℕ) (e f : Term) (s : Intervals) → IsOperand e → IsOperand f → AreApart (side_of e) (Some a) → fits_effect l (WriteElement a e f) ≡ true → intervals.fits s (l ∷ ls) ≡ true → IsBest (After (l ∷ ls) (WriteElement a e f) s) (intervals.post (Does (WriteElement a e f)) s)

-- statements without a condition, an operation or an element: skip, x = 1, x = y, x = len a, x = input, x = p.item, a = array 5,
-- a = b, p = null, p = new, p = q, p = q.next, p.next = q, p.item = x
abbrev pub IsPlain : Effect → Type 0
IsPlain Skip = Unit {0}
IsPlain (Assert g) = ⊥
IsPlain (SetInt x e) = IsOperand e
IsPlain (Input x) = Unit {0}
IsPlain (ReadElement x a e) = ⊥
IsPlain (ReadItem x q) = Unit {0}
IsPlain (MakeArray a e) = IsNumeral e
IsPlain (CopyArray a b) = Unit {0}
IsPlain (WriteElement a e f) = ⊥
IsPlain (SetNull p) = Unit {0}
IsPlain (MakeCell p) = Unit {0}
IsPlain (CopyLink p q) = Unit {0}
IsPlain (ReadNext p q) = Unit {0}
IsPlain (WriteNext p q) = Unit {0}
IsPlain (WriteItem p e) = IsOperand e

-- The state after such a statement is best.
abbrev pub PlainIsBest : Type 0
PlainIsBest = (l : Layout) (ls : List Layout) (e : Effect) (s : Intervals) → IsPlain e → fits_effect l e ≡ true → intervals.fits s (l ∷ ls) ≡ true → IsBest (After (l ∷ ls) e s) (intervals.post (Does e) s)

-- the expression has a value wherever the state describes the variables
abbrev pub NeverFails : Layout → List Layout → Term → Intervals → Type 0
NeverFails l ls e s = (h : Heap) (v : Variables) (vs : List Variables) → Of (l ∷ ls) s h (v ∷ vs) → (z : ℤ) × (value_of v e ≡ Gives z)

-- sums, differences, products and quotients
abbrev pub IsExact : Operator → Type 0
IsExact Add = Unit {0}
IsExact Subtract = Unit {0}
IsExact Multiply = Unit {0}
IsExact Divide = Unit {0}
IsExact Remainder = ⊥

-- sums and differences
abbrev pub IsLinear : Operator → Type 0
IsLinear Add = Unit {0}
IsLinear Subtract = Unit {0}
IsLinear Multiply = ⊥
IsLinear Divide = ⊥
IsLinear Remainder = ⊥

-- a number, or this variable
abbrev pub IsOnly : ℕ → Term → Type 0
IsOnly x t = (y : ℕ) → side_of t ≡ Some y → y ≡ x

-- The state after the assignment of a sum, difference, product or quotient is best, where the operands are not of one variable and the
-- operation never fails.
abbrev pub OperationIsBest : Type 0
OperationIsBest = (l : Layout) (ls : List Layout) (x : ℕ) (o : Operator) (a b : Term) (s : Intervals) → IsExact o → IsOperand a → IsOperand b → AreApart (side_of a) (side_of b) → fits_effect l (SetInt x (Binary o a b)) ≡ true → intervals.fits s (l ∷ ls) ≡ true → NeverFails l ls (Binary o a b) s → IsBest (After (l ∷ ls) (SetInt x (Binary o a b)) s) (intervals.post (Does (SetInt x (Binary o a b))) s)

-- The state after x = x + n and its like is best, also where the sum may fail.
abbrev pub UpdateIsBest : Type 0
UpdateIsBest = (l : Layout) (ls : List Layout) (x : ℕ) (o : Operator) (a b : Term) (s : Intervals) → IsLinear o → IsOperand a → IsOperand b → AreApart (side_of a) (side_of b) → IsOnly x a → IsOnly x b → fits_effect l (SetInt x (Binary o a b)) ≡ true → intervals.fits s (l ∷ ls) ≡ true → IsBest (After (l ∷ ls) (SetInt x (Binary o a b)) s) (intervals.post (Does (SetInt x (Binary o a b))) s)

-- The state after x = -e is best, where e is an operand, and the negation never fails or is of x itself.
abbrev pub NegationIsBest : Type 0
NegationIsBest = (l : Layout) (ls : List Layout) (x : ℕ) (e : Term) (s : Intervals) → IsOperand e → fits_effect l (SetInt x (Negative e)) ≡ true → intervals.fits s (l ∷ ls) ≡ true → NeverFails l ls (Negative e) s ⊎ IsOnly x e → IsBest (After (l ∷ ls) (SetInt x (Negative e)) s) (intervals.post (Does (SetInt x (Negative e))) s)

-- The state after x = a[e] is best, where e is an operand but not the length of a.
abbrev pub ReadIsBest : Type 0
ReadIsBest = (l : Layout) (ls : List Layout) (x a : ℕ) (e : Term) (s : Intervals) → IsOperand e → AreApart (side_of e) (Some a) → fits_effect l (ReadElement x a e) ≡ true → intervals.fits s (l ∷ ls) ≡ true → IsBest (After (l ∷ ls) (ReadElement x a e) s) (intervals.post (Does (ReadElement x a e)) s)

-- int arguments that are operands
abbrev pub AreOperands : List Argument → Type 0
AreOperands [] = Unit {0}
AreOperands (IntArgument e ∷ more) = IsOperand e × AreOperands more
AreOperands (ArrayArgument a ∷ more) = AreOperands more
AreOperands (LinkArgument p ∷ more) = AreOperands more

-- The state at the start of a procedure is best, where the int arguments of the call are operands.
abbrev pub EnterIsBest : Type 0
EnterIsBest =
    (i : Invoke) (l : Layout) (ls : List Layout) (s : Intervals) → AreOperands i.entering.arguments → fits_invoke l i ≡ true → intervals.fits s (l ∷ ls) ≡ true → IsBest (Entered (l ∷ ls) i.entering s) (intervals.enter i.entering s)

-- The state after a call is best: what it takes back goes to its slot.
abbrev pub LeaveIsBest : Type 0
LeaveIsBest =
    (i : Invoke) (l : Layout) (ls : List Layout) (s t : Intervals) → fits_invoke l i ≡ true → intervals.fits s (l ∷ ls) ≡ true → intervals.fits t (i.entering.layout ∷ l ∷ ls) ≡ true → IsBest (Returned i.entering.layout (l ∷ ls) i.returning s t) (intervals.leave i.returning s t)
