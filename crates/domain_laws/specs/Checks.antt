-- Checks of statements, and negation.
use Rattle.std.specs.Prelude.{ℕ, Option, Some, None, Bool, true, false, not}
use Rattle.imp_syntax.specs.declared.words.Relation.{Relation}
use Rattle.imp_syntax.specs.declared.words.Relation.TheVariants.{Equal, NotEqual, Less, AtMost, Greater, AtLeast}
use Rattle.imp_slots.specs.Plain.{Term, Literal, Length, Guard, Compare, CompareLinks, Not, And, Or, Act, DoBreak, Does, Effect, Skip, Assert, SetInt, Input, ReadElement, ReadItem, MakeArray, CopyArray, WriteElement, SetNull, MakeCell, CopyLink, ReadNext, WriteNext, WriteItem}
use Rattle.imp_words.specs.declared.fault.FaultKind.{FaultKind}
use Rattle.imp_words.specs.declared.fault.FaultKind.TheVariants.{Index, Null, Assert as Failed}
use Rattle.imp_words.specs.declared.findings.Check as asked
use Rattle.imp_words.specs.declared.findings.Check.TheVariants as asks

-- What must hold before a statement that it does not fail, and how it fails where it does not hold.
pub data Check : Type 0 where
  Within : (a : ℕ) → Term → Check
  IsCell : (p : ℕ) → Check
  Claims : Guard → Check

abbrev pub check_of : Effect → Option Check
check_of Skip = None
check_of (Assert g) = Some (Claims g)
check_of (SetInt x e) = None
check_of (Input x) = None
check_of (ReadElement x a e) = Some (Within a e)
check_of (ReadItem x q) = Some (IsCell q)
check_of (MakeArray a e) = None
check_of (CopyArray a b) = None
check_of (WriteElement a e f) = Some (Within a e)
check_of (SetNull p) = None
check_of (MakeCell p) = None
check_of (CopyLink p q) = None
check_of (ReadNext p q) = Some (IsCell q)
check_of (WriteNext p q) = Some (IsCell p)
check_of (WriteItem p e) = Some (IsCell p)

-- what a check asks
abbrev pub kind_of : Check → asked.Check
kind_of (Within a e) = asks.Bounds
kind_of (IsCell p) = asks.Null
kind_of (Claims g) = asks.Assert

abbrev pub kind_if : Option Check → Option asked.Check
kind_if None = None
kind_if (Some c) = Some (kind_of c)

-- what the check of a statement asks, if it has one
abbrev pub kind_in : Act → Option asked.Check
kind_in DoBreak = None
kind_in (Does e) = kind_if (check_of e)

-- the check as a guard: 0 <= e && e < len a, p != null, or what is claimed
abbrev pub checked_guard : Check → Guard
checked_guard (Within a e) = And (Compare AtMost (Literal 0) e) (Compare Less e (Length a))
checked_guard (IsCell p) = CompareLinks false (Some p) None
checked_guard (Claims g) = g

-- the fault of a statement whose check does not hold
abbrev pub fault_of : Check → FaultKind
fault_of (Within a e) = Index
fault_of (IsCell p) = Null
fault_of (Claims g) = Failed

-- the relation that holds exactly where the other does not
abbrev pub opposite : Relation → Relation
opposite Equal = NotEqual
opposite NotEqual = Equal
opposite Less = AtLeast
opposite AtMost = Greater
opposite Greater = AtMost
opposite AtLeast = Less

-- A guard with this truth value as a guard that holds, where Not stands nowhere: the negation is pushed inwards.
abbrev pub positive : Bool → Guard → Guard
positive true (Compare r a b) = Compare r a b
positive false (Compare r a b) = Compare (opposite r) a b
positive true (CompareLinks equal p q) = CompareLinks equal p q
positive false (CompareLinks equal p q) = CompareLinks (not equal) p q
positive true (Not g) = positive false g
positive false (Not g) = positive true g
positive true (And g h) = And (positive true g) (positive true h)
positive false (And g h) = Or (positive false g) (positive false h)
positive true (Or g h) = Or (positive true g) (positive true h)
positive false (Or g h) = And (positive false g) (positive false h)
