-- The fault points of terms, guards, statements and calls, in the order of evaluation.
use Rattle.std.specs.Prelude.{List, [], ◌∷◌, ◌++◌, map}
use Rattle.imp_syntax.specs.declared.words.Operator.{Operator}
use Rattle.imp_syntax.specs.declared.words.Operator.TheVariants.{Add, Subtract, Multiply, Divide, Remainder}
use Rattle.imp_syntax.specs.declared.words.Relation.TheVariants.{NotEqual, AtMost, AtLeast}
use Rattle.imp_slots.specs.Plain.{Term, Literal, Slot, Length, Negative, Binary, Guard, Compare, CompareLinks, Not, And, Or, Effect, Skip, Assert, SetInt, Input, ReadElement, ReadItem, MakeArray, CopyArray, WriteElement, SetNull, MakeCell, CopyLink, ReadNext, WriteNext, WriteItem, Argument, IntArgument, ArrayArgument, LinkArgument}
use Rattle.imp_words.specs.declared.fault.FaultKind.{FaultKind}
use Rattle.imp_words.specs.declared.fault.FaultKind.TheVariants.{Overflow, Zero, Length as BadLength}
use Rattle.domain_laws.specs.Checks.{Check, Within, IsCell, Claims, checked_guard, fault_of}
use Rattle.fault_points.specs.declared.point.FaultPoint.{FaultPoint}

abbrev pub point : FaultKind → Guard → FaultPoint
point k claim = record { kind = k; claim = claim }

-- 2^63 - 1, its opposite, and the least integer of 64 bits
abbrev pub greatest : Term
greatest = Literal 9223372036854775807

abbrev pub lowest : Term
lowest = Negative greatest

abbrev pub least : Term
least = Binary Subtract lowest (Literal 1)

abbrev pub zero : Term
zero = Literal 0

-- a + b lies in 64 bits
abbrev pub sum_fits : Term → Term → Guard
sum_fits a b = And (Or (Compare AtMost b zero) (Compare AtMost a (Binary Subtract greatest b))) (Or (Compare AtLeast b zero) (Compare AtLeast a (Binary Subtract least b)))

-- a - b does
abbrev pub difference_fits : Term → Term → Guard
difference_fits a b = And (Or (Compare AtLeast b zero) (Compare AtMost a (Binary Add greatest b))) (Or (Compare AtMost b zero) (Compare AtLeast a (Binary Add least b)))

-- a * b does: by the signs of a and b, four quotients bound one of them
abbrev pub product_fits : Term → Term → Guard
product_fits a b =
    And
    (And
    (Or (Compare AtMost a zero) (Or (Compare AtMost b zero) (Compare AtMost a (Binary Divide greatest b))))
    (Or (Compare AtMost a zero) (Or (Compare AtLeast b zero) (Compare AtLeast b (Binary Divide least a)))))
    (And
    (Or (Compare AtLeast a zero) (Or (Compare AtMost b zero) (Compare AtLeast a (Binary Divide least b))))
    (Or (Compare AtLeast a zero) (Or (Compare AtLeast b zero) (Compare AtLeast a (Binary Divide greatest b)))))

-- -e does
abbrev pub opposite_fits : Term → Guard
opposite_fits e = Compare AtLeast e lowest

-- a / b does, for b other than 0
abbrev pub quotient_fits : Term → Term → Guard
quotient_fits a b = Or (Compare NotEqual b (Negative (Literal 1))) (Compare AtLeast a lowest)

abbrev pub is_divisor : Term → Guard
is_divisor b = Compare NotEqual b zero

-- e is from 0 to 1,000,000
abbrev pub is_length : Term → Guard
is_length e = And (Compare AtMost zero e) (Compare AtMost e (Literal 1000000))

-- the points of an operator whose operands have their values
abbrev pub operator_points : Operator → Term → Term → List FaultPoint
operator_points Add a b = point Overflow (sum_fits a b) ∷ []
operator_points Subtract a b = point Overflow (difference_fits a b) ∷ []
operator_points Multiply a b = point Overflow (product_fits a b) ∷ []
operator_points Divide a b = point Zero (is_divisor b) ∷ (point Overflow (quotient_fits a b) ∷ [])
operator_points Remainder a b = point Zero (is_divisor b) ∷ (point Overflow (quotient_fits a b) ∷ [])

-- operands from left to right, then the operator
unfoldable pub term_points : Term → List FaultPoint
term_points (Literal n) = []
term_points (Slot x) = []
term_points (Length a) = []
term_points (Negative e) = term_points e ++ (point Overflow (opposite_fits e) ∷ [])
term_points (Binary o a b) = term_points a ++ (term_points b ++ operator_points o a b)

-- a point that is come to where the guard fails
abbrev pub unless : Guard → FaultPoint → FaultPoint
unless g p = point p.kind (Or g p.claim)

-- the right side of && is come to where the left holds, that of || where it fails
unfoldable pub guard_points : Guard → List FaultPoint
guard_points (Compare r a b) = term_points a ++ term_points b
guard_points (CompareLinks equal p q) = []
guard_points (Not g) = guard_points g
guard_points (And g h) = guard_points g ++ map (unless (Not g)) (guard_points h)
guard_points (Or g h) = guard_points g ++ map (unless g) (guard_points h)

-- the point of a statement's check
abbrev pub checked : Check → FaultPoint
checked c = point (fault_of c) (checked_guard c)

unfoldable pub effect_points : Effect → List FaultPoint
effect_points Skip = []
effect_points (Assert g) = guard_points g ++ (checked (Claims g) ∷ [])
effect_points (SetInt x e) = term_points e
effect_points (Input x) = []
effect_points (ReadElement x a e) = term_points e ++ (checked (Within a e) ∷ [])
effect_points (ReadItem x q) = checked (IsCell q) ∷ []
effect_points (MakeArray a e) = term_points e ++ (point BadLength (is_length e) ∷ [])
effect_points (CopyArray a b) = []
effect_points (WriteElement a e f) = (term_points e ++ term_points f) ++ (checked (Within a e) ∷ [])
effect_points (SetNull p) = []
effect_points (MakeCell p) = []
effect_points (CopyLink p q) = []
effect_points (ReadNext p q) = checked (IsCell q) ∷ []
effect_points (WriteNext p q) = checked (IsCell p) ∷ []
effect_points (WriteItem p e) = term_points e ++ (checked (IsCell p) ∷ [])

-- the arguments of a call, from left to right
unfoldable pub argument_points : List Argument → List FaultPoint
argument_points [] = []
argument_points (IntArgument e ∷ more) = term_points e ++ argument_points more
argument_points (ArrayArgument a ∷ more) = argument_points more
argument_points (LinkArgument p ∷ more) = argument_points more
