-- The thresholds of a procedure, at which widening stops.
use Rattle.std.specs.Prelude.{ℕ, ℤ, pos, negsuc, neg_ℤ, int_lt, ◌<ℤ◌, FitsSigned, List, [], ◌∷◌, ◌++◌, if◌then◌else◌}
use Rattle.std.specs.Int.{w64}
use Rattle.imp_slots.specs.Plain.{Term, Literal, Slot, Length, Negative, Binary, Guard, Compare, CompareLinks, Not, And, Or, Effect, Skip, Assert, SetInt, Input, ReadElement, ReadItem, MakeArray, CopyArray, WriteElement, SetNull, MakeCell, CopyLink, ReadNext, WriteNext, WriteItem, Argument, IntArgument, ArrayArgument, LinkArgument, Code, Stop, Simple, If, While, Call, Break, Routine}
use Rattle.imp_chains.specs.declared.widening.Widening.{Widening}

-- The numbers that stand in a term, a guard, a statement, a block.
abbrev pub term_literals : Term → List ℕ
term_literals (Literal n) = n ∷ []
term_literals (Slot x) = []
term_literals (Length a) = []
term_literals (Negative e) = term_literals e
term_literals (Binary o a b) = term_literals a ++ term_literals b

abbrev pub guard_literals : Guard → List ℕ
guard_literals (Compare r a b) = term_literals a ++ term_literals b
guard_literals (CompareLinks equal p q) = []
guard_literals (Not g) = guard_literals g
guard_literals (And g h) = guard_literals g ++ guard_literals h
guard_literals (Or g h) = guard_literals g ++ guard_literals h

abbrev pub effect_literals : Effect → List ℕ
effect_literals Skip = []
effect_literals (Assert g) = guard_literals g
effect_literals (SetInt x e) = term_literals e
effect_literals (Input x) = []
effect_literals (ReadElement x a e) = term_literals e
effect_literals (ReadItem x q) = []
effect_literals (MakeArray a e) = term_literals e
effect_literals (CopyArray a b) = []
effect_literals (WriteElement a e f) = term_literals e ++ term_literals f
effect_literals (SetNull p) = []
effect_literals (MakeCell p) = []
effect_literals (CopyLink p q) = []
effect_literals (ReadNext p q) = []
effect_literals (WriteNext p q) = []
effect_literals (WriteItem p e) = term_literals e

abbrev pub argument_literals : List Argument → List ℕ
argument_literals [] = []
argument_literals (IntArgument e ∷ more) = term_literals e ++ argument_literals more
argument_literals (ArrayArgument a ∷ more) = argument_literals more
argument_literals (LinkArgument p ∷ more) = argument_literals more

abbrev pub literals : Code → List ℕ
literals Stop = []
literals (Simple n e r) = effect_literals e ++ literals r
literals (If n g t e r) = guard_literals g ++ (literals t ++ (literals e ++ literals r))
literals (While n g b r) = guard_literals g ++ (literals b ++ literals r)
literals (Call n i q r) = argument_literals i.entering.arguments ++ literals r
literals (Break n r) = literals r

-- a number in its place among rising ones, once
abbrev pub with_threshold : ℤ → List ℤ → List ℤ
with_threshold z [] = z ∷ []
with_threshold z (x ∷ xs) = if int_lt z x then z ∷ x ∷ xs else if int_lt x z then x ∷ with_threshold z xs else x ∷ xs

-- L and -L for each of the numbers, beside -1, 0 and 1
abbrev pub thresholds_of : List ℕ → List ℤ
thresholds_of [] = negsuc 0 ∷ pos 0 ∷ pos 1 ∷ []
thresholds_of (n ∷ ns) = with_threshold (pos n) (with_threshold (neg_ℤ (pos n)) (thresholds_of ns))

abbrev pub thresholds : Widening → Routine → List ℤ
thresholds w r = if w.thresholds then thresholds_of (literals r.code) else []

-- thresholds rise, each once, and are integers of 64 bits
abbrev pub IsRising : List ℤ → Type 0
IsRising [] = Unit {0}
IsRising (x ∷ []) = FitsSigned w64 x
IsRising (x ∷ y ∷ zs) = FitsSigned w64 x × (x <ℤ y) × IsRising (y ∷ zs)
