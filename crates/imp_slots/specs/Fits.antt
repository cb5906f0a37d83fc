-- What a checker guarantees of a program: slots are of the layouts with their kinds, a call is of an earlier procedure with
-- arguments that fit it, numbers are at least 1 and stand once, and each break has a loop of its procedure around it.
use Rattle.std.specs.Prelude.{◌≡◌, ◌≢◌, ℕ, ◌^◌, ◌<◌, nat_lt, List, [], ◌∷◌, ◌++◌, length, map, drop, slice_get, Option, Some, None, Bool, true, false, not, ◌&&◌, ◌||◌, MatchOption}
use Rattle.imp_slots.specs.Plain.{Numeric, Layout, Term, Literal, Slot, Length, Negative, Binary, Guard, Compare, CompareLinks, Not, And, Or, Effect, Skip, Assert, SetInt, Input, ReadElement, ReadItem, MakeArray, CopyArray, WriteElement, SetNull, MakeCell, CopyLink, ReadNext, WriteNext, WriteItem, Argument, IntArgument, ArrayArgument, LinkArgument, Returning, NumericResult, LinkResult, Invoke, Code, Stop, Simple, If, While, Call, Break, Routine, code_numbers}

-- a numeric slot that is there, an array or an int
abbrev pub is_kind : (is_array : Bool) → Option Numeric → Bool
is_kind is_array None = false
is_kind true (Some n) = n.is_array
is_kind false (Some n) = not n.is_array

abbrev pub is_int : Layout → ℕ → Bool
is_int l x = is_kind false (slice_get l.numbers x)

abbrev pub is_array : Layout → ℕ → Bool
is_array l a = is_kind true (slice_get l.numbers a)

abbrev pub is_link : Layout → ℕ → Bool
is_link l p = nat_lt p (length l.links)

-- null, or a link slot
abbrev pub is_side : Layout → Option ℕ → Bool
is_side l None = true
is_side l (Some p) = is_link l p

-- Slots are of the layout with their kinds, and numbers are below 2^63.
unfoldable pub fits_term : Layout → Term → Bool
fits_term l (Literal n) = nat_lt n (2 ^ 63)
fits_term l (Slot x) = is_int l x
fits_term l (Length a) = is_array l a
fits_term l (Negative e) = fits_term l e
fits_term l (Binary o a b) = fits_term l a && fits_term l b

unfoldable pub fits_guard : Layout → Guard → Bool
fits_guard l (Compare r a b) = fits_term l a && fits_term l b
fits_guard l (CompareLinks equal p q) = is_side l p && is_side l q
fits_guard l (Not g) = fits_guard l g
fits_guard l (And g h) = fits_guard l g && fits_guard l h
fits_guard l (Or g h) = fits_guard l g && fits_guard l h

unfoldable pub fits_effect : Layout → Effect → Bool
fits_effect l Skip = true
fits_effect l (Assert g) = fits_guard l g
fits_effect l (SetInt x e) = is_int l x && fits_term l e
fits_effect l (Input x) = is_int l x
fits_effect l (ReadElement x a e) = is_int l x && (is_array l a && fits_term l e)
fits_effect l (ReadItem x q) = is_int l x && is_link l q
fits_effect l (MakeArray a e) = is_array l a && fits_term l e
fits_effect l (CopyArray a b) = is_array l a && is_array l b
fits_effect l (WriteElement a e f) = is_array l a && (fits_term l e && fits_term l f)
fits_effect l (SetNull p) = is_link l p
fits_effect l (MakeCell p) = is_link l p
fits_effect l (CopyLink p q) = is_link l p && is_link l q
fits_effect l (ReadNext p q) = is_link l p && is_link l q
fits_effect l (WriteNext p q) = is_link l p && is_link l q
fits_effect l (WriteItem p e) = is_link l p && fits_term l e

-- The arguments are those of a caller of layout l, and take the callee's first slots of their kinds: numbers and links
-- are the slots that are left for them.
abbrev pub fits_arguments : Layout → List Argument → (numbers : List Numeric) → (links : List (List ℕ)) → Bool
fits_arguments l [] numbers links = true
fits_arguments l (IntArgument e ∷ more) numbers links = is_kind false (slice_get numbers 0) && (fits_term l e && fits_arguments l more (drop 1 numbers) links)
fits_arguments l (ArrayArgument a ∷ more) numbers links = is_kind true (slice_get numbers 0) && (is_array l a && fits_arguments l more (drop 1 numbers) links)
fits_arguments l (LinkArgument p ∷ more) numbers links = nat_lt 0 (length links) && (is_side l p && fits_arguments l more numbers (drop 1 links))

-- the result's slot is of the callee's layout, and the slot that takes it of the caller's, with the same kind
abbrev pub fits_returning : (callee caller : Layout) → Option Returning → Bool
fits_returning callee l None = true
fits_returning callee l (Some (NumericResult to from)) = (is_int callee from && is_int l to) || (is_array callee from && is_array l to)
fits_returning callee l (Some (LinkResult to from)) = is_link callee from && is_link l to

-- a call by a procedure of layout l
unfoldable pub fits_invoke : Layout → Invoke → Bool
fits_invoke l i = fits_arguments l i.entering.arguments i.entering.layout.numbers i.entering.layout.links && fits_returning i.entering.layout l i.returning

-- a call of this routine, if there is one
abbrev pub FitsCall : Layout → Invoke → Option Routine → Type 0
FitsCall l i callee = MatchOption callee ⊥ (λ r. (r.layout ≡ i.entering.layout) × (fits_invoke l i ≡ true))

-- Each statement fits the layout, and each call is of one of the routines before.
abbrev pub FitsCode : (before : List Routine) → Layout → Code → Type 0
FitsCode before l Stop = Unit {0}
FitsCode before l (Simple n e r) = (fits_effect l e ≡ true) × FitsCode before l r
FitsCode before l (If n g t e r) = (fits_guard l g ≡ true) × FitsCode before l t × FitsCode before l e × FitsCode before l r
FitsCode before l (While n g b r) = (fits_guard l g ≡ true) × FitsCode before l b × FitsCode before l r
FitsCode before l (Call n i q r) = FitsCall l i (slice_get before q) × FitsCode before l r
FitsCode before l (Break n r) = FitsCode before l r

-- whether a block holds a break that leaves the loop around the block
abbrev pub breaks : Code → Bool
breaks Stop = false
breaks (Simple n e r) = breaks r
breaks (If n g t e r) = breaks t || (breaks e || breaks r)
breaks (While n g b r) = breaks r
breaks (Call n i q r) = breaks r
breaks (Break n r) = true

pub record FitsRoutine (before : List Routine) (r : Routine) : Type 0 where
  pub code : FitsCode before r.layout r.code
  pub no_break : breaks r.code ≡ false

-- each of the routines fits those before it
abbrev pub FitInTurn : (before : List Routine) → List Routine → Type 0
FitInTurn before [] = Unit {0}
FitInTurn before (r ∷ rs) = FitsRoutine before r × FitInTurn (before ++ (r ∷ [])) rs

-- no two of these are equal
abbrev pub Absent : {A : Type 0} → A → List A → Type 0
Absent x [] = Unit {0}
Absent x (y ∷ ys) = (x ≢ y) × Absent x ys

abbrev pub Distinct : {A : Type 0} → List A → Type 0
Distinct [] = Unit {0}
Distinct (x ∷ xs) = Absent x xs × Distinct xs

-- the numbers of a program's statements, in the order of the text
abbrev pub routine_numbers : List Routine → List ℕ
routine_numbers [] = []
routine_numbers (r ∷ rs) = code_numbers r.code ++ routine_numbers rs

-- A program that a checker lets through.
pub record IsChecked (program : List Routine) : Type 0 where
  pub some : 0 < length program
  pub fit : FitInTurn [] program
  pub numbers_once : Distinct (routine_numbers program)
  pub no_zero : Absent 0 (routine_numbers program)
  pub names_once : Distinct (map (λ (r : Routine). r.name) program)
