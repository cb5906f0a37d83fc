-- The operations of the octagons: A. Miné, "The Octagon Abstract Domain", 2006. Each closes the states that it is given, and
-- its result; only widening keeps its left matrix as it is.
use Rattle.std.specs.Prelude.{ℕ, ◌+◌, ◌*◌, ◌/◌, ◌%◌, eqb, Bool, ◌||◌, ℤ, pos, negsuc, ◌+ℤ◌, ◌-ℤ◌, int_le, int_lt, if◌then◌else◌, List, [], ◌∷◌, map, take, slice_get, Option, Some, None}
use Rattle.std.specs.Bool.{beq}
use Rattle.std.specs.Cmp.Lexicographic.{pointwise}
use Rattle.dbm_core.specs.Half.{HalfMatrix, entry}
use Rattle.dbm_core.specs.Operations.{joined, widened}
use Rattle.dbm_core.specs.Tables.{matrix_of}
use Rattle.dbm_close.specs.CloseOf.{close_of}
use Rattle.dbm_close.specs.declared.closed.Closed.{Closed}
use Rattle.dbm_close.specs.declared.closed.Closed.TheVariants.{Empty, Matrix}
use Rattle.imp_syntax.specs.declared.words.Relation.{Relation}
use Rattle.imp_syntax.specs.declared.words.Relation.TheVariants.{Equal, NotEqual, Less, AtMost, Greater, AtLeast}
use Rattle.imp_slots.specs.Plain.{Numeric, Layout, Term, Literal, Slot, Length, Negative, Binary, Guard, Effect, Skip, Assert, SetInt, Input, ReadElement, ReadItem, MakeArray, CopyArray, WriteElement, SetNull, MakeCell, CopyLink, ReadNext, WriteNext, WriteItem, Act, DoBreak, Does, Argument, IntArgument, ArrayArgument, LinkArgument, Entering, Returning, NumericResult, LinkResult}
use Rattle.num_bounds.specs.Bounds.{Bounds}
use Rattle.num_bounds.specs.Operations.{cut_of}
use Rattle.domain_laws.specs.Checks.{check_of}
use Rattle.domain_laws.specs.Guards.{assumed, past_check, verdict_by}
use Rattle.imp_words.specs.declared.verdict.Verdict.{Verdict}
use Rattle.dom_numeric.specs.Measures.{longest}
use Rattle.dom_numeric.specs.Ranges.{if_range}
use Rattle.dom_octagon_meaning.specs.declared.form.Form.{Form}
use Rattle.dom_octagon_meaning.specs.declared.source.ArgumentSource.{ArgumentSource}
use Rattle.dom_octagon_meaning.specs.declared.source.ArgumentSource.TheVariants.{FromSlot, InRange}
use Rattle.dom_octagon_meaning.specs.Forms.{form_of, slot_form}
use Rattle.dom_octagon_meaning.specs.Matrices.{assigned, meets_range, side_at_least, side_at_most, with_difference, without}
use Rattle.dom_octagon_meaning.specs.Ranges.{range_at, range_of}
use Rattle.dom_octagon_meaning.specs.States.{unless_empty, closed, dead}

-- Empty where a range is needed and there is none
abbrev pub needs : Option Bounds → (Bounds → Closed) → Closed
needs None f = Empty
needs (Some r) f = f r

-- the kinds of the slots of a layout. A program has at most 16 numeric slots; of what has more the others are not described.
abbrev pub kinds_of : List Numeric → List Bool
kinds_of ks = take 16 (map (λ (k : Numeric). k.is_array) ks)

-- ---- joins and widenings

abbrev pub same_kinds : HalfMatrix → HalfMatrix → Bool
same_kinds a b = pointwise beq a.kinds b.kinds

-- the greater bound at each pair; of frames of different kinds the left matrix
abbrev pub join_matrices : HalfMatrix → HalfMatrix → Closed
join_matrices a b = if same_kinds a b then close_of (matrix_of a.kinds (joined a b)) else Matrix a

-- Empty is neutral
abbrev pub join_closed : Closed → Closed → Closed
join_closed Empty t = t
join_closed (Matrix a) Empty = Matrix a
join_closed (Matrix a) (Matrix b) = join_matrices a b

unfoldable pub join : Closed → Closed → Closed
join s t = join_closed (closed s) (closed t)

abbrev pub widen_matrices : List ℤ → HalfMatrix → HalfMatrix → Closed
widen_matrices thresholds a b = if same_kinds a b then Matrix (matrix_of a.kinds (widened thresholds a b)) else Matrix a

abbrev pub widen_closed : List ℤ → Closed → Closed → Closed
widen_closed thresholds Empty t = t
widen_closed thresholds (Matrix a) Empty = Matrix a
widen_closed thresholds (Matrix a) (Matrix b) = widen_matrices thresholds a b

-- the left state as it is by the right one closed; neither is the result closed
unfoldable pub widen : List ℤ → Closed → Closed → Closed
widen thresholds s t = widen_closed thresholds s (closed t)

-- ---- comparisons, of sides with the ranges l and r

abbrev pub less_matrix : HalfMatrix → (a b : Option Form) → (l r : Bounds) → HalfMatrix
less_matrix m (Some f) (Some g) l r = with_difference m f g (negsuc 0)
less_matrix m (Some f) None l r = side_at_most m (Some f) (r.hi -ℤ pos 1)
less_matrix m None b l r = side_at_least m b (l.lo +ℤ pos 1)

abbrev pub at_most_matrix : HalfMatrix → (a b : Option Form) → (l r : Bounds) → HalfMatrix
at_most_matrix m (Some f) (Some g) l r = with_difference m f g (pos 0)
at_most_matrix m (Some f) None l r = side_at_most m (Some f) r.hi
at_most_matrix m None b l r = side_at_least m b l.lo

abbrev pub less : HalfMatrix → (a b : Option Form) → (l r : Bounds) → Closed
less m a b l r = if int_le r.hi l.lo then Empty else close_of (less_matrix m a b l r)

abbrev pub at_most : HalfMatrix → (a b : Option Form) → (l r : Bounds) → Closed
at_most m a b l r = if int_lt r.hi l.lo then Empty else close_of (at_most_matrix m a b l r)

-- both at most and at least, closed once
abbrev pub equal : HalfMatrix → (a b : Option Form) → (l r : Bounds) → Closed
equal m a b l r = if int_lt r.hi l.lo || int_lt l.hi r.lo then Empty else close_of (at_most_matrix (at_most_matrix m a b l r) b a r l)

abbrev pub related : Relation → HalfMatrix → (a b : Option Form) → (l r : Bounds) → Closed
related Equal m a b l r = equal m a b l r
related NotEqual m a b l r = join (less m a b l r) (less m b a r l)
related Less m a b l r = less m a b l r
related AtMost m a b l r = at_most m a b l r
related Greater m a b l r = less m b a r l
related AtLeast m a b l r = at_most m b a r l

abbrev pub compare_terms : Relation → Term → Term → HalfMatrix → Closed
compare_terms c a b m = needs (range_of m a) (λ l. needs (range_of m b) (λ r. related c m (form_of a) (form_of b) l r))

unfoldable pub compare : Relation → Term → Term → Closed → Closed
compare c a b s = unless_empty (closed s) (compare_terms c a b)

-- comparisons of links say nothing of numbers
abbrev pub compare_links : Bool → Option ℕ → Option ℕ → Closed → Closed
compare_links same p q s = closed s

unfoldable pub assume : Guard → Bool → Closed → Closed
assume = assumed compare compare_links join

-- ---- simple statements

-- x = e
abbrev pub does_set : ℕ → Term → HalfMatrix → Closed
does_set x e m = needs (range_of m e) (λ r. close_of (assigned m x (form_of e) r))

-- a = array e: the length is that of e, and meets e's range within the extremes of lengths
abbrev pub does_make : ℕ → Term → HalfMatrix → Closed
does_make a e m = needs (range_of m e) (λ r. needs (cut_of r (pos 0) longest) (λ c. close_of (meets_range (assigned m a (form_of e) r) a c)))

-- a = b, of arrays
abbrev pub does_copy : ℕ → ℕ → HalfMatrix → Closed
does_copy a b m = close_of (assigned m a (Some (slot_form b)) (range_at m b))

-- no more than that e has a range
abbrev pub does_need : Term → HalfMatrix → Closed
does_need e m = needs (range_of m e) (λ r. Matrix m)

-- what a simple statement does after its check, of a closed matrix
unfoldable pub does : Effect → HalfMatrix → Closed
does Skip m = Matrix m
does (Assert g) m = Matrix m
does (SetInt x e) m = does_set x e m
does (Input x) m = close_of (without m x)
does (ReadElement x a e) m = close_of (without m x)
does (ReadItem x q) m = close_of (without m x)
does (MakeArray a e) m = does_make a e m
does (CopyArray a b) m = does_copy a b m
does (WriteElement a e f) m = does_need f m
does (SetNull p) m = Matrix m
does (MakeCell p) m = Matrix m
does (CopyLink p q) m = Matrix m
does (ReadNext p q) m = Matrix m
does (WriteNext p q) m = Matrix m
does (WriteItem p e) m = does_need e m

unfoldable pub post : Act → Closed → Closed
post DoBreak s = Empty
post (Does e) s = unless_empty (closed (past_check assume (check_of e) s)) (does e)

-- ---- layouts and calls

abbrev pub in_front : ArgumentSource → Option (List ArgumentSource) → Option (List ArgumentSource)
in_front r None = None
in_front r (Some rs) = Some (r ∷ rs)

-- any number of the range of an expression
abbrev pub ranged_source : HalfMatrix → Term → Option ArgumentSource
ranged_source m e = if_range (range_of m e) (λ r. Some (InRange r))

-- the source of an int argument: the slot of a variable or of `len a`, else its range
abbrev pub source_of : HalfMatrix → Term → Option ArgumentSource
source_of m (Literal n) = ranged_source m (Literal n)
source_of m (Slot x) = Some (FromSlot x)
source_of m (Length a) = Some (FromSlot a)
source_of m (Negative e) = ranged_source m (Negative e)
source_of m (Binary o a b) = ranged_source m (Binary o a b)

abbrev pub with_source : Option ArgumentSource → Option (List ArgumentSource) → Option (List ArgumentSource)
with_source None o = None
with_source (Some s) o = in_front s o

-- the sources of the arguments that take numeric slots, none where one has no range
abbrev pub sources : HalfMatrix → List Argument → Option (List ArgumentSource)
sources m [] = Some []
sources m (IntArgument e ∷ more) = with_source (source_of m e) (sources m more)
sources m (ArrayArgument a ∷ more) = in_front (FromSlot a) (sources m more)
sources m (LinkArgument p ∷ more) = sources m more

-- the bound between two nodes of the callee, before those that ranges give: entries are copied where both slots are the
-- caller's, slots without a source are 0
abbrev pub copied : HalfMatrix → (a b : ℕ) → Option ArgumentSource → Option ArgumentSource → Option ℤ
copied m i j (Some (FromSlot x)) (Some (FromSlot y)) = entry m (2 * x + i % 2) (2 * y + j % 2)
copied m i j (Some (FromSlot x)) (Some (InRange r)) = None
copied m i j (Some (FromSlot x)) None = None
copied m i j (Some (InRange r)) t = None
copied m i j None (Some t) = None
copied m i j None None = Some (pos 0)

abbrev pub entered : HalfMatrix → List ArgumentSource → ℕ → ℕ → Option ℤ
entered m ss i j = if eqb i j then Some (pos 0) else copied m i j (slice_get ss (i / 2)) (slice_get ss (j / 2))

-- the slots from k on that have a range meet it
abbrev pub meet_sources : HalfMatrix → ℕ → List ArgumentSource → HalfMatrix
meet_sources m k [] = m
meet_sources m k (FromSlot x ∷ ss) = meet_sources m (k + 1) ss
meet_sources m k (InRange r ∷ ss) = meet_sources (meets_range m k r) (k + 1) ss

abbrev pub entered_by : HalfMatrix → List Numeric → Option (List ArgumentSource) → Closed
entered_by m ks None = Empty
entered_by m ks (Some ss) = close_of (meet_sources (matrix_of (kinds_of ks) (entered m ss)) 0 ss)

unfoldable pub enter : Entering → Closed → Closed
enter e s = unless_empty (closed s) (λ m. entered_by m e.layout.numbers (sources m e.arguments))

-- all slots 0
unfoldable pub init : Layout → Closed
init l = close_of (matrix_of (kinds_of l.numbers) (λ i j. Some (pos 0)))

-- the slot that takes the result meets its range
abbrev pub returned : Option Returning → HalfMatrix → HalfMatrix → Closed
returned None m d = Matrix m
returned (Some (NumericResult to from)) m d = close_of (meets_range (without m to) to (range_at d from))
returned (Some (LinkResult to from)) m d = Matrix m

unfoldable pub leave : Option Returning → Closed → Closed → Closed
leave o s d = unless_empty (closed s) (λ m. unless_empty (closed d) (returned o m))

abbrev pub shed : Closed → Closed
shed s = closed s

unfoldable pub check : Act → Closed → Verdict
check a s = verdict_by assume dead a (closed s)
