-- The uses of cells, on lists that are threaded through the links of the cells.
use Rattle.std.specs.Prelude.{◌≡◌, ◌≢◌, ℕ, ◌+◌, ◌<◌, List, [], length, sum, map, Option, Some, None, slice_get, slice_index_or, slice_set, IsSome}
use Rattle.daig_graph.specs.declared.graph.Use.{Use}
use Rattle.daig_graph.specs.declared.links.Beside.{Beside}
use Rattle.daig_graph.specs.declared.links.Links.{Links}
use Rattle.daig_graph.specs.Linked.{Member, AreLinked}
use Rattle.daig_graph.specs.Walks.{walk}
use Rattle.smallvec.specs.SmallVec.{HasRoomFor}

-- the inputs of a number
abbrev pub inputs_at : List (List ℕ) → ℕ → List ℕ
inputs_at inputs n = slice_index_or inputs n []

abbrev pub first_of : Option Links → Option Use
first_of None = None
first_of (Some l) = l.first

-- the first use of a number
abbrev pub first_at : List Links → ℕ → Option Use
first_at links x = first_of (slice_get links x)

abbrev pub beside_of : Option Links → List Beside
beside_of None = []
beside_of (Some l) = l.beside.items

-- the neighbours of the uses that a number is, from left to right
abbrev pub besides : List Links → ℕ → List Beside
besides links n = beside_of (slice_get links n)

-- the neighbours of a use
abbrev pub beside_at : List Links → Use → Option Beside
beside_at links u = slice_get (besides links u.cell) u.place

abbrev pub next_of : Option Beside → Option Use
next_of None = None
next_of (Some b) = b.next

-- the use after a use
abbrev pub next_at : List Links → Use → Option Use
next_at links u = next_of (beside_at links u)

-- how many uses have neighbours
abbrev pub use_count : List Links → ℕ
use_count links = sum (map (λ (l : Links). length l.beside.items) links)

-- what follows from a use on
abbrev pub uses_from : List Links → Option Use → List Use
uses_from links at = walk (next_at links) (use_count links) at

abbrev pub member_of : Option ℕ → Option Beside → Option (Member Use)
member_of None b = None
member_of (Some x) None = None
member_of (Some x) (Some b) = Some (record { list = x; before = b.before; next = b.next })

-- a use as an item of the list of its input's uses
abbrev pub use_member : List (List ℕ) → List Links → Use → Option (Member Use)
use_member inputs links u = member_of (slice_get (inputs_at inputs u.cell) u.place) (beside_at links u)

-- The uses of these inputs stand on the lists of the inputs, each once.
pub record AreThreaded (inputs : List (List ℕ)) (links : List Links) : Type 0 where
  pub places : length links ≡ length inputs
  pub as_many : (n : ℕ) → length (besides links n) ≡ length (inputs_at inputs n)
  pub within : (n i x : ℕ) → slice_get (inputs_at inputs n) i ≡ Some x → x < length inputs
  pub linked : AreLinked (use_member inputs links) (first_at links)

-- A use, the last of its cell, is put before the list of a number.
pub record PutsUse (old new : List Links) (u : Use) (input : ℕ) : Type 0 where
  pub places : length new ≡ length old
  pub longer : length (besides new u.cell) ≡ length (besides old u.cell) + 1
  pub as_long : (n : ℕ) → n ≢ u.cell → length (besides new n) ≡ length (besides old n)
  pub first : first_at new input ≡ Some u
  pub firsts : (q : ℕ) → q ≢ input → first_at new q ≡ first_at old q
  pub here : beside_at new u ≡ Some (record { before = None; next = first_at old input })
  pub after : (k : Use) (b : Beside) → first_at old input ≡ Some k → beside_at old k ≡ Some b → beside_at new k ≡ Some (record b { before = Some u })
  pub others : (k : Use) → k ≢ u → first_at old input ≢ Some k → beside_at new k ≡ beside_at old k

-- A use, the last of its cell, with these neighbours is taken out of the list of a number.
pub record TakesUse (old new : List Links) (u : Use) (b : Beside) (input : ℕ) : Type 0 where
  pub places : length new ≡ length old
  pub shorter : length (besides old u.cell) ≡ length (besides new u.cell) + 1
  pub as_long : (n : ℕ) → n ≢ u.cell → length (besides new n) ≡ length (besides old n)
  pub head : b.before ≡ None → first_at new input ≡ b.next
  pub heads : (q : ℕ) → (b.before ≡ None → q ≢ input) → first_at new q ≡ first_at old q
  pub gone : beside_at new u ≡ None
  pub before : (k : Use) (c : Beside) → b.before ≡ Some k → beside_at old k ≡ Some c → beside_at new k ≡ Some (record c { next = b.next })
  pub next : (k : Use) (c : Beside) → b.next ≡ Some k → beside_at old k ≡ Some c → beside_at new k ≡ Some (record c { before = b.before })
  pub others : (k : Use) → k ≢ u → b.before ≢ Some k → b.next ≢ Some k → beside_at new k ≡ beside_at old k

-- all of these are below a bound
abbrev pub AllBelow : List ℕ → ℕ → Type 0
AllBelow xs bound = (i x : ℕ) → slice_get xs i ≡ Some x → x < bound

-- A number has room for the neighbours of so many uses more.
abbrev pub HasRoom : List Links → ℕ → ℕ → Type 0
HasRoom links n count = (l : Links) → slice_get links n ≡ Some l → HasRoomFor l.beside count

-- Both have as many numbers, and as many neighbours at each.
pub record HaveOneShape (old new : List Links) : Type 0 where
  pub places : length new ≡ length old
  pub as_long : (n : ℕ) → length (besides new n) ≡ length (besides old n)
  pub room : (n count : ℕ) → HasRoom old n count → HasRoom new n count

-- Both have the same first uses and the same neighbours.
pub record AreSame (old new : List Links) : Type 0 where
  pub places : length new ≡ length old
  pub firsts : (n : ℕ) → first_at new n ≡ first_at old n
  pub besides : (n : ℕ) → besides new n ≡ besides old n

-- The neighbours of a use are uses, and others than it.
pub record HasNeighbours (links : List Links) (u : Use) (b : Beside) : Type 0 where
  pub before : (k : Use) → b.before ≡ Some k → IsSome (beside_at links k) × (k ≢ u)
  pub next : (k : Use) → b.next ≡ Some k → IsSome (beside_at links k) × (k ≢ u)
  pub apart : (k : Use) → b.before ≡ Some k → b.next ≢ Some k

-- The neighbours of a use, if it has a place, are uses, and others than it.
abbrev pub CanBeTaken : List Links → Use → Type 0
CanBeTaken links u = (b : Beside) → beside_at links u ≡ Some b → HasNeighbours links u b

-- A use, the last of its cell, is taken out of the list of a number, between the neighbours that it has.
abbrev pub TakesOut : List Links → List Links → Use → ℕ → Type 0
TakesOut old new u input = (b : Beside) → beside_at old u ≡ Some b → TakesUse old new u b input

-- The uses of some inputs stand on their lists; those of a cell are these.
abbrev pub AreThreadedWith : List Links → ℕ → List ℕ → Type 0
AreThreadedWith links cell xs = (inputs : List (List ℕ)) × AreThreaded inputs links × (cell < length inputs) × (inputs_at inputs cell ≡ xs)

-- Of the uses that stand on lists, those of a cell were these and become those.
abbrev pub Threads : List Links → List Links → ℕ → List ℕ → List ℕ → Type 0
Threads old new cell xs ys = (inputs : List (List ℕ)) → AreThreaded inputs old → inputs_at inputs cell ≡ xs → AreThreaded (slice_set inputs cell ys) new
