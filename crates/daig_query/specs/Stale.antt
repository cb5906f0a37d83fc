-- Cells that an edit emptied: what each held, and what it read.
use Rattle.std.specs.Prelude.{◌≡◌, ℕ, List, [], ◌∷◌, map, Option, Some, None, slice_index_or}
use Rattle.std.specs.FinMap.{FinMap, get}
use Rattle.std.specs.Ordering.{nat_cmp}
use Rattle.daig_graph.specs.Cells.{Filled}
use Rattle.daig_graph.specs.Held.{IsIn}
use Rattle.daig_graph.specs.declared.value.Value.TheVariants.{State}
use Rattle.loop_unroll.specs.Iterates.{state_in, value_at}
use Rattle.daig_query.specs.declared.held.Held.{Held}
use Rattle.daig_query.specs.declared.stale.Read.{Read}
use Rattle.daig_query.specs.declared.stale.Reads.{Reads}
use Rattle.daig_query.specs.declared.stale.Reads.TheVariants.{Nothing, One, Two}
use Rattle.daig_query.specs.declared.stale.StaleCell.{StaleCell}

-- the cells that were read, from left to right
abbrev pub read_of : Reads → List Read
read_of Nothing = []
read_of (One a) = a ∷ []
read_of (Two a b) = a ∷ b ∷ []

abbrev pub cells_read : StaleCell → List ℕ
cells_read s = map (λ (r : Read). r.cell) (read_of s.reads)

-- what they held
abbrev pub held_read : StaleCell → List Held
held_read s = map (λ (r : Read). r.held) (read_of s.reads)

-- the stale cells by their numbers, and how many there are at most
pub record Stale : Type 0 where
  pub cells : List (Option StaleCell)
  pub count : ℕ

abbrev pub stale_at : Stale → ℕ → Option StaleCell
stale_at stale n = slice_index_or stale.cells n None

-- none is stale
abbrev pub IsFresh : Stale → Type 0
IsFresh stale = (n : ℕ) → stale_at stale n ≡ None

-- the cells, by their numbers
abbrev pub HeldCells : Type 0
HeldCells = FinMap nat_cmp (Filled Held)

-- A cell held this, and was computed from cells that held these.
pub record IsReadBy (cells : HeldCells) (n : ℕ) (s : StaleCell) : Type 0 where
  pub filled : Filled Held
  pub there : get cells n ≡ Some filled
  pub value : filled.value ≡ State s.held
  pub inputs : filled.inputs ≡ cells_read s
  pub helds : map (λ c. state_in (value_at cells c)) (cells_read s) ≡ map Some (held_read s)

-- Each stale cell was one of these cells, planned for removal, and none of the touched.
abbrev pub AreStaleOf : HeldCells → (order touched : List ℕ) → Stale → Type 0
AreStaleOf cells order touched stale =
    (n : ℕ) (s : StaleCell) → stale_at stale n ≡ Some s → IsReadBy cells n s × IsIn order n × (IsIn touched n → ⊥)
