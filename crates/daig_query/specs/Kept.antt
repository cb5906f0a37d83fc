-- What an engine keeps: cells by the numbers of their names.
use Rattle.std.specs.Prelude.{◌≡◌, ℕ, ◌+◌, ◌≤◌, length, List, reverse, Some, IsSome, Bool, slice_get}
use Rattle.std.specs.Ordering.{nat_cmp}
use Rattle.std.specs.FinMap.{FinMap, get}
use Rattle.daig_graph.specs.Cells.{Filled}
use Rattle.daig_graph.specs.declared.value.Value.{Value}
use Rattle.daig_graph.specs.declared.value.Value.TheVariants.{State, Over}
use Rattle.batch_meaning.specs.Values as plain
use Rattle.cell_names.specs.Known.{KeepsNumbers}
use Rattle.cell_names.specs.Paths.{CellName}
use Rattle.cell_rows.specs.Cells.{Cell, cell}
use Rattle.daig_query.specs.declared.held.Held.{Held}
use Rattle.daig_query.specs.declared.store.Store.{Store}
use Rattle.cell_graph.specs.Named as named

abbrev pub Cells : Type 0
Cells = FinMap nat_cmp (Filled Held)

-- the names that have a cell
abbrev pub kept : {S : Type 0} → Store S → CellName → Bool
kept store = named.kept store.graph.cells store.names.names

-- What a cell stores, as a value with an index. A chain is stored outermost first. With an Over the index means nothing:
-- none reads it.
abbrev pub IsValue : {S : Type 0} → List S → Value Held → Cell S → Type 0
IsValue {S} states (State h) c = (s : S) × (slice_get states h.state ≡ Some s) × (c ≡ cell (plain.State s) h.index)
IsValue states (Over n chain) c = c.value ≡ plain.Over n (reverse chain)

-- Names, states and cells are only added.
pub record Grows {S : Type 0} (old new : Store S) : Type 0 where
  pub paths : KeepsNumbers old.names.paths new.names.paths
  pub names : KeepsNumbers old.names.names new.names.names
  pub states : KeepsNumbers old.states new.states
  pub cells : (n : ℕ) (f : Filled Held) → get old.graph.cells n ≡ Some f → get new.graph.cells n ≡ Some f

-- At most so many states are added, and so many operations, and as many cells may be stale as before.
pub record AddsFew {S : Type 0} (count : ℕ) (old new : Store S) : Type 0 where
  pub states : length new.states ≤ length old.states + count
  pub operations : length new.operations ≤ length old.operations + count
  pub stale : new.stale.count ≡ old.stale.count

-- No cell is added, and one state and one operation at most.
pub record AddsNoCell {S : Type 0} (old new : Store S) : Type 0 where
  pub cells : new.graph.cells ≡ old.graph.cells
  pub few : AddsFew 1 old new

-- Names are only added, and what has a cell has one still.
pub record Lasts {S : Type 0} (old new : Store S) : Type 0 where
  pub paths : KeepsNumbers old.names.paths new.names.paths
  pub names : KeepsNumbers old.names.names new.names.names
  pub there : (n : ℕ) → IsSome (get old.graph.cells n) → IsSome (get new.graph.cells n)

-- No cell is added, and no state.
pub record Names {S : Type 0} (old new : Store S) : Type 0 where
  pub paths : KeepsNumbers old.names.paths new.names.paths
  pub names : KeepsNumbers old.names.names new.names.names
  pub states : new.states ≡ old.states
  pub operations : new.operations ≡ old.operations
  pub memo : new.memo ≡ old.memo
  pub recent : new.recent ≡ old.recent
  pub stale : new.stale ≡ old.stale
  pub graph : new.graph ≡ old.graph
