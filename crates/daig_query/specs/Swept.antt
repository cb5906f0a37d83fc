-- Stores that are swept: the states that cells hold are left, under new numbers, and no others.
use Rattle.std.specs.Prelude.{◌≡◌, ℕ, suc, ◌+◌, ◌*◌, ◌<◌, ◌≤◌, List, length, Option, Some, option_map, slice_get}
use Rattle.std.specs.FinMap.{get, len}
use Rattle.daig_graph.specs.Cells.{Filled}
use Rattle.daig_graph.specs.declared.value.Value.{Value}
use Rattle.daig_graph.specs.declared.value.Value.TheVariants.{State, Over}
use Rattle.domain_laws.specs.Operations.{Operations}
use Rattle.imp_flow.specs.Plans.{Plan}
use Rattle.loop_unroll.specs.Iterates.{state_in, value_at}
use Rattle.state_table.specs.Marks.{IsMarked}
use Rattle.daig_query.specs.declared.held.Held.{Held}
use Rattle.daig_query.specs.declared.store.Store.{Store}
use Rattle.daig_query.specs.Kept.{AddsFew, Cells}
use Rattle.daig_query.specs.Filled.{cells_added}
use Rattle.daig_query.specs.Right.{IsRight}

-- what the cell of a number holds, where that is a state
abbrev pub held_by : Cells → ℕ → Option Held
held_by cells n = state_in (value_at cells n)

-- each state that a cell holds has a number below this one
abbrev pub AreKnown : Cells → ℕ → Type 0
AreKnown cells count = (n : ℕ) (h : Held) → held_by cells n ≡ Some h → h.state < count

-- the states that the first so many numbers hold are marked
abbrev pub AreMarked : {S : Type 0} → Cells → ℕ → List (S × ℕ) → Type 0
AreMarked cells count entries = (n : ℕ) (h : Held) → n < count → held_by cells n ≡ Some h → IsMarked entries h.state

-- the same cell, which holds its state under another number
abbrev pub renumbered_value : (ℕ → ℕ) → Value Held → Value Held
renumbered_value number (State h) = State (record h { state = number h.state })
renumbered_value number (Over n chain) = Over n chain

abbrev pub renumbered : (ℕ → ℕ) → Filled Held → Filled Held
renumbered number f = record f { value = renumbered_value number f.value }

-- the cells of the first so many numbers hold their states under other numbers, and the others what they held
pub record AreRenumbered (number : ℕ → ℕ) (count : ℕ) (old new : Cells) : Type 0 where
  pub first : (n : ℕ) → n < count → get new n ≡ option_map (renumbered number) (get old n)
  pub others : (n : ℕ) → count ≤ n → get new n ≡ get old n
  pub same_len : len new ≡ len old

module _ {S : Type 0} where
  -- each cell has the number of a name, and holds a state that is there
  pub record IsInTables (store : Store S) : Type 0 where
    pub named : (n : ℕ) (f : Filled Held) → get store.graph.cells n ≡ Some f → n < length store.names.names
    pub known : AreKnown store.graph.cells (length store.states)

  -- The names stay, and so do the cells, each with the state that it held. As many cells may be stale as before.
  pub record Swept (old new : Store S) : Type 0 where
    pub names : new.names ≡ old.names
    pub number : ℕ → ℕ
    pub cells : (n : ℕ) → get new.graph.cells n ≡ option_map (renumbered number) (get old.graph.cells n)
    pub same_len : len new.graph.cells ≡ len old.graph.cells
    pub states : (n : ℕ) (h : Held) → held_by old.graph.cells n ≡ Some h → slice_get new.states (number h.state) ≡ slice_get old.states h.state
    pub stale : new.stale.count ≡ old.stale.count

  -- what is right for a program stays right for it
  abbrev pub StaysRight : Operations S → (old new : Store S) → Type 0
  StaysRight dom old new = (plan : Plan) → IsRight dom plan old → IsRight dom plan new

  -- so many states, and operations, at most
  pub record IsWithin (most : ℕ) (store : Store S) : Type 0 where
    pub states : length store.states ≤ most
    pub operations : length store.operations ≤ most

  -- how many are kept at most after a sweep: four for each cell, each stale one too
  abbrev pub most_held : (spare : ℕ) → Store S → ℕ
  most_held spare store = 4 * (len store.graph.cells + store.stale.count) + spare

  -- how many after a call of a session: those of each cell that it filled more, and one of a cell that it could not fill
  abbrev pub IsBounded : (spare : ℕ) → Store S → Type 0
  IsBounded spare store = IsWithin (5 * len store.graph.cells + 4 * store.stale.count + spare + 1) store

  -- Cells are only added, and for each a state and an operation at most, and one for a cell that could not be filled.
  pub record FillsFew (old new : Store S) : Type 0 where
    pub more : len old.graph.cells ≤ len new.graph.cells
    pub few : AddsFew (suc (cells_added old new)) old new
