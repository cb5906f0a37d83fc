-- Stores whose cells have other numbers: the names of cells are left, and no others.
use Rattle.std.specs.Prelude.{◌≡◌, ℕ, ◌<◌, ◌≤◌, List, [], length, Option, Some, None, is_some, IsSome, false, slice_get}
use Rattle.std.specs.FinMap.{get, len}
use Rattle.cell_names.specs.Known.{Adds, IsOnce, Known}
use Rattle.cell_names.specs.Paths.{CellName}
use Rattle.daig_graph.specs.Numbers.{renumbered}
use Rattle.daig_graph.specs.Renumbered.{Renumbers}
use Rattle.daig_query.specs.declared.names_sweep.NewNames.{NewNames}
use Rattle.daig_query.specs.declared.store.Store.{Store}
use Rattle.daig_query.specs.Kept.{kept, Cells}

module _ (cells : Cells) (names : List CellName) where
  -- The names of the cells of the first so many numbers stand in another list, in the order of these numbers, and no
  -- others; a list of new numbers tells where.
  pub record AreNamedAnew (count : ℕ) (numbers : List ℕ) (later : List CellName) : Type 0 where
    pub places : length numbers ≡ count
    pub short : length later ≤ count
    pub named : (n : ℕ) → n < count → IsSome (get cells n) → slice_get later (renumbered numbers n) ≡ slice_get names n
    pub within : (n : ℕ) → n < count → IsSome (get cells n) → renumbered numbers n < length later
    pub below : (n : ℕ) → n < count → IsSome (get cells n) → renumbered numbers n ≤ n
    pub rising : (m n : ℕ) → m < n → n < count → IsSome (get cells m) → IsSome (get cells n) → renumbered numbers m < renumbered numbers n
    pub back : (q : ℕ) (x : CellName) → slice_get later q ≡ Some x → (n : ℕ) × (n < count) × (slice_get names n ≡ Some x)

  -- The name that has a number is added where it has a cell.
  pub record AddsNameOf (number : ℕ) (old new : Known) : Type 0 where
    pub some : IsSome (get cells number) → (x : CellName) × (q : ℕ) × (slice_get names number ≡ Some x) × Adds old.names new.names x q
    pub none : is_some (get cells number) ≡ false → new.names ≡ old.names
    pub root : slice_get new.paths 0 ≡ Some []

-- the names that stand where these were worked out to stand, if any were
abbrev pub names_after : Known → Option NewNames → Known
names_after names None = names
names_after names (Some made) = made.names

module _ {S : Type 0} where
  -- The names of the cells are worked out, with their new numbers.
  pub record IsRenamingOf (store : Store S) (made : NewNames) : Type 0 where
    pub anew : AreNamedAnew store.graph.cells store.names.names (length store.names.names) made.numbers.items made.names.names
    pub root : slice_get made.names.paths 0 ≡ Some []

  -- There are no more names than cells.
  abbrev pub HasNamesOfCells : Store S → NewNames → Type 0
  HasNamesOfCells store made = length made.names.names ≤ len store.graph.cells

  -- Each cell has the name, the value and the inputs that it had, under other numbers; the same names have cells, and
  -- states, operations and what is remembered stay. As many cells may be stale as before.
  pub record Renames (old new : Store S) : Type 0 where
    pub new_of : List ℕ
    pub cells : Renumbers new_of old.graph.cells new.graph.cells
    pub same_len : len new.graph.cells ≡ len old.graph.cells
    pub named : (n : ℕ) → IsSome (get old.graph.cells n) → slice_get new.names.names (renumbered new_of n) ≡ slice_get old.names.names n
    pub kept : (x : CellName) → kept new x ≡ kept old x
    pub root : slice_get old.names.paths 0 ≡ Some [] → slice_get new.names.paths 0 ≡ Some []
    pub once : IsOnce old.names.names → IsOnce new.names.names
    pub states : new.states ≡ old.states
    pub operations : new.operations ≡ old.operations
    pub memo : new.memo ≡ old.memo
    pub recent : new.recent ≡ old.recent
    pub stale : new.stale.count ≡ old.stale.count
