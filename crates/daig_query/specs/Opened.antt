-- Names that are being filled.
use Rattle.std.specs.Prelude.{◌≡◌, suc, ◌<◌, ◌≤◌, ◌||◌, false, [], length, take, Option, Some, None, slice_get, reverse}
use Rattle.std.specs.FinMap.{len}
use Rattle.domain_laws.specs.Operations.{Operations}
use Rattle.cell_names.specs.Known.{KeepsNumbers}
use Rattle.cell_names.specs.Paths.{CellName, name_in}
use Rattle.cell_rows.specs.Claims.{HasName}
use Rattle.cell_rows.specs.Rows as plain
use Rattle.cell_rows.specs.Flat.{flat_row}
use Rattle.daig_graph.specs.Cells.{AreCells}
use Rattle.imp_flow_rows.specs.Near.{row_in}
use Rattle.imp_flow.specs.Plans.{Plan}
use Rattle.imp_flow_rows.specs.declared.row.Row.{Row}
use Rattle.daig_query.specs.declared.opening.Absent.{Absent}
use Rattle.daig_query.specs.declared.opening.Open.{Open}
use Rattle.daig_query.specs.declared.store.Store.{Store}
use Rattle.cell_graph.specs.Same.{same_name}
use Rattle.cell_graph.specs.Named.{AreNumbers}
use Rattle.daig_query.specs.Kept.{kept, AddsFew, Grows}
use Rattle.cell_graph.specs.Asked.{inputs}
use Rattle.daig_query.specs.Right.{IsRight}

-- the name
abbrev pub name_of : {S : Type 0} → Store S → Open → CellName
name_of store o = name_in store.names.paths o.name

-- a name none of whose inputs is found
abbrev pub unfound : Absent → Open
unfound a = record { cell = a.cell; name = a.name; inputs = [] }

-- the row of a name, and that a row is the one
abbrev pub row_at : Plan → CellName → Option plain.Row
row_at plan x = flat_row plan.engine (reverse plan.program) x.path x.point

abbrev pub IsRowOf : Plan → CellName → Row → Type 0
IsRowOf plan x row = row_at plan x ≡ Some (row_in x.path row)

module _ {S : Type 0} (dom : Operations S) (plan : Plan) where
  -- A name of the program that is being filled: its first inputs are found, and are cells.
  pub record IsOpen (store : Store S) (o : Open) : Type 0 where
    pub path : o.name.path < length store.names.paths
    pub number : slice_get store.names.names o.cell ≡ Some (name_of store o)
    pub named : HasName plan.engine plan.program (name_of store o)
    pub within : length o.inputs ≤ length (inputs dom plan (name_of store o))
    pub numbers : AreNumbers store.names.names o.inputs (take (length o.inputs) (inputs dom plan (name_of store o)))
    pub cells : AreCells store.graph.cells o.inputs

  -- the input that is to be found next
  abbrev pub next_of : Store S → Open → Option CellName
  next_of store o = slice_get (inputs dom plan (name_of store o)) (length o.inputs)

  -- in a right store a name is being filled, which has this row
  pub record IsAt (store : Store S) (row : Row) (o : Open) : Type 0 where
    pub right : IsRight dom plan store
    pub entry : IsOpen store o
    pub its_row : IsRowOf plan (name_of store o) row

  -- all its inputs are found
  pub record IsReady (store : Store S) (row : Row) (o : Open) : Type 0 where
    pub at : IsAt store row o
    pub complete : next_of store o ≡ None

  -- a store once more, right again, with a state, an operation and a result more at most
  pub record Computes (old new : Store S) : Type 0 where
    pub cells : new.graph.cells ≡ old.graph.cells
    pub names : new.names ≡ old.names
    pub states : KeepsNumbers old.states new.states
    pub right : IsRight dom plan new
    pub few : AddsFew 1 old new

  -- what is found of a name that is being filled: that all its inputs are, or the first that has no cell
  abbrev pub IsNext : Store S → Open → Option Open → Type 0
  IsNext store o None = next_of store o ≡ None
  IsNext store o (Some u) = (next_of store o ≡ Some (name_of store u)) × IsOpen store u × (kept store (name_of store u) ≡ false)

  -- the same name with more of its inputs found
  pub record IsFurther (store : Store S) (row : Row) (old new : Open) : Type 0 where
    pub at : IsAt store row new
    pub cell : new.cell ≡ old.cell
    pub name : new.name ≡ old.name

  -- a name that is being filled once more, and maybe more of its inputs found
  pub record StaysOpen (store : Store S) (old new : Open) : Type 0 where
    pub entry : IsOpen store new
    pub cell : new.cell ≡ old.cell
    pub name : new.name ≡ old.name

  -- one cell more
  pub record Puts (old new : Store S) (x : CellName) : Type 0 where
    pub right : IsRight dom plan new
    pub grows : Grows old new
    pub adds : (y : CellName) → kept new y ≡ (kept old y || same_name y x)
    pub count : len new.graph.cells ≡ suc (len old.graph.cells)
    pub few : AddsFew 1 old new
