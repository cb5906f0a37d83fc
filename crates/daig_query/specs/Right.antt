-- That what an engine keeps is right for a program.
use Rattle.std.specs.Prelude.{◌≡◌, ℕ, [], Some, slice_get}
use Rattle.std.specs.FinMap.{get}
use Rattle.imp_slots.specs.Fits.{IsChecked}
use Rattle.domain_laws.specs.Operations.{Operations}
use Rattle.cell_names.specs.Known.{IsOnce}
use Rattle.cell_names.specs.Owners.{owner}
use Rattle.cell_names.specs.Paths.{CellName}
use Rattle.cell_rows.specs.Cells.{Cell}
use Rattle.cell_kept_set.specs.Touched.{AreCells}
use Rattle.daig_demands.specs.Claims.{found_by}
use Rattle.imp_flow.specs.Plans.{Plan}
use Rattle.memo_table.specs.Results.{AreResults}
use Rattle.daig_graph.specs.Cells.{Filled}
use Rattle.daig_query.specs.declared.held.Held.{Held}
use Rattle.daig_query.specs.declared.store.Store.{Store}
use Rattle.cell_graph.specs.Same.{same_name}
use Rattle.cell_graph.specs.Named.{AreNumbers}
use Rattle.cell_graph.specs.Asked.{inputs}
use Rattle.daig_query.specs.Kept.{kept, IsValue}
use Rattle.daig_query.specs.Traced.{AreStale}

module _ {S : Type 0} (dom : Operations S) (plan : Plan) where
  -- the value with an index that a name of the program has
  unfoldable pub found : CellName → Cell S
  found = found_by dom plan.engine plan.program same_name

  -- a cell is that of a name: it has the name's value, its inputs, and the statement that it belongs to
  pub record IsCellOf (store : Store S) (x : CellName) (f : Filled Held) : Type 0 where
    pub value : IsValue store.states f.value (found x)
    pub inputs : AreNumbers store.names.names f.inputs (inputs dom plan x)
    pub owned : f.owner ≡ owner x.path x.point

  -- The program is checked; the first path is empty; names and states have one number; the names that have cells are
  -- names of the program, and closed under inputs; each cell is that of its number's name; and what is remembered, and
  -- what was found last, are results of operations; and each stale cell is that of its number's name.
  pub record IsRight (store : Store S) : Type 0 where
    pub checked : IsChecked plan.program
    pub root : slice_get store.names.paths 0 ≡ Some []
    pub once : IsOnce store.names.names
    pub single : IsOnce store.states
    pub kept : AreCells dom plan.engine plan.program same_name (kept store)
    pub cells : (n : ℕ) (f : Filled Held) → get store.graph.cells n ≡ Some f → (x : CellName) × (slice_get store.names.names n ≡ Some x) × IsCellOf store x f
    pub results : AreResults dom store.operations store.states store.memo.entries
    pub recent : AreResults dom store.operations store.states store.recent.entries
    pub stale : AreStale dom plan store.names.names store.states store.stale
