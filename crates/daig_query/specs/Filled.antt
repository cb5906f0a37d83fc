-- What a demand fills.
use Rattle.std.specs.Prelude.{◌≡◌, ℕ, suc, ◌+◌, ◌-◌, ◌≤◌, ◌||◌, List, [], take, length}
use Rattle.std.specs.FinMap.{len}
use Rattle.domain_laws.specs.Operations.{Operations}
use Rattle.daig_order.specs.Order.{member, fill_all}
use Rattle.cell_names.specs.Paths.{CellName}
use Rattle.cell_rows.specs.Targets.{Target, demanded}
use Rattle.daig_demands.specs.Claims.{names_of}
use Rattle.imp_flow.specs.Plans.{Plan}
use Rattle.cell_graph.specs.Same.{same_name}
use Rattle.daig_query.specs.declared.store.Store.{Store}
use Rattle.daig_query.specs.Kept.{kept, AddsFew, Grows}
use Rattle.daig_query.specs.Right.{found, IsRight}

-- how many cells were added
abbrev pub cells_added : {S : Type 0} → (old new : Store S) → ℕ
cells_added old new = len new.graph.cells - len old.graph.cells

module _ {S : Type 0} (dom : Operations S) (plan : Plan) (ts : List Target) where
  -- what is missing of these targets, in the order in which it is filled
  abbrev pub missing : Store S → List CellName
  missing store = fill_all (names_of dom plan.engine plan.program same_name) (kept store) [] (demanded (found dom plan) ts)

  -- The first so many of the missing names are filled, and no others; all cells are right, and those before are as they
  -- were. For each cell there is a state and an operation more at most, and one for a cell that could not be filled.
  pub record Fills (old new : Store S) (count : ℕ) : Type 0 where
    pub right : IsRight dom plan new
    pub grows : Grows old new
    pub adds : (x : CellName) → kept new x ≡ (kept old x || member same_name (take count (missing old)) x)
    pub needed : count ≤ length (missing old)
    pub counted : len new.graph.cells ≡ len old.graph.cells + count
    pub few : AddsFew (suc count) old new
