-- What makes stale cells right again: what they read and held is a trace in the present program.
use Rattle.std.specs.Prelude.{◌≡◌, ℕ, List, [], ◌∷◌, Some, slice_get}
use Rattle.domain_laws.specs.Operations.{Operations}
use Rattle.daig_traces.specs.Traces.{IsTrace}
use Rattle.cell_names.specs.Paths.{CellName}
use Rattle.cell_rows.specs.Cells.{Cell}
use Rattle.cell_rows.specs.Claims.{rows_of}
use Rattle.imp_flow.specs.Plans.{Plan}
use Rattle.daig_graph.specs.declared.value.Value.TheVariants.{State}
use Rattle.cell_graph.specs.Same.{same_name}
use Rattle.cell_graph.specs.Named.{AreNumbers}
use Rattle.daig_query.specs.declared.held.Held.{Held}
use Rattle.daig_query.specs.declared.stale.StaleCell.{StaleCell}
use Rattle.daig_query.specs.Kept.{IsValue}
use Rattle.daig_query.specs.Stale.{cells_read, held_read, stale_at, Stale}

-- states that are held, as values with an index
abbrev pub AreValues : {S : Type 0} → List S → List Held → List (Cell S) → Type 0
AreValues states [] [] = Unit {0}
AreValues states [] (v ∷ vs) = ⊥
AreValues states (h ∷ hs) [] = ⊥
AreValues states (h ∷ hs) (v ∷ vs) = IsValue states (State h) v × AreValues states hs vs

module _ {S : Type 0} (dom : Operations S) (plan : Plan) where
  -- What a stale cell read and held is a trace of its name in the present program: where its inputs have these values again,
  -- the row asks for no others, and makes the same of them.
  pub record IsStaleOf (names : List CellName) (states : List S) (x : CellName) (s : StaleCell) : Type 0 where
    pub xs : List CellName
    pub vs : List (Cell S)
    pub v : Cell S
    pub inputs : AreNumbers names (cells_read s) xs
    pub values : AreValues states (held_read s) vs
    pub value : IsValue states (State s.held) v
    pub trace : IsTrace (rows_of dom plan.engine plan.program same_name) x xs vs v

  -- each stale cell is that of its number's name
  abbrev pub AreStale : List CellName → List S → Stale → Type 0
  AreStale names states stale = (n : ℕ) (s : StaleCell) → stale_at stale n ≡ Some s → (x : CellName) × (slice_get names n ≡ Some x) × IsStaleOf names states x s
