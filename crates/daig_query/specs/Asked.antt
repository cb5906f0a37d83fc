-- What rows ask for, by what their first inputs' cells store.
use Rattle.std.specs.Prelude.{ℕ, zero, suc, List, [], ◌∷◌, Option, Some, None, if◌then◌else◌, nat_lt}
use Rattle.daig_graph.specs.declared.value.Value.{Value}
use Rattle.daig_graph.specs.declared.value.Value.TheVariants.{State, Over}
use Rattle.loop_unroll.specs.Iterates.{value_at}
use Rattle.cell_names.specs.Paths.{CellName}
use Rattle.cell_rows.specs.Rows.{Row}
use Rattle.imp_flow_rows.specs.Inputs.{first_of, second_of, break_of}
use Rattle.daig_query.specs.declared.held.Held.{Held}
use Rattle.daig_query.specs.Kept.{Cells}

-- an operation on one value or two, after so many inputs
abbrev pub by_count : ℕ → Row → Option CellName
by_count zero r = first_of r
by_count (suc zero) r = second_of r
by_count (suc (suc n)) r = None

-- the index that a value passes on, where it is a round of the loop
abbrev pub round_of : ℕ → Option (Value Held) → Option ℕ
round_of budget None = None
round_of budget (Some (State h)) = if nat_lt h.index budget then Some h.index else None
round_of budget (Some (Over n chain)) = None

abbrev pub by_round : Option ℕ → Row → Option CellName
by_round None r = None
by_round (Some k) r = break_of k r

-- a join after a loop with breaks, after the inputs that have these cells
abbrev pub joined_next : ℕ → Cells → List ℕ → Row → Option CellName
joined_next budget cells [] r = first_of r
joined_next budget cells (c ∷ []) r = by_round (round_of budget (value_at cells c)) r
joined_next budget cells (c ∷ d ∷ cs) r = None
