-- A program's rows by its nodes.
use Rattle.std.specs.Prelude.{ℕ, zero, suc, ℤ, List, reverse, Option, Some, None, option_map}
use Rattle.imp_slots.specs.Plain.{Routine}
use Rattle.batch_meaning.specs.Batch.{LoopOptions}
use Rattle.batch_meaning.specs.Places.{if_some, main_layout}
use Rattle.call_contexts.specs.Settings.{setting_of}
use Rattle.call_contexts.specs.Settings as settings
use Rattle.cell_names.specs.declared.frame.NameFrame.{NameFrame}
use Rattle.cell_names.specs.declared.frame.Point.{Point}
use Rattle.cell_names.specs.declared.frame.Point.TheVariants.{Entry, Then, Else, Body, Post, Iterate, Fix, Exit, Leap}
use Rattle.cell_rows.specs.Rows.{Row, Init}
use Rattle.cell_rows.specs.Flat.{RowsAt, row_by}
use Rattle.imp_flow_rows.specs.Shapes.{Node}
use Rattle.imp_flow.specs.Nodes.{nodes_of, node_of}
use Rattle.imp_flow_rows.specs.NodeRows.{before_post, before_iterate, post_at, enter_at, branch_at, turn_at, next_at, fix_at, exit_at, leap_at}

-- A program, in the order of the text, and how its loops are interpreted.
pub record Plan : Type 0 where
  pub program : List Routine
  pub engine : LoopOptions

abbrev pub plan_of : List Routine → LoopOptions → Plan
plan_of program engine = record { program = program; engine = engine }

-- the thresholds of the procedure at a place
abbrev pub thresholds_at : Plan → ℕ → List ℤ
thresholds_at plan place = settings.thresholds_at (setting_of plan.engine plan.program) place

-- the loops of the procedure at a place
abbrev pub loops_at : Plan → ℕ → List ℕ
loops_at plan place = settings.loops_at (setting_of plan.engine plan.program) place

abbrev pub plan_nodes : Plan → List Node
plan_nodes plan = nodes_of (reverse plan.program)

module _ (plan : Plan) where
  abbrev pub by_node : (n : ℕ) → (Node → Option Row) → Option Row
  by_node n f = if_some (node_of (plan_nodes plan) n) f

  abbrev pub next_of : List NameFrame → (k : ℕ) → Node → Option Row
  next_of w k x = next_at w plan.engine (thresholds_at plan x.place) k x

  abbrev pub rows_of_node : RowsAt (Node → Option Row)
  rows_of_node = record {
    enter = λ w n. enter_at w;
    branch = branch_at;
    turn = λ w n. turn_at w plan.engine;
    next = next_of;
    fix = fix_at;
    exit = exit_at;
    leap = leap_at;
    post = post_at;
  }

  -- The row of a name: by its last frame and the node of the statement of its point.
  abbrev pub node_row : List NameFrame → Point → Option Row
  node_row w p = row_by (Init (main_layout (reverse plan.program))) (λ w. by_node) rows_of_node w p

  -- the point before a statement
  abbrev pub front_of : (n : ℕ) → Option Point
  front_of n = option_map (λ (x : Node). x.front) (node_of (plan_nodes plan) n)

  -- The point of the first input of a name's row, by the name's point, where both have the same path: none of a start, which
  -- has no input or one of another path, nor of a join with a break.
  abbrev pub point_before : Point → Option Point
  point_before Entry = None
  point_before Body = None
  point_before (Then n) = front_of n
  point_before (Else n) = front_of n
  point_before (Post n) = option_map before_post (node_of (plan_nodes plan) n)
  point_before (Iterate n zero) = None
  point_before (Iterate n (suc k)) = option_map (before_iterate k) (node_of (plan_nodes plan) n)
  point_before (Fix n) = front_of n
  point_before (Exit n) = Some (Fix n)
  point_before (Leap n k) = None
