-- Targets by a program's nodes.
use Rattle.std.specs.Prelude.{ℕ, ◌-◌, List, [], ◌∷◌, ◌++◌, length, map, Option, Some, None, if◌then◌else◌, ◌==◌, slice_get}
use Rattle.std.specs.Str.{bytes_eq}
use Rattle.imp_syntax.specs.declared.edit.Location.{Location}
use Rattle.imp_syntax.specs.declared.edit.Location.TheVariants.{Before, After, Head, End}
use Rattle.batch_meaning.specs.Places.{if_some}
use Rattle.cell_names.specs.declared.frame.Point.{Point}
use Rattle.cell_names.specs.declared.frame.Point.TheVariants.{Entry, Post, Fix}
use Rattle.cell_rows.specs.Rows.{last_point}
use Rattle.cell_rows.specs.Targets.{to_point}
use Rattle.cell_rows.specs.Targets as plain
use Rattle.imp_flow_rows.specs.Shapes.{Node, callee_at, is_while}
use Rattle.imp_flow_rows.specs.declared.node.Node as whole
use Rattle.imp_flow_rows.specs.Entered.{loops_around}
use Rattle.imp_flow.specs.declared.steps.TargetStep.{TargetStep}
use Rattle.imp_flow.specs.declared.steps.TargetStep.TheVariants.{Take, Go}
use Rattle.imp_flow.specs.declared.steps.Target.{Target}
use Rattle.imp_flow.specs.declared.ways.Ending.{Ending}
use Rattle.imp_flow.specs.declared.ways.Reached.{Reached}
use Rattle.imp_flow.specs.Nodes.{node_of}
use Rattle.imp_flow.specs.Plans.{Plan, plan_nodes}

-- Steps and targets as they are defined.
abbrev pub step_of : TargetStep → plain.TargetStep
step_of (Take n) = plain.Take n
step_of (Go n) = plain.Go n

abbrev pub target_of : Target → plain.Target
target_of t = to_point (map step_of t.steps) t.last

abbrev pub with_one : Option plain.Target → List plain.Target → List plain.Target
with_one None ts = ts
with_one (Some t) ts = t ∷ ts

-- the targets of those chains that have one
abbrev pub those_there : (List ℕ → Option plain.Target) → List (List ℕ) → List plain.Target
those_there f [] = []
those_there f (z ∷ zs) = with_one (f z) (those_there f zs)

abbrev pub into_loops : List ℕ → List TargetStep
into_loops ns = map Take ns

-- a statement, if it stands in the procedure at a place
abbrev pub if_in : (place : ℕ) → Node → Option Node
if_in place x = if x.place == place then Some x else None

-- the loops around a location in its procedure, outermost first, and its point
abbrev pub loops_of : Option whole.Node → List ℕ
loops_of None = []
loops_of (Some x) = loops_around x

abbrev pub ending_of : Ending → List ℕ × Point
ending_of e = (loops_of e.around, e.point)

abbrev pub reached : List TargetStep → ℕ → Reached
reached ss place = record { steps = ss; place = place }

module _ (plan : Plan) where
  -- the statement of a number in the procedure at a place
  abbrev pub node_in_place : (place n : ℕ) → Option Node
  node_in_place place n = if_some (node_of (plan_nodes plan) n) (if_in place)

  -- the steps into a call, and its callee's place
  abbrev pub way_into : (n : ℕ) → Reached → Option Reached
  way_into n x = if_some (node_in_place x.place n) (λ y. if_some (callee_at y.shape) (λ q. Some (reached ((x.steps ++ into_loops y.loops) ++ Go n ∷ []) q)))

  -- those along a chain, whose last call site stands first
  abbrev pub way_along : List ℕ → Option Reached
  way_along [] = Some (reached [] (length plan.program - 1))
  way_along (n ∷ z) = if_some (way_along z) (way_into n)

  abbrev pub ending_at : Location → (place : ℕ) → Option (List ℕ × Point)
  ending_at (Before n) place = if_some (node_in_place place n) (λ y. Some (y.loops, y.front))
  ending_at (After n) place = if_some (node_in_place place n) (λ y. Some (y.loops, Post n))
  ending_at (Head n) place = if_some (node_in_place place n) (λ y. if is_while y.shape then Some (y.loops, Fix n) else None)
  ending_at (End x) place = if_some (slice_get plan.program place) (λ r. if bytes_eq x r.name then Some ([], last_point r.code Entry) else None)

  abbrev pub target_from : Location → Reached → Option Target
  target_from l x = if_some (ending_at l x.place) (λ e. Some (record { steps = x.steps ++ into_loops e.0; last = e.1 }))

  -- the target of a location under a chain
  abbrev pub target_along : Location → List ℕ → Option Target
  target_along l z = if_some (way_along z) (target_from l)
