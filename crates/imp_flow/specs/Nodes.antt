-- The statements of a program as nodes of its flow.
use Rattle.std.specs.Prelude.{ℕ, List, [], ◌∷◌, ◌++◌, length, Option, Some, None, cond, ◌==◌}
use Rattle.imp_slots.specs.Plain.{Code, Stop, Simple, If, While, Call, Break, Routine}
use Rattle.imp_slots.specs.ActionViews.{action_of}
use Rattle.imp_slots.specs.declared.actions.SlotStmt.TheVariants as act
use Rattle.batch_meaning.specs.Places.{from}
use Rattle.cell_names.specs.declared.frame.Point.{Point}
use Rattle.cell_names.specs.declared.frame.Point.TheVariants.{Entry, Then, Else, Body, Post}
use Rattle.cell_rows.specs.Rows.{last_point}
use Rattle.imp_flow_rows.specs.declared.node.Leave.{Leave}
use Rattle.imp_flow_rows.specs.Shapes.{Node, Shape}
use Rattle.imp_flow_rows.specs.Shapes as shape

-- The breaks that leave the loop around a block, in the order of the text, each with the point before it.
abbrev pub leaving : Code → Point → List Leave
leaving Stop p = []
leaving (Simple n e r) p = leaving r (Post n)
leaving (If n g t e r) p = leaving t (Then n) ++ (leaving e (Else n) ++ leaving r (Post n))
leaving (While n g b r) p = leaving r (Post n)
leaving (Call n i q r) p = leaving r (Post n)
leaving (Break n r) p = record { stmt = n; front = p } ∷ leaving r (Post n)

-- the last point of the body of the first of these procedures, if there is one
abbrev pub body_end : List Routine → Option Point
body_end [] = None
body_end (r ∷ rs) = Some (last_point r.code Entry)

-- Of a callee: `earlier` are the procedures before, the last one first.
abbrev pub callee_end : (earlier : List Routine) → ℕ → Option Point
callee_end earlier q = body_end (from earlier q)

-- the call of nothing, whose points have no rows
abbrev pub nothing : Shape
nothing = shape.Call (record { entering = record { layout = record { numbers = []; links = [] }; arguments = [] }; returning = None }) 0 None

-- the shape of the first statement of this code
abbrev pub shape_of : (earlier : List Routine) → Code → Shape
shape_of earlier Stop = nothing
shape_of earlier (Simple n e r) = shape.Act (act.Simple (action_of e))
shape_of earlier (If n g t e r) = shape.If g (last_point t (Then n)) (last_point e (Else n))
shape_of earlier (While n g b r) = shape.While g (last_point b Body) (leaving b Body)
shape_of earlier (Call n i q r) = shape.Call i q (callee_end earlier q)
shape_of earlier (Break n r) = shape.Act act.Break

module _ (earlier : List Routine) where
  -- a statement after the point p, in these loops
  abbrev pub node_in : List ℕ → Point → ℕ → Shape → Node
  node_in loops p n s = record { stmt = n; place = length earlier; loops = loops; front = p; shape = s }

  -- the statements of a block and all inside them, in the order of the text
  abbrev pub block_nodes : List ℕ → Point → Code → List Node
  block_nodes loops p Stop = []
  block_nodes loops p (Simple n e r) = node_in loops p n (shape_of earlier (Simple n e r)) ∷ block_nodes loops (Post n) r
  block_nodes loops p (If n g t e r) =
      node_in loops p n (shape_of earlier (If n g t e r)) ∷ (block_nodes loops (Then n) t ++ (block_nodes loops (Else n) e ++ block_nodes loops (Post n) r))
  block_nodes loops p (While n g b r) = node_in loops p n (shape_of earlier (While n g b r)) ∷ (block_nodes (loops ++ n ∷ []) Body b ++ block_nodes loops (Post n) r)
  block_nodes loops p (Call n i q r) = node_in loops p n (shape_of earlier (Call n i q r)) ∷ block_nodes loops (Post n) r
  block_nodes loops p (Break n r) = node_in loops p n (shape_of earlier (Break n r)) ∷ block_nodes loops (Post n) r

-- all statements of these procedures, the last one first
abbrev pub nodes_of : List Routine → List Node
nodes_of [] = []
nodes_of (r ∷ earlier) = block_nodes earlier [] Entry r.code ++ nodes_of earlier

-- the statement of a number
abbrev pub node_of : List Node → ℕ → Option Node
node_of [] n = None
node_of (x ∷ xs) n = cond (x.stmt == n) (Some x) (node_of xs n)
