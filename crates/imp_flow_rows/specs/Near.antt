-- Inputs of rows, and rows, by the path of the name that has them.
use Rattle.std.specs.Prelude.{List, [], ◌∷◌, Option, Some, None}
use Rattle.imp_slots.specs.ActionViews.{act_of}
use Rattle.cell_names.specs.declared.frame.NameFrame.{NameFrame}
use Rattle.cell_names.specs.Paths.{CellName}
use Rattle.cell_rows.specs.Names.{name}
use Rattle.cell_rows.specs.Rows.{sites_of}
use Rattle.cell_rows.specs.Rows as plain
use Rattle.imp_flow_rows.specs.declared.input.Input.{Input}
use Rattle.imp_flow_rows.specs.declared.input.Way.{Way}
use Rattle.imp_flow_rows.specs.declared.input.Way.TheVariants.{Here, Out, Into}
use Rattle.imp_flow_rows.specs.declared.row.Unary.{Unary}
use Rattle.imp_flow_rows.specs.declared.row.Unary.TheVariants as one
use Rattle.imp_flow_rows.specs.declared.row.Binary.{Binary}
use Rattle.imp_flow_rows.specs.declared.row.Binary.TheVariants as two
use Rattle.imp_flow_rows.specs.declared.row.Row.{Row}
use Rattle.imp_flow_rows.specs.declared.row.Row.TheVariants.{Init, One, Two, Fixed, Joins}

-- a part of a path, under a name that no type of the code has
abbrev pub PathFrame : Type 0
PathFrame = NameFrame

-- A path has its last frame first.
abbrev pub outside : List NameFrame → List NameFrame
outside [] = []
outside (f ∷ w) = w

abbrev pub last_frame : List NameFrame → Option NameFrame
last_frame [] = None
last_frame (f ∷ w) = Some f

abbrev pub near : List NameFrame → Way → List NameFrame
near w Here = w
near w Out = outside w
near w (Into f) = f ∷ w

abbrev pub input_name : List NameFrame → Input → CellName
input_name w i = name (near w i.way) i.point

abbrev pub unary_of : Unary → plain.Unary
unary_of (one.Post s) = plain.Posts (act_of s.now)
unary_of (one.Assume c h) = plain.Assumes c.now h
unary_of (one.Enter call) = plain.Enters call.now.entering
unary_of (one.Exit c) = plain.Exits c.now

abbrev pub binary_of : Binary → plain.Binary
binary_of two.Join = plain.JoinsBoth
binary_of (two.Leave call) = plain.Leaves call.now.returning
binary_of (two.Widen thresholds) = plain.Widens thresholds.now

-- what a row says for a name with this path
abbrev pub row_in : List NameFrame → Row → plain.Row
row_in w (Init layout) = plain.Init layout.now
row_in w (One op a) = plain.One (unary_of op) (input_name w a)
row_in w (Two op a b) = plain.Two (binary_of op) (input_name w a) (input_name w b)
row_in w (Fixed n p) = plain.Fixed n (sites_of w) w p
row_in w (Joins stays left n right) = plain.Joins stays (name w left) n w right
