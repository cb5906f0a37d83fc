-- The node of a statement, by what is known of it, of the breaks that leave it, and of its callee.
use Rattle.std.specs.Prelude.{ℕ, zero, suc, List, [], ◌∷◌, ◌++◌, map, Option, Some, None, option_map, if◌then◌else◌, nat_lt, slice_get}
use Rattle.imp_syntax.specs.Plain.{Statement, Procedure}
use Rattle.imp_syntax.specs.Plain as tree
use Rattle.imp_slots.specs.Plain.{Guard}
use Rattle.imp_check.specs.Parts.{ends_of}
use Rattle.imp_check.specs.Entries.{entries_of, entry_of}
use Rattle.imp_check.specs.declared.entry.Around.{Around}
use Rattle.imp_check.specs.declared.entry.BlockEnds.{BlockEnds}
use Rattle.imp_check.specs.declared.entry.Entry as known
use Rattle.imp_check.specs.declared.entry.SlotForm.{SlotForm}
use Rattle.imp_check.specs.declared.entry.SlotForm.TheVariants as form
use Rattle.imp_check.specs.declared.entry.Which.{Which}
use Rattle.imp_check.specs.declared.entry.Which.TheVariants as which
use Rattle.cell_names.specs.declared.frame.Point.{Point}
use Rattle.cell_names.specs.declared.frame.Point.TheVariants.{Entry, Then, Else, Body, Post}
use Rattle.imp_flow_rows.specs.Shapes.{Node, Shape}
use Rattle.imp_flow_rows.specs.Shapes as shape
use Rattle.imp_flow_rows.specs.declared.node.Leave.{Leave}
use Rattle.imp_flow_rows.specs.declared.node.Leaves.{Leaves}
use Rattle.imp_flow_rows.specs.declared.node.Shape as read
use Rattle.imp_flow_rows.specs.declared.node.Shape.TheVariants as seen
use Rattle.imp_flow_rows.specs.declared.node.Node as whole

-- what is known of statements by their numbers
abbrev pub Table : Type 0
Table = ℕ → Option known.Entry

-- the point at which a block begins
abbrev pub start_in : ℕ → Which → Point
start_in n which.Then = Then n
start_in n which.Else = Else n
start_in n which.Body = Body

abbrev pub start_of : Option Around → Point
start_of None = Entry
start_of (Some a) = start_in a.stmt a.which

-- after a statement, or else this point
abbrev pub behind_or : Point → Option ℕ → Point
behind_or p None = p
behind_or p (Some n) = Post n

-- the point before a statement
abbrev pub front_point : known.Entry → Point
front_point x = behind_or (start_of x.context.around) x.front

abbrev pub front_in : Option known.Entry → Point
front_in None = Entry
front_in (Some x) = front_point x

-- a break, with the point before it
abbrev pub leave_at : Table → ℕ → Leave
leave_at at n = record { stmt = n; front = front_in (at n) }

-- the breaks that leave a loop
abbrev pub leaves_by : Table → known.Entry → List Leave
leaves_by at x = map (leave_at at) x.breaks

-- the last point of the body of a procedure, if there is one, and of one before a place
abbrev pub end_by : Option BlockEnds → Option Point
end_by None = None
end_by (Some ends) = Some (behind_or Entry ends.last)

abbrev pub end_of : Option Procedure → Option Point
end_of o = end_by (option_map (λ (p : Procedure). ends_of p.body) o)

abbrev pub end_in : List Procedure → (place q : ℕ) → Option Point
end_in ps place q = if nat_lt q place then end_of (slice_get ps q) else None

-- the shape of a statement with a condition
abbrev pub if_by : known.Entry → Guard → Shape
if_by x g = shape.If g (behind_or (Then x.number) x.inner.last) (behind_or (Else x.number) x.other.last)

abbrev pub branching : Table → known.Entry → Guard → (part : Statement) → Shape
branching at x g (tree.Simple n a) = if_by x g
branching at x g (tree.Break n) = if_by x g
branching at x g (tree.Call n y q es) = if_by x g
branching at x g (tree.If n c t e) = if_by x g
branching at x g (tree.While n c b) = shape.While g (behind_or Body x.inner.last) (leaves_by at x)

-- the shape of a statement, where the last points of procedures are these
abbrev pub shape_from : Table → (ends : ℕ → Option Point) → known.Entry → SlotForm → Shape
shape_from at ends x (form.Stmt s) = shape.Act s
shape_from at ends x (form.Cond g) = branching at x g x.part
shape_from at ends x (form.Call i q) = shape.Call i q (ends q)

-- the loops from this one outwards, at most so many, outermost first
abbrev pub head_of : Option known.Entry → Option ℕ
head_of None = None
head_of (Some x) = x.context.head

abbrev pub loops_up : Table → (most : ℕ) → (head : Option ℕ) → List ℕ
loops_up at zero head = []
loops_up at (suc most) None = []
loops_up at (suc most) (Some n) = loops_up at most (head_of (at n)) ++ n ∷ []

abbrev pub node_from : Table → (ends : ℕ → Option Point) → known.Entry → Node
node_from at ends x = record { stmt = x.number; place = x.context.proc; loops = loops_up at x.context.depth x.context.head; front = front_point x; shape = shape_from at ends x x.form }

-- the node of a statement of a program
abbrev pub known_in : List Procedure → Table
known_in ps = entry_of (entries_of ps)

abbrev pub node_by : List Procedure → known.Entry → Node
node_by ps x = node_from (known_in ps) (end_in ps x.context.proc) x

-- what is read off the table, as nodes
abbrev pub leaves_now : Leaves → List Leave
leaves_now ls = map (leave_at (known_in ls.prog.now)) ls.breaks.now

abbrev pub shape_now : read.Shape → Shape
shape_now (seen.Act s) = shape.Act s.now
shape_now (seen.If g t e) = shape.If g.now t e
shape_now (seen.While g p ls) = shape.While g.now p (leaves_now ls)
shape_now (seen.Call i q p) = shape.Call i.now q p

abbrev pub loops_around : whole.Node → List ℕ
loops_around x = loops_up (known_in x.prog.now) x.known.now.context.depth x.known.now.context.head

abbrev pub node_now : whole.Node → Node
node_now x = node_by x.prog.now x.known.now
