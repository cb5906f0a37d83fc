-- The control flow graph of a program, by its text: its points, and the equation of each.
use Rattle.std.specs.Prelude.{◌≡◌, ℕ, ℤ, List, [], ◌∷◌, ◌++◌, map, slice_get, Option, Some, None, Bool, true, false, if◌then◌else◌}
use Rattle.imp_slots.specs.Plain.{Layout, Guard, Act, DoBreak, Does, Entering, Returning, Code, Stop, Simple, If, While, Call, Break, Routine}
use Rattle.imp_chains.specs.Thresholds.{thresholds}
use Rattle.batch_meaning.specs.Batch.{LoopOptions}
use Rattle.batch_meaning.specs.Places.{find, if_some, from, main_layout}
use Rattle.cell_names.specs.declared.frame.NameFrame.{NameFrame}
use Rattle.cell_names.specs.declared.frame.NameFrame.TheVariants.{InCall, InLoop}
use Rattle.cell_names.specs.declared.frame.Point.{Point}
use Rattle.cell_names.specs.declared.frame.Point.TheVariants.{Entry, Then, Else, Body, Post, Iterate, Fix, Exit, Leap}
use Rattle.cell_names.specs.Paths.{CellName, sites_of}
use Rattle.cell_rows.specs.Names.{break_numbers}
use Rattle.cell_rows.specs.Rows.{last_point, leave_points}
use Rattle.cell_rows.specs.Flat.{Flat, flat}
use Rattle.cell_kept_set.specs.Places.{first_name, callee_name}

-- The start of main, that of the procedure that a call calls, those of the branches of an if, the head of a loop, and
-- the point behind a statement.
pub data FlowPoint : Type 0 where
  Start : FlowPoint
  Called : (call : ℕ) → FlowPoint
  InThen : ℕ → FlowPoint
  InElse : ℕ → FlowPoint
  Head : ℕ → FlowPoint
  Behind : ℕ → FlowPoint

-- the statement that it belongs to
abbrev pub statement_of : FlowPoint → ℕ
statement_of Start = 0
statement_of (Called n) = n
statement_of (InThen n) = n
statement_of (InElse n) = n
statement_of (Head n) = n
statement_of (Behind n) = n

-- the start of a called procedure
abbrev pub is_called : FlowPoint → Bool
is_called (Called n) = true
is_called _ = false

-- A point of a block that starts at `first`: all rounds of a loop are at its head, and its exits are behind it.
abbrev pub in_block : (first : FlowPoint) → Point → FlowPoint
in_block first Entry = first
in_block first Body = first
in_block first (Then n) = InThen n
in_block first (Else n) = InElse n
in_block first (Post n) = Behind n
in_block first (Iterate n k) = Head n
in_block first (Fix n) = Head n
in_block first (Exit n) = Behind n
in_block first (Leap n k) = Behind n

-- where the block starts that a path leads to
abbrev pub start_of : List NameFrame → FlowPoint
start_of [] = Start
start_of (InCall n ∷ w) = Called n
start_of (InLoop n k ∷ w) = Head n

-- A node of the graph: a point under a chain of calls, the last one first.
pub record Node : Type 0 where
  pub chain : List ℕ
  pub point : FlowPoint

abbrev pub node : List ℕ → FlowPoint → Node
node z a = record { chain = z; point = a }

-- that of a cell, which the cells of all rounds share
abbrev pub node_of : CellName → Node
node_of x = node (sites_of x.path) (in_block (start_of x.path) x.point)

-- The equation of a point: from which points of the text control comes, and what is done on the way. Those of one
-- statement begin with the point before it.
pub data Equation : Type 0 where
  -- the start of main
  Begins : Layout → Equation
  Enters : (before : Point) → Entering → Equation
  Chooses : (before : Point) → Guard → Equation
  -- the head of a loop: from before it and from the end of its body, with the thresholds of the procedure
  Rounds : (before : Point) → Guard → (last : Point) → (thresholds : List ℤ) → Equation
  Acts : (before : Point) → Act → Equation
  -- behind an if: from the ends of both branches
  Meets : (last : Point) → (other : Point) → Equation
  -- behind a loop: from its head and from before its breaks
  Leaves : Guard → (before_breaks : List Point) → (breaks : List ℕ) → Equation
  -- behind a call: from before it and from the end of the procedure
  Returns : (before : Point) → Option Returning → (last : Point) → Equation

-- where the first of these procedures ends
abbrev pub first_end : List Routine → Option Point
first_end [] = None
first_end (r ∷ earlier) = Some (last_point r.code Entry)

-- The equations of a statement's points, by the procedures before its own, the point before it and its code.
abbrev pub call_equation : List Routine → Point → Code → Option Equation
call_equation earlier p (Call n call q r) = if_some (first_end (from earlier q)) (λ e. Some (Enters p call.entering))
call_equation earlier p _ = None

abbrev pub branch_equation : Point → Code → Option Equation
branch_equation p (If n guard t e r) = Some (Chooses p guard)
branch_equation p _ = None

abbrev pub head_equation : List ℤ → Point → Code → Option Equation
head_equation thresholds p (While n guard b r) = Some (Rounds p guard (last_point b Body) thresholds)
head_equation thresholds p _ = None

abbrev pub behind_equation : List Routine → Point → Code → Option Equation
behind_equation earlier p Stop = None
behind_equation earlier p (Simple n effect r) = Some (Acts p (Does effect))
behind_equation earlier p (If n guard t e r) = Some (Meets (last_point t (Then n)) (last_point e (Else n)))
behind_equation earlier p (While n guard b r) = Some (Leaves guard (leave_points b Body) (break_numbers b))
behind_equation earlier p (Call n call q r) = if_some (first_end (from earlier q)) (λ e. Some (Returns p call.returning e))
behind_equation earlier p (Break n r) = Some (Acts p DoBreak)

-- Procedures have the last one first, here and below.
abbrev pub equation : LoopOptions → List Routine → FlowPoint → Option Equation
equation engine ps Start = Some (Begins (main_layout ps))
equation engine ps (Called n) = if_some (find n (flat ps)) (λ u. call_equation u.earlier u.text.front u.text.code)
equation engine ps (InThen n) = if_some (find n (flat ps)) (λ u. branch_equation u.text.front u.text.code)
equation engine ps (InElse n) = if_some (find n (flat ps)) (λ u. branch_equation u.text.front u.text.code)
equation engine ps (Head n) = if_some (find n (flat ps)) (λ u. head_equation (thresholds engine.widening u.routine) u.text.front u.text.code)
equation engine ps (Behind n) = if_some (find n (flat ps)) (λ u. behind_equation u.earlier u.text.front u.text.code)

-- the point before the statement
abbrev pub before : Equation → Option Point
before (Begins layout) = None
before (Enters p entering) = Some p
before (Chooses p guard) = Some p
before (Rounds p guard last thresholds) = Some p
before (Acts p act) = Some p
before (Meets p q) = None
before (Leaves guard points numbers) = None
before (Returns p returning last) = Some p

-- the last call of a chain, and the chain without it
abbrev pub last_call : List ℕ → Option ℕ
last_call [] = None
last_call (n ∷ z) = Some n

abbrev pub callers : List ℕ → List ℕ
callers [] = []
callers (n ∷ z) = z

-- the chain of the point before: the start of a procedure comes after a statement of the caller
abbrev pub chain_before : Node → List ℕ
chain_before b = if is_called b.point then callers b.chain else b.chain

-- the ends of the statement's blocks from which control comes; of a call that of the procedure, under a chain with this call
abbrev pub ends : Node → Equation → List Node
ends b (Begins layout) = []
ends b (Enters p entering) = []
ends b (Chooses p guard) = []
ends b (Rounds p guard last thresholds) = node b.chain (in_block b.point last) ∷ []
ends b (Acts p act) = []
ends b (Meets p q) = node b.chain (in_block b.point p) ∷ node b.chain (in_block b.point q) ∷ []
ends b (Leaves guard points numbers) = map (λ a. node b.chain (in_block (Head (statement_of b.point)) a)) (Fix (statement_of b.point) ∷ points)
ends b (Returns p returning last) = node (statement_of b.point ∷ b.chain) (in_block (Called (statement_of b.point)) last) ∷ []

-- A block of this procedure in these loops starts at the head of the innermost loop; outside of loops, of main at its start,
-- and of another procedure at the last call of the chain.
abbrev pub IsStart : List Routine → (chain : List ℕ) → (procedure : List ℕ) → (loops : List ℕ) → FlowPoint → Type 0
IsStart ps z m ls Start = (z ≡ []) × (first_name ps ≡ Some m) × (ls ≡ [])
IsStart ps z m ls (Called n) = (u : Flat) × (find n (flat ps) ≡ Some u) × (callee_name u ≡ Some m) × (ls ≡ []) × (last_call z ≡ Some n)
IsStart ps z m ls (InThen n) = ⊥
IsStart ps z m ls (InElse n) = ⊥
IsStart ps z m ls (Head n) = (u : Flat) × (find n (flat ps) ≡ Some u) × (u.routine.name ≡ m) × (ls ≡ u.text.loops ++ n ∷ [])
IsStart ps z m ls (Behind n) = ⊥

-- so does the block of a statement, under a chain
abbrev pub StartsBlockOf : List Routine → (chain : List ℕ) → ℕ → FlowPoint → Type 0
StartsBlockOf ps z n a = (u : Flat) × (find n (flat ps) ≡ Some u) × IsStart ps z u.routine.name u.text.loops a

-- An edge: control comes straight from a to b.
pub data Flows (engine : LoopOptions) (ps : List Routine) : (a b : Node) → Type 0 where
  on : (b : Node) (first : FlowPoint) (e : Equation) (p : Point) → equation engine ps b.point ≡ Some e → before e ≡ Some p →
      StartsBlockOf ps (chain_before b) (statement_of b.point) first → Flows engine ps (node (chain_before b) (in_block first p)) b
  out : (a b : Node) (e : Equation) (i : ℕ) → equation engine ps b.point ≡ Some e → slice_get (ends b e) i ≡ Some a → Flows engine ps a b

-- A path leads from one of these nodes to this one.
pub data IsReached (engine : LoopOptions) (ps : List Routine) (those : Node → Type 0) : Node → Type 0 where
  itself : (a : Node) → those a → IsReached engine ps those a
  along : (a b : Node) → IsReached engine ps those a → Flows engine ps a b → IsReached engine ps those b
