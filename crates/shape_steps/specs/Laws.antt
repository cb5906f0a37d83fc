-- What each concrete step makes of what a graph covers, the step on graphs covers. A variable is null or a
-- cell, and the heap says for each cell what its next is; the last frame's variables are the step's.
use Rattle.std.specs.Prelude.{◌≡◌, ℕ, ◌<◌, List, [], ◌∷◌, ◌++◌, length, map, Option, None, Some, slice_get, slice_set, ◌-◌, ◌↔◌}
use Rattle.std.specs.List.{remove}
use Rattle.shape_graph.specs.Shape.{Shape, IsGraph}
use Rattle.shape_graph.specs.Covers.{Covers}
use Rattle.shape_steps.specs.Steps.{set_last, forget_of, new_cell_of, push_frame_of, pop_frame_of, last_of, last_frame_of, AnyCovers, slot_of, argument_of, read_of, write_of, leave_of}

-- `p = null`
abbrev pub NullIsCovered : Type 0
NullIsCovered = (g : Shape) (variables : List (List (Option ℕ))) (heap : List (Option ℕ)) (p : ℕ)
    → Covers g variables heap → Covers (forget_of g p None) (set_last variables p None) heap

-- `p = q`
abbrev pub CopyIsCovered : Type 0
CopyIsCovered = (g : Shape) (variables : List (List (Option ℕ))) (heap : List (Option ℕ)) (p q : ℕ)
    → Covers g variables heap → Covers (forget_of g p (slot_of g.frames q)) (set_last variables p (slot_of variables q)) heap

-- `p = new`: the new cell is the heap's next, and null is after it
abbrev pub NewIsCovered : Type 0
NewIsCovered = (g : Shape) (variables : List (List (Option ℕ))) (heap : List (Option ℕ)) (p : ℕ)
    → IsGraph g → Covers g variables heap → Covers (new_cell_of g p) (set_last variables p (Some (length heap))) (heap ++ None ∷ [])

-- `p = q.next`, where q names the node k and is the cell c, with w after it
abbrev pub ReadIsCovered : Type 0
ReadIsCovered = (g : Shape) (variables : List (List (Option ℕ))) (heap : List (Option ℕ)) (k c : ℕ) → IsGraph g → (p q : ℕ) (w : Option ℕ)
    → slot_of g.frames q ≡ Some k → slot_of variables q ≡ Some c → slice_get heap c ≡ Some w
    → Covers g variables heap → AnyCovers (read_of g p k) (set_last variables p w) heap

-- `p.next = q`, where p names the node k and is the cell c
abbrev pub WriteIsCovered : Type 0
WriteIsCovered = (g : Shape) (variables : List (List (Option ℕ))) (heap : List (Option ℕ)) (k c : ℕ) → IsGraph g → (p q : ℕ)
    → slot_of g.frames p ≡ Some k → slot_of variables p ≡ Some c
    → Covers g variables heap → AnyCovers (write_of g k q) variables (slice_set heap c (slot_of variables q))

-- a frame pushed, with null or the value of a variable in each of its variables
abbrev pub EnterIsCovered : Type 0
EnterIsCovered = (g : Shape) (variables : List (List (Option ℕ))) (heap : List (Option ℕ)) (arguments : List (Option ℕ))
    → Covers g variables heap → Covers (push_frame_of g (map (argument_of g.frames) arguments)) (variables ++ map (argument_of variables) arguments ∷ []) heap

-- a frame popped, from any place
abbrev pub RemovalIsCovered : Type 0
RemovalIsCovered = (g : Shape) (variables : List (List (Option ℕ))) (heap : List (Option ℕ)) (frame : ℕ)
    → Covers g variables heap → Covers (pop_frame_of g frame) (remove variables frame) heap

-- all frames removed but the last
abbrev pub ShedIsCovered : Type 0
ShedIsCovered = (g : Shape) (variables : List (List (Option ℕ))) (heap : List (Option ℕ))
    → Covers g variables heap → Covers (last_frame_of g) (last_of variables ∷ []) heap

-- the last frame popped, with the value of its variable q in a variable of the frame below
abbrev pub LeaveIsCovered : Type 0
LeaveIsCovered = (g : Shape) (variables : List (List (Option ℕ))) (heap : List (Option ℕ)) (slot q : ℕ)
    → Covers g variables heap → Covers (leave_of g slot q) (set_last (remove variables (length variables - 1)) slot (slot_of variables q)) heap

-- a variable whose slot is nil is null
abbrev pub NilIsNull : Type 0
NilIsNull = (g : Shape) (variables : List (List (Option ℕ))) (heap : List (Option ℕ)) (q : ℕ)
    → slot_of g.frames q ≡ None → Covers g variables heap → slot_of variables q ≡ None

-- a variable whose slot names a node is a cell of the heap
abbrev pub NodeIsCell : Type 0
NodeIsCell = (g : Shape) (variables : List (List (Option ℕ))) (heap : List (Option ℕ)) (q k : ℕ)
    → IsGraph g → slot_of g.frames q ≡ Some k → Covers g variables heap → (c : ℕ) × (slot_of variables q ≡ Some c) × (c < length heap)

-- two variables are equal exactly where their slots' targets are
abbrev pub EqualityIsTold : Type 0
EqualityIsTold = (g : Shape) (variables : List (List (Option ℕ))) (heap : List (Option ℕ)) (p q : ℕ)
    → IsGraph g → Covers g variables heap → (slot_of g.frames p ≡ slot_of g.frames q) ↔ (slot_of variables p ≡ slot_of variables q)
