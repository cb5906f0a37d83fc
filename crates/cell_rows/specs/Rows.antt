-- The row of a name: its operation and its inputs.
use Rattle.std.specs.Prelude.{ℕ, zero, suc, ℤ, List, [], ◌∷◌, ◌++◌, Option, Some, None, Bool, true, false, if◌then◌else◌, nat_lt, slice_get}
use Rattle.imp_slots.specs.Plain.{Layout, Guard, Act, DoBreak, Does, Entering, Returning, Code, Stop, Simple, If, While, Call, Break, Routine}
use Rattle.batch_meaning.specs.Batch.{LoopOptions}
use Rattle.batch_meaning.specs.Places.{if_some, main_layout}
use Rattle.cell_names.specs.declared.frame.NameFrame.{NameFrame}
use Rattle.cell_names.specs.declared.frame.NameFrame.TheVariants.{InCall, InLoop}
use Rattle.cell_names.specs.declared.frame.Point.{Point}
use Rattle.cell_names.specs.declared.frame.Point.TheVariants.{Entry, Then, Else, Body, Post, Iterate, Fix, Exit, Leap}
use Rattle.cell_names.specs.Paths.{CellName}
pub use Rattle.cell_names.specs.Paths.{sites_of}
use Rattle.cell_rows.specs.Names.{name, Mark, Algebra, PathBlock, breaks, break_numbers, place_of, item, statement, follow, in_call, iterate_point, when}

pub data Unary : Type 0 where
  Posts : Act → Unary
  Assumes : Guard → Bool → Unary
  Enters : Entering → Unary
  -- as Assumes, but the loop's index stays
  Exits : Guard → Unary

pub data Binary : Type 0 where
  JoinsBoth : Binary
  Leaves : Option Returning → Binary
  Widens : List ℤ → Binary

pub data Row : Type 0 where
  Init : Layout → Row
  One : Unary → CellName → Row
  Two : Binary → CellName → CellName → Row
  -- the iterates of the loop n in this path, the point before it the first
  Fixed : (n : ℕ) (sites : List ℕ) → List NameFrame → Point → Row
  -- a value after the loop n, and this point in the loop's last round; whether the loop's index stays
  Joins : (stays : Bool) (left : CellName) (n : ℕ) → List NameFrame → Point → Row

-- The point at the end of a block, and those before the breaks that leave the loop around it.
abbrev pub last_point : Code → Point → Point
last_point Stop p = p
last_point (Simple n effect r) p = last_point r (Post n)
last_point (If n guard t e r) p = last_point r (Post n)
last_point (While n guard b r) p = last_point r (Post n)
last_point (Call n call q r) p = last_point r (Post n)
last_point (Break n r) p = last_point r (Post n)

abbrev pub leave_points : Code → Point → List Point
leave_points Stop p = []
leave_points (Simple n effect r) p = leave_points r (Post n)
leave_points (If n guard t e r) p = leave_points t (Then n) ++ (leave_points e (Else n) ++ leave_points r (Post n))
leave_points (While n guard b r) p = leave_points r (Post n)
leave_points (Call n call q r) p = leave_points r (Post n)
leave_points (Break n r) p = p ∷ leave_points r (Post n)

-- The value after a loop with its first i breaks.
abbrev pub joined_point : ℕ → Code → ℕ → Point
joined_point n body zero = Exit n
joined_point n body (suc i) = Leap n (item (break_numbers body) i)

-- How the k-th iterate goes on: joined below the delay, else widened.
abbrev pub next_operation : LoopOptions → List ℤ → ℕ → Binary
next_operation engine thresholds k = if nat_lt k engine.widening.delay then JoinsBoth else Widens thresholds

module _ (engine : LoopOptions) {V : Type 0} (alg : Algebra V) where
  abbrev pub P : Type 0
  P = PathBlock engine alg

  module _ (w : List NameFrame) where
    abbrev pub enter_row : P → ℕ → Mark V → Code → Option Row
    enter_row b n x (Call m call q r) = if_some (in_call engine alg b n x (Call m call q r)) (λ d. Some (One (Enters call.entering) (name w x.point)))
    enter_row b n x _ = None

    abbrev pub turn_row : P → ℕ → ℕ → Mark V → Code → Option Row
    turn_row b n k x (While m guard body r) = when engine alg (nat_lt k engine.budget) (One (Assumes guard true) (name w (iterate_point engine alg n x.point k)))
    turn_row b n k x _ = None

    abbrev pub branch_row : Bool → P → Mark V → Code → Option Row
    branch_row h b x (If n guard t e r) = Some (One (Assumes guard h) (name w x.point))
    branch_row h b x _ = None

    abbrev pub joins_row : Bool → ℕ → Code → ℕ → Option Row
    joins_row stays n body i = if_some (slice_get (leave_points body Body) i) (λ p. Some (Joins stays (name w (joined_point n body i)) n w p))

    abbrev pub loop_row : ℕ → Guard → Code → ℕ → Option Row
    loop_row n guard body zero = Some (One (Assumes guard false) (name w (Fix n)))
    loop_row n guard body (suc i) = joins_row false n body i

    abbrev pub post_row : P → Mark V → Code → Option Row
    post_row b x Stop = None
    post_row b x (Simple n effect r) = Some (One (Posts (Does effect)) (name w x.point))
    post_row b x (If n guard t e r) = Some (Two JoinsBoth (name w (last_point t (Then n))) (name w (last_point e (Else n))))
    post_row b x (While n guard body r) = loop_row n guard body (breaks body)
    post_row b x (Call n call q r) =
        if_some (in_call engine alg b n x (Call n call q r)) (λ d. Some (Two (Leaves call.returning) (name w x.point) (name (InCall n ∷ w) (last_point d.code Entry))))
    post_row b x (Break n r) = Some (One (Posts DoBreak) (name w x.point))

    abbrev pub next_row : ℕ → P → Mark V → Code → Option Row
    next_row k b x (While n guard body r) =
        when engine alg (nat_lt k engine.budget) (Two (next_operation engine b.scope.thresholds k) (name w (iterate_point engine alg n x.point k)) (name (InLoop n k ∷ w) (last_point body Body)))
    next_row k b x _ = None

    abbrev pub fix_row : P → Mark V → Code → Option Row
    fix_row b x (While n guard body r) = Some (Fixed n b.sites w x.point)
    fix_row b x _ = None

    abbrev pub exit_row : P → Mark V → Code → Option Row
    exit_row b x (While n guard body r) = when engine alg (nat_lt 0 (breaks body)) (One (Exits guard) (name w (Fix n)))
    exit_row b x _ = None

    abbrev pub leap_row : ℕ → P → Mark V → Code → Option Row
    leap_row k b x (While n guard body r) = if_some (place_of k (break_numbers body)) (λ i. if nat_lt (suc i) (breaks body) then joins_row true n body i else None)
    leap_row i b x _ = None

  module _ (program : List Routine) where
    abbrev pub entry_row : List NameFrame → Option Row
    entry_row [] = if_some (follow engine alg program []) (λ b. Some (Init (main_layout program)))
    entry_row (InCall n ∷ w) = statement engine alg (follow engine alg program w) n (λ b. enter_row w b n)
    entry_row (InLoop n k ∷ w) = None

    abbrev pub body_row : List NameFrame → Option Row
    body_row [] = None
    body_row (InCall n ∷ w) = None
    body_row (InLoop n k ∷ w) = statement engine alg (follow engine alg program w) n (λ b. turn_row w b n k)

    abbrev pub row_at : List NameFrame → Point → Option Row
    row_at w Entry = entry_row w
    row_at w Body = body_row w
    row_at w (Then n) = statement engine alg (follow engine alg program w) n (branch_row w true)
    row_at w (Else n) = statement engine alg (follow engine alg program w) n (branch_row w false)
    row_at w (Post n) = statement engine alg (follow engine alg program w) n (post_row w)
    row_at w (Iterate n zero) = None
    row_at w (Iterate n (suc k)) = statement engine alg (follow engine alg program w) n (next_row w k)
    row_at w (Fix n) = statement engine alg (follow engine alg program w) n (fix_row w)
    row_at w (Exit n) = statement engine alg (follow engine alg program w) n (exit_row w)
    row_at w (Leap n i) = statement engine alg (follow engine alg program w) n (leap_row w i)

    abbrev pub row : CellName → Option Row
    row x = row_at x.path x.point

-- An operation is its kind together with what it uses.
pub data Op : Type 0 where
  OpInit : Layout → Op
  OpOne : Unary → Op
  OpTwo : Binary → Op
  OpFix : Op
  OpJoin : Op

abbrev pub op_of : Row → Op
op_of (Init layout) = OpInit layout
op_of (One op a) = OpOne op
op_of (Two op a b) = OpTwo op
op_of (Fixed n z w p) = OpFix
op_of (Joins stays l n w p) = OpJoin
