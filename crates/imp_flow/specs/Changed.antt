-- The statements that a change of a program touches: those with a point whose row is gone, or another.
use Rattle.std.specs.Prelude.{◌≡◌, ℕ, ℤ, List, [], ◌∷◌, Option, Some, None, Bool, true, false, ◌&&◌, ◌||◌, ◌==◌, nat_le, reverse}
use Rattle.std.specs.List.{Contains}
use Rattle.std.specs.List.Sorted.{IsStrictlyIncreasing}
use Rattle.std.specs.Cmp.Lexicographic.{pointwise}
use Rattle.std.specs.Ordering.{int_eq}
use Rattle.base_values.specs.Equal.{same}
use Rattle.imp_slots.specs.Codes.{guard_code}
use Rattle.imp_slots.specs.PartCodes.{invoke_code}
use Rattle.imp_slots.specs.EnumCodes.{stmt_coded}
use Rattle.batch_meaning.specs.Batch.{LoopOptions}
use Rattle.cell_names.specs.declared.frame.NameFrame.{NameFrame}
use Rattle.cell_names.specs.declared.frame.Point.{Point}
use Rattle.cell_names.specs.declared.frame.Point.TheVariants.{Entry}
use Rattle.cell_names.specs.contracts.frame.PointPartialEq.TheImpl as points
use Rattle.cell_rows.specs.Rows.{Row}
use Rattle.cell_rows.specs.Flat.{flat_row}
use Rattle.imp_flow.specs.Owners.{owner}
use Rattle.imp_flow.specs.declared.changed.ProcPair.{ProcPair}
use Rattle.imp_flow_rows.specs.declared.node.Leave.{Leave}
use Rattle.imp_flow_rows.specs.contracts.node.LeavePartialEq.TheImpl as leaves
use Rattle.imp_flow_rows.specs.Shapes.{Shape, Act, If, While, Call}
use Rattle.imp_flow.specs.Plans.{Plan, thresholds_at}

-- A point of the statement that has a row in the old program, and not the same one in the new.
pub record IsChanged (old new : Plan) (n : ℕ) : Type 0 where
  pub path : List NameFrame
  pub point : Point
  pub row : Row
  pub owned : owner path point ≡ n
  pub had : flat_row old.engine (reverse old.program) path point ≡ Some row
  pub lost : flat_row new.engine (reverse new.program) path point ≡ Some row → ⊥

-- These are the changed statements, each once.
pub record AreChanged (old new : Plan) (ns : List ℕ) : Type 0 where
  pub rising : IsStrictlyIncreasing ns
  pub only : (n : ℕ) → Contains ns n → IsChanged old new n
  pub all : (n : ℕ) → IsChanged old new n → Contains ns n

-- the start of main
abbrev pub is_start : List NameFrame → Point → Bool
is_start [] Entry = true
is_start _ _ = false

-- Each point of the statement keeps its row, except the start of main.
abbrev pub Stays : Plan → Plan → ℕ → Type 0
Stays old new n =
    (w : List NameFrame) (p : Point) (r : Row) →
    owner w p ≡ n →
    is_start w p ≡ false →
    flat_row old.engine (reverse old.program) w p ≡ Some r →
    flat_row new.engine (reverse new.program) w p ≡ Some r

-- The last break, and those before.
abbrev pub last_of : Leave → List Leave → Leave × List Leave
last_of l [] = (l, [])
last_of l (m ∷ ls) = let e = last_of m ls in (e.0, l ∷ e.1)

abbrev pub last_leave : List Leave → Option (Leave × List Leave)
last_leave [] = None
last_leave (l ∷ ls) = Some (last_of l ls)

-- Of the last break only the point before it counts.
abbrev pub same_ends : Option (Leave × List Leave) → Option (Leave × List Leave) → Bool
same_ends None None = true
same_ends None (Some f) = false
same_ends (Some e) None = false
same_ends (Some e) (Some f) = points.ghosts.eq e.0.front f.0.front && pointwise leaves.ghosts.eq e.1 f.1

abbrev pub same_leaves : List Leave → List Leave → Bool
same_leaves ls ks = same_ends (last_leave ls) (last_leave ks)

-- The ends of two loops' bodies give the same rounds: there are rounds where the budget has any, and they are widened
-- from the delay on.
abbrev pub same_rounds : LoopOptions → (same_thresholds : Bool) → Point → Point → Bool
same_rounds engine same_thresholds p q = (engine.budget == 0) || (points.ghosts.eq p q && (nat_le engine.budget engine.widening.delay || same_thresholds))

-- whether the procedures at these places have the same thresholds
abbrev pub same_thresholds : (old new : Plan) → ℕ → ℕ → Bool
same_thresholds old new p q = pointwise int_eq (thresholds_at old p) (thresholds_at new q)

-- a pair of procedures says whether they have
abbrev pub IsTold : (old new : Plan) → ProcPair → Type 0
IsTold old new pair = pair.is_same ≡ same_thresholds old new pair.place pair.other

module _ (engine : LoopOptions) (thresholds others : List ℤ) where
  -- After the same point two statements with these shapes have the same rows.
  abbrev pub same_shapes : Shape → Shape → Bool
  same_shapes (Act s) (Act t) = same stmt_coded s t
  same_shapes (If g t e) (If h u f) = same guard_code g h && points.ghosts.eq t u && points.ghosts.eq e f
  same_shapes (While g p ls) (While h q ks) = same guard_code g h && same_leaves ls ks && same_rounds engine (pointwise int_eq thresholds others) p q
  same_shapes (Call i c (Some p)) (Call j d (Some q)) = same invoke_code i j && points.ghosts.eq p q
  same_shapes _ _ = false

-- whether a statement with this shape is a loop
abbrev pub is_looping : Shape → Bool
is_looping (While g p ls) = true
is_looping _ = false
