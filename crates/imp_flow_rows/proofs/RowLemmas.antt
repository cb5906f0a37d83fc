-- The rows of a statement by what is known of it.
use Rattle.std.proofs.Common.{◌≡◌, ℕ, zero, suc, ℤ, Bool, true, false, nat_lt, List, ◌∷◌, length, Option, Some, None, is_some, slice_get, refl, sym, ap, ◌∙◌}
use Rattle.std.proofs.lemmas.Option.{same_Some}
use Rattle.imp_slots.specs.Plain.{Guard, Invoke}
use Rattle.imp_syntax.specs.Plain.{Statement}
use Rattle.imp_syntax.specs.Plain as tree
use Rattle.batch_meaning.specs.Batch.{LoopOptions}
use Rattle.batch_meaning.specs.Places.{if_some}
use Rattle.cell_names.specs.declared.frame.NameFrame.{NameFrame}
use Rattle.cell_names.specs.declared.frame.NameFrame.TheVariants.{InCall, InLoop}
use Rattle.cell_names.specs.declared.frame.Point.{Point}
use Rattle.cell_names.specs.Paths.{CellName}
use Rattle.cell_rows.specs.Names.{name}
use Rattle.cell_rows.specs.Rows.{Row, One, Two, Joins, Assumes, Leaves, next_operation}
use Rattle.imp_check.specs.declared.entry.Entry as known
use Rattle.imp_flow_rows.specs.Entered.{Table, branching}
use Rattle.imp_flow_rows.specs.Inputs.{first_of, BeginsWith}
use Rattle.imp_flow_rows.specs.NodeRows.{Looping, looping, choosing, where_so, breaks_of, fronts_of, iterate_at, joined_at, before_behind, before_by, before_post, before_iterate, behind_loop, post_by, post_at, branch_by, enter_by, next_at}
use Rattle.imp_flow_rows.specs.declared.node.Leave.{Leave}
use Rattle.imp_flow_rows.specs.Shapes.{Node, Shape, Act, If, While, Call, callee_at, is_while, is_bare}

-- Into a block of an if, by its condition.
pub branch_chosen : (w : List NameFrame) (h : Bool) (p : Point) (s : Shape) → branch_by w h p s ≡ if_some (choosing s) (λ g. Some (One (Assumes g h) (name w p)))
branch_chosen w h p (Act s) = refl
branch_chosen w h p (If g t e) = refl
branch_chosen w h p (While g end ls) = refl
branch_chosen w h p (Call i q end) = refl

-- A statement with a condition calls nothing.
pub enters_none : (w : List NameFrame) (p : Point) (at : Table) (x : known.Entry) (g : Guard) (s : Statement) → enter_by w p (branching at x g s) ≡ None
enters_none w p at x g (tree.Simple n a) = refl
enters_none w p at x g (tree.Break n) = refl
enters_none w p at x g (tree.Call n y q es) = refl
enters_none w p at x g (tree.If n c t e) = refl
enters_none w p at x g (tree.While n c b) = refl

pub calls_none : (at : Table) (x : known.Entry) (g : Guard) (s : Statement) → callee_at (branching at x g s) ≡ None
calls_none at x g (tree.Simple n a) = refl
calls_none at x g (tree.Break n) = refl
calls_none at x g (tree.Call n y q es) = refl
calls_none at x g (tree.If n c t e) = refl
calls_none at x g (tree.While n c b) = refl

pub bare_never : (at : Table) (x : known.Entry) (g : Guard) (s : Statement) → is_bare (branching at x g s) ≡ false
bare_never at x g (tree.Simple n a) = refl
bare_never at x g (tree.Break n) = refl
bare_never at x g (tree.Call n y q es) = refl
bare_never at x g (tree.If n c t e) = refl
bare_never at x g (tree.While n c b) = refl

-- A while by its condition.
pub while_loops : (s : Shape) → is_while s ≡ is_some (looping s)
while_loops (Act s) = refl
while_loops (If g t e) = refl
while_loops (While g end ls) = refl
while_loops (Call i q end) = refl

-- The first input of the row after a statement, and of an iterate.
module _ (w : List NameFrame) where
  begins_joined : (n : ℕ) (ls : List Leave) (i : ℕ) (o : Option Point) → BeginsWith (if_some o (λ p. Some (Joins false (name w (joined_at n (breaks_of ls) i)) n w p))) (name w (joined_at n (breaks_of ls) i))
  begins_joined n ls i None r e = absurd cc
  begins_joined n ls i (Some p) r e = ap first_of (sym (same_Some _ r e))

  begins_behind : (n : ℕ) (g : Guard) (ls : List Leave) (k : ℕ) → BeginsWith (behind_loop w n g ls k) (name w (before_behind n ls k))
  begins_behind n g ls zero r e = ap first_of (sym (same_Some _ r e))
  begins_behind n g ls (suc i) r e = begins_joined n ls i (slice_get (fronts_of ls) i) r e

  begins_call : (n : ℕ) (p : Point) (i : Invoke) (o : Option Point) → BeginsWith (if_some o (λ e. Some (Two (Leaves i.returning) (name w p) (name (InCall n ∷ w) e)))) (name w p)
  begins_call n p i None r e = absurd cc
  begins_call n p i (Some q) r e = ap first_of (sym (same_Some _ r e))

  begins_by : (n : ℕ) (p : Point) (s : Shape) → BeginsWith (post_by w n p s) (name w (before_by n p s))
  begins_by n p (Act s) r e = ap first_of (sym (same_Some _ r e))
  begins_by n p (If g t f) r e = ap first_of (sym (same_Some _ r e))
  begins_by n p (While g end ls) r e = begins_behind n g ls (length ls) r e
  begins_by n p (Call i q end) r e = begins_call n p i end r e

  pub begins_post : (x : Node) → BeginsWith (post_at w x) (name w (before_post x))
  begins_post x = begins_by x.stmt x.front x.shape

  begins_if : (b : Bool) (x : Row) (y : CellName) → first_of x ≡ Some y → BeginsWith (where_so b x) y
  begins_if true x y h r e = ap first_of (sym (same_Some x r e)) ∙ h
  begins_if false x y h r e = absurd cc

  pub begins_next : (engine : LoopOptions) (ms : List ℤ) (k : ℕ) (x : Node) → BeginsWith (next_at w engine ms k x) (name w (before_iterate k x))
  begins_next engine ms k x = by (looping x.shape)
    where
      by : (o : Option Looping) → BeginsWith (if_some o (λ l. where_so (nat_lt k engine.budget) (Two (next_operation engine ms k) (name w (iterate_at x.stmt x.front k)) (name (InLoop x.stmt k ∷ w) l.end)))) (name w (before_iterate k x))
      by None r e = absurd cc
      by (Some l) r e = begins_if (nat_lt k engine.budget) _ _ refl r e
