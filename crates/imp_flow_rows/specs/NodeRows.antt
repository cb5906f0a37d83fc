-- The rows of a statement's points, by its node alone.
use Rattle.std.specs.Prelude.{ℕ, zero, suc, ℤ, List, ◌∷◌, length, map, Option, Some, None, Bool, true, false, if◌then◌else◌, nat_lt, slice_get}
use Rattle.imp_slots.specs.Plain.{Guard}
use Rattle.imp_slots.specs.ActionViews.{act_of}
use Rattle.batch_meaning.specs.Batch.{LoopOptions}
use Rattle.batch_meaning.specs.Places.{if_some}
use Rattle.cell_names.specs.declared.frame.NameFrame.{NameFrame}
use Rattle.cell_names.specs.declared.frame.NameFrame.TheVariants.{InCall, InLoop}
use Rattle.cell_names.specs.declared.frame.Point.{Point}
use Rattle.cell_names.specs.declared.frame.Point.TheVariants.{Body, Iterate, Fix, Exit, Leap}
use Rattle.cell_rows.specs.Names.{name, place_of, item}
use Rattle.cell_rows.specs.Rows.{Posts, Assumes, Enters, Exits, JoinsBoth, Leaves, Row, One, Two, Fixed, Joins, next_operation, sites_of}
use Rattle.imp_check.specs.declared.entry.Entry as known
use Rattle.imp_flow_rows.specs.declared.node.Leave.{Leave}
use Rattle.imp_flow_rows.specs.Entered.{Table, behind_or, leaves_by}
use Rattle.imp_flow_rows.specs.Shapes.{Node, Shape, Act, If, While, Call}

abbrev pub breaks_of : List Leave → List ℕ
breaks_of ls = map (λ (l : Leave). l.stmt) ls

abbrev pub fronts_of : List Leave → List Point
fronts_of ls = map (λ (l : Leave). l.front) ls

-- the iterate k of the loop n after the point p
abbrev pub iterate_at : (n : ℕ) → (p : Point) → (k : ℕ) → Point
iterate_at n p zero = p
iterate_at n p (suc k) = Iterate n (suc k)

-- the value after the loop n with its first i breaks
abbrev pub joined_at : (n : ℕ) → List ℕ → (i : ℕ) → Point
joined_at n breaks zero = Exit n
joined_at n breaks (suc i) = Leap n (item breaks i)

-- The point of the first input of the row after the loop n, by how many breaks it has, and after any statement.
abbrev pub before_behind : (n : ℕ) → List Leave → ℕ → Point
before_behind n ls zero = Fix n
before_behind n ls (suc i) = joined_at n (breaks_of ls) i

abbrev pub before_by : (n : ℕ) → Point → Shape → Point
before_by n p (Act s) = p
before_by n p (If g t e) = t
before_by n p (While g end ls) = before_behind n ls (length ls)
before_by n p (Call i q end) = p

abbrev pub before_post : Node → Point
before_post x = before_by x.stmt x.front x.shape

-- the same of the iterate after the k-th
abbrev pub before_iterate : (k : ℕ) → Node → Point
before_iterate k x = iterate_at x.stmt x.front k

abbrev pub where_so : {A : Type 0} → Bool → A → Option A
where_so true a = Some a
where_so false a = None

-- the while of a shape, if it is one
pub record Looping : Type 0 where
  pub guard : Guard
  pub end : Point
  pub leaves : List Leave

abbrev pub looping : Shape → Option Looping
looping (Act s) = None
looping (If g t e) = None
looping (While g end ls) = Some (record { guard = g; end = end; leaves = ls })
looping (Call i q end) = None

-- the same of what is known of a while
abbrev pub looping_by : Table → known.Entry → Guard → Looping
looping_by at x g = record { guard = g; end = behind_or Body x.inner.last; leaves = leaves_by at x }

-- the condition of an if, of a shape, if it is one
abbrev pub choosing : Shape → Option Guard
choosing (Act s) = None
choosing (If g t e) = Some g
choosing (While g end ls) = None
choosing (Call i q end) = None

module _ (w : List NameFrame) where
  -- after the loop n with its first breaks, and the break i
  abbrev pub joins_at : (stays : Bool) → (n : ℕ) → List Leave → (i : ℕ) → Option Row
  joins_at stays n ls i = if_some (slice_get (fronts_of ls) i) (λ p. Some (Joins stays (name w (joined_at n (breaks_of ls) i)) n w p))

  -- after a loop, by how many breaks it has
  abbrev pub behind_loop : (n : ℕ) → Guard → List Leave → ℕ → Option Row
  behind_loop n g ls zero = Some (One (Assumes g false) (name w (Fix n)))
  behind_loop n g ls (suc i) = joins_at false n ls i

  abbrev pub post_by : (n : ℕ) → Point → Shape → Option Row
  post_by n p (Act s) = Some (One (Posts (act_of s)) (name w p))
  post_by n p (If g t e) = Some (Two JoinsBoth (name w t) (name w e))
  post_by n p (While g end ls) = behind_loop n g ls (length ls)
  post_by n p (Call i q end) = if_some end (λ e. Some (Two (Leaves i.returning) (name w p) (name (InCall n ∷ w) e)))

  abbrev pub enter_by : Point → Shape → Option Row
  enter_by p (Act s) = None
  enter_by p (If g t e) = None
  enter_by p (While g end ls) = None
  enter_by p (Call i q end) = if_some end (λ e. Some (One (Enters i.entering) (name w p)))

  abbrev pub branch_by : Bool → Point → Shape → Option Row
  branch_by h p (Act s) = None
  branch_by h p (If g t e) = Some (One (Assumes g h) (name w p))
  branch_by h p (While g end ls) = None
  branch_by h p (Call i q end) = None

  -- after it, into a call, into a branch
  abbrev pub post_at : Node → Option Row
  post_at x = post_by x.stmt x.front x.shape

  abbrev pub enter_at : Node → Option Row
  enter_at x = enter_by x.front x.shape

  abbrev pub branch_at : Bool → Node → Option Row
  branch_at h x = branch_by h x.front x.shape

  -- of a loop: into a round, the iterate after the k-th, where they stop, after it by its condition, and with a break
  abbrev pub turn_at : LoopOptions → (k : ℕ) → Node → Option Row
  turn_at engine k x = if_some (looping x.shape) (λ l. where_so (nat_lt k engine.budget) (One (Assumes l.guard true) (name w (iterate_at x.stmt x.front k))))

  abbrev pub next_at : LoopOptions → List ℤ → (k : ℕ) → Node → Option Row
  next_at engine thresholds k x =
      if_some (looping x.shape) (λ l. where_so (nat_lt k engine.budget) (Two (next_operation engine thresholds k) (name w (iterate_at x.stmt x.front k)) (name (InLoop x.stmt k ∷ w) l.end)))

  abbrev pub fix_at : Node → Option Row
  fix_at x = if_some (looping x.shape) (λ l. Some (Fixed x.stmt (sites_of w) w x.front))

  abbrev pub exit_at : Node → Option Row
  exit_at x = if_some (looping x.shape) (λ l. where_so (nat_lt 0 (length l.leaves)) (One (Exits l.guard) (name w (Fix x.stmt))))

  abbrev pub leap_at : (break : ℕ) → Node → Option Row
  leap_at break x =
      if_some (looping x.shape) (λ l. if_some (place_of break (breaks_of l.leaves)) (λ i. if nat_lt (suc i) (length l.leaves) then joins_at true x.stmt l.leaves i else None))
