-- What the cells hold, by the batch interpreter; and the rows' operations on it.
use Rattle.std.specs.Prelude.{ℕ, zero, suc, List, [], ◌∷◌, length, Option, Some, None, Bool, true, false, if◌then◌else◌, nat_lt, slice_get}
use Rattle.imp_slots.specs.Plain.{Layout, Guard, DoBreak, Does, Code, Stop, Simple, If, While, Call, Break, Routine}
use Rattle.domain_laws.specs.Operations.{Operations}
use Rattle.batch_meaning.specs.Values.{Value, State, Over, lift, lift2}
use Rattle.batch_meaning.specs.Batch.{LoopOptions, Passed, Fixed, settle, fix, head_of, behind, batch, calls_of}
use Rattle.batch_meaning.specs.Places.{main_layout}
use Rattle.daig_order.specs.Asking.{Rows}
use Rattle.cell_names.specs.declared.frame.NameFrame.{NameFrame}
use Rattle.cell_names.specs.declared.frame.NameFrame.TheVariants.{InLoop}
use Rattle.cell_names.specs.declared.frame.Point.{Point}
use Rattle.cell_names.specs.Paths.{CellName}
use Rattle.cell_rows.specs.Blocks.{iterate_at, round}
use Rattle.cell_rows.specs.Names.{Scope, name, Algebra, bare, iterate_point, mark_of, Mark}
use Rattle.cell_rows.specs.Rows.{Unary, Posts, Assumes, Enters, Exits, Binary, JoinsBoth, Leaves, Widens, Row, Init, One, Two, Fixed as FixedRow, Joins, row}

-- What a cell holds: a value, and at a loop's fixed point, and after the loop with the first of its breaks, also the
-- loop's index.
abbrev pub Cell : Type 0 → Type 0
Cell S = Fixed S

abbrev pub cell : {S : Type 0} → Value S → ℕ → Cell S
cell v k = record { value = v; index = k }

abbrev pub plain : {S : Type 0} → Value S → Cell S
plain v = cell v 0

module _ {S : Type 0} (dom : Operations S) (engine : LoopOptions) where
  -- A value joined with the first i of these.
  abbrev pub with_one : Value S → Option (Value S) → Value S
  with_one v None = v
  with_one v (Some x) = lift2 dom.join v x

  abbrev pub joined_to : ℕ → Value S → List (Value S) → Value S
  joined_to zero v xs = v
  joined_to (suc i) v xs = with_one (joined_to i v xs) (slice_get xs i)

  module _ (scope : Scope) (z : List ℕ) where
    abbrev pub calls : ℕ → ℕ → Value S → Value S
    calls = calls_of dom engine scope.earlier z

    abbrev pub block : Code → Value S → Passed S
    block = batch dom engine scope.thresholds z calls

    -- The value after the first statement of this code.
    abbrev pub after_value : Code → Value S → Value S
    after_value Stop a = a
    after_value (Simple n effect r) a = lift (dom.post (Does effect)) a
    after_value (If n guard t e r) a = lift2 dom.join (block t (lift (dom.assume guard true) a)).value (block e (lift (dom.assume guard false) a)).value
    after_value (While n guard b r) a = behind dom engine guard (block b) (head_of dom engine scope.thresholds z n guard (block b) a).value
    after_value (Call n call q r) a = lift2 (dom.leave call.returning) a (calls n q (lift (dom.enter call.entering) a))
    after_value (Break n r) a = lift (dom.post DoBreak) a

    abbrev pub one_round : Guard → Code → Value S → Value S
    one_round = round dom engine scope.thresholds z calls

    abbrev pub iterate_value : Guard → Code → ℕ → Cell S → Cell S
    iterate_value guard body zero a = a
    iterate_value guard body (suc k) a = plain (iterate_at dom engine scope.thresholds (one_round guard body) a.value (suc k))

    abbrev pub fix_value : ℕ → Guard → Code → Cell S → Cell S
    fix_value n guard body a = fix dom engine scope.thresholds (one_round guard body) (Over n z) a.value

    abbrev pub leap_value : ℕ → Guard → Code → ℕ → Cell S → Cell S
    leap_value n guard body i a =
        let f = fix_value n guard body a in
        cell (joined_to i (lift (dom.assume guard false) f.value) (block body (lift (dom.assume guard true) f.value)).leaving) f.index

  abbrev pub values : Layout → Algebra (Cell S)
  values layout = record {
    start = plain (State (dom.init layout));
    after = λ scope z c a. plain (after_value scope z c a.value);
    into = λ h guard a. plain (lift (dom.assume guard h) a.value);
    enter = λ entering a. plain (lift (dom.enter entering) a.value);
    iterate = iterate_value;
    fixed = fix_value;
    exit = λ scope z n guard body a. leap_value scope z n guard body 0 a;
    leap = λ scope z n guard body i a. leap_value scope z n guard body (suc i) a;
  }

  abbrev pub unary : Unary → Cell S → Cell S
  unary (Posts act) a = plain (lift (dom.post act) a.value)
  unary (Assumes guard h) a = plain (lift (dom.assume guard h) a.value)
  unary (Enters entering) a = plain (lift (dom.enter entering) a.value)
  unary (Exits guard) a = cell (lift (dom.assume guard false) a.value) a.index

  abbrev pub binary : Binary → Cell S → Cell S → Cell S
  binary JoinsBoth a b = plain (lift2 dom.join a.value b.value)
  binary (Leaves returning) a b = plain (lift2 (dom.leave returning) a.value b.value)
  binary (Widens thresholds) a b = plain (lift2 (dom.widen thresholds) a.value b.value)

  -- Whether another iterate is wanted: `left` of the budget, the last iterate that was read, and the values of those after it.
  abbrev pub again : S → Value S → (S → Bool) → Bool
  again s (Over n z) go = false
  again s (State t) go = if dom.same t s then false else go t

  abbrev pub wants : ℕ → S → List (Cell S) → Bool
  wants zero s vs = false
  wants (suc left) s [] = true
  wants (suc left) s (v ∷ vs) = again s v.value (λ t. wants left t vs)

  abbrev pub wants_at : Value S → List (Cell S) → Bool
  wants_at (Over n z) vs = false
  wants_at (State s) vs = wants engine.budget s vs

  abbrev pub wants_first : List (Cell S) → Bool
  wants_first [] = true
  wants_first (v ∷ vs) = wants_at v.value vs

  -- What a loop's fixed point is, by its iterates.
  abbrev pub ends : Value S → ℕ → ℕ → S → List (Cell S) → Cell S
  ends over zero k s vs = plain over
  ends over (suc left) k s [] = plain over
  ends over (suc left) k s (v ∷ vs) = settle dom engine k s v.value (λ t. ends over left (suc k) t vs)

  abbrev pub ends_at : Value S → Value S → List (Cell S) → Cell S
  ends_at over (Over n z) vs = plain (Over n z)
  ends_at over (State s) vs = ends over engine.budget 0 s vs

  abbrev pub ends_first : Value S → List (Cell S) → Cell S
  ends_first over [] = plain over
  ends_first over (v ∷ vs) = ends_at over v.value vs

  -- The next input of a row, by the values of those so far.
  abbrev pub right_of : ℕ → List NameFrame → Point → Value S → ℕ → Option CellName
  right_of n w p (Over m z) k = None
  right_of n w p (State s) k = if nat_lt k engine.budget then Some (name (InLoop n k ∷ w) p) else None

  abbrev pub asks_row : Row → List (Cell S) → Option CellName
  asks_row (Init layout) vs = None
  asks_row (One op a) [] = Some a
  asks_row (One op a) (v ∷ vs) = None
  asks_row (Two op a b) [] = Some a
  asks_row (Two op a b) (v ∷ []) = Some b
  asks_row (Two op a b) (v ∷ u ∷ vs) = None
  asks_row (FixedRow n z w p) vs = if wants_first vs then Some (name w (iterate_point engine bare n p (length vs))) else None
  asks_row (Joins stays l n w p) [] = Some l
  asks_row (Joins stays l n w p) (v ∷ []) = right_of n w p v.value v.index
  asks_row (Joins stays l n w p) (v ∷ u ∷ vs) = None

  abbrev pub index_if : Bool → ℕ → ℕ
  index_if true k = k
  index_if false k = 0

  -- The value of a row, by those of its inputs.
  abbrev pub nothing : Cell S
  nothing = plain (State (dom.init (record { numbers = []; links = [] })))

  abbrev pub operation_row : Row → List (Cell S) → Cell S
  operation_row (Init layout) vs = plain (State (dom.init layout))
  operation_row (One op a) [] = nothing
  operation_row (One op a) (v ∷ vs) = unary op v
  operation_row (Two op a b) [] = nothing
  operation_row (Two op a b) (v ∷ []) = nothing
  operation_row (Two op a b) (v ∷ u ∷ vs) = binary op v u
  operation_row (FixedRow n z w p) vs = ends_first (Over n z) vs
  operation_row (Joins stays l n w p) [] = nothing
  operation_row (Joins stays l n w p) (v ∷ []) = cell v.value (index_if stays v.index)
  operation_row (Joins stays l n w p) (v ∷ u ∷ vs) = cell (lift2 dom.join v.value u.value) (index_if stays v.index)

  abbrev pub most_row : Row → ℕ
  most_row (Init layout) = 0
  most_row (One op a) = 1
  most_row (Two op a b) = 2
  most_row (FixedRow n z w p) = suc engine.budget
  most_row (Joins stays l n w p) = 2

  abbrev pub by_row : {A : Type 0} → Option Row → A → (Row → A) → A
  by_row None a f = a
  by_row (Some r) a f = f r

  abbrev pub rank_of : {V : Type 0} → Option (Mark V) → ℕ
  rank_of None = 0
  rank_of (Some m) = m.rank

  abbrev pub value_of_mark : Option (Mark (Cell S)) → Cell S
  value_of_mark None = nothing
  value_of_mark (Some m) = m.value

  module _ (program : List Routine) where
    -- The value of a name, by the batch interpreter along its path.
    abbrev pub value_of_name : CellName → Cell S
    value_of_name x = value_of_mark (mark_of engine (values (main_layout program)) program x)

    abbrev pub rank_of_name : CellName → ℕ
    rank_of_name x = rank_of (mark_of engine bare program x)

    abbrev pub row_of_name : CellName → Option Row
    row_of_name x = row engine bare program x

    abbrev pub table : (CellName → CellName → Bool) → Rows CellName (Cell S)
    table same = record {
      same = same;
      asks = λ x vs. by_row (row_of_name x) None (λ r. asks_row r vs);
      operation = λ x vs. by_row (row_of_name x) nothing (λ r. operation_row r vs);
      most = λ x. by_row (row_of_name x) 0 most_row;
      rank = rank_of_name;
    }
