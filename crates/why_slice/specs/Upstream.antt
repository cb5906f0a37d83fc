-- The statements that an answer depends on.
use Rattle.std.specs.Prelude.{◌≡◌, ℕ, List, [], ◌∷◌, ◌++◌, fold, Option, Some, None, Bool, true, false, not, if◌then◌else◌, reverse, Contains}
use Rattle.std.specs.BTreeSet.{insert_key}
use Rattle.std.specs.Ordering.{nat_cmp}
use Rattle.imp_syntax.specs.declared.edit.Location.{Location}
use Rattle.imp_syntax.specs.declared.edit.Location.TheVariants.{Before, After, Head, End}
use Rattle.imp_slots.specs.Plain.{Act, DoBreak, Does, Routine}
use Rattle.imp_chains.specs.Chains.{selected}
use Rattle.domain_laws.specs.Operations.{Operations}
use Rattle.batch_meaning.specs.Values.{Value, State, Over}
use Rattle.batch_meaning.specs.Batch.{LoopOptions}
use Rattle.daig_order.specs.OrderLaws.{Needed, order}
use Rattle.cell_names.specs.declared.frame.NameFrame.{NameFrame}
use Rattle.cell_names.specs.declared.frame.NameFrame.TheVariants.{InCall, InLoop}
use Rattle.cell_names.specs.declared.frame.Point.{Point}
use Rattle.cell_names.specs.declared.frame.Point.TheVariants.{Entry, Then, Else, Body, Post, Iterate, Fix, Exit, Leap}
use Rattle.cell_names.specs.Paths.{CellName}
use Rattle.cell_rows.specs.Rows.{Unary, Posts, Assumes, Enters, Exits, Row, Init, One, Two, Fixed, Joins}
use Rattle.cell_rows.specs.Cells.{Cell}
use Rattle.cell_rows.specs.Flat.{flat_row}
use Rattle.cell_rows.specs.Targets.{Target, demanded}
use Rattle.daig_demands.specs.Claims.{found_by, names_of}

-- the statement that a location names
abbrev pub statement_at : Location → Option ℕ
statement_at (Before n) = Some n
statement_at (After n) = Some n
statement_at (Head n) = Some n
statement_at (End x) = None

-- The statement that a name names: the one of its point, of a break's point after a loop the break; of a body's start the
-- call or the loop of the last frame. The start of main names none.
abbrev pub statement_of_name : List NameFrame → Point → Option ℕ
statement_of_name [] Entry = None
statement_of_name (InCall n ∷ w) Entry = Some n
statement_of_name (InLoop n k ∷ w) Entry = None
statement_of_name [] Body = None
statement_of_name (InCall n ∷ w) Body = None
statement_of_name (InLoop n k ∷ w) Body = Some n
statement_of_name w (Then n) = Some n
statement_of_name w (Else n) = Some n
statement_of_name w (Post n) = Some n
statement_of_name w (Iterate n k) = Some n
statement_of_name w (Fix n) = Some n
statement_of_name w (Exit n) = Some n
statement_of_name w (Leap n b) = Some b

-- Numbers, rising, each once.
abbrev pub sorted_once : List ℕ → List ℕ
sorted_once ns = fold (insert_key nat_cmp) [] ns

abbrev pub listed : Option ℕ → List ℕ
listed None = []
listed (Some n) = n ∷ []

abbrev pub all_of : List (List ℕ) → List ℕ
all_of [] = []
all_of (ns ∷ nss) = ns ++ all_of nss

module _ {S : Type 0} (dom : Operations S) where
  -- a state that is not a dead one
  abbrev pub is_live : Value S → Bool
  is_live (State s) = not (dom.dead s)
  is_live (Over n z) = false

  -- What is after a simple statement hangs on the statement only where the value before it is live; all else hangs
  -- on the statement that is named. A break is no simple statement here.
  abbrev pub matters_behind : Act → Value S → Bool
  matters_behind DoBreak v = true
  matters_behind (Does e) v = is_live v

  abbrev pub matters_on : Unary → Value S → Bool
  matters_on (Posts act) v = matters_behind act v
  matters_on (Assumes guard h) v = true
  matters_on (Enters entering) v = true
  matters_on (Exits guard) v = true

  abbrev pub matters : (CellName → Cell S) → Row → Bool
  matters found (Init layout) = true
  matters found (One op a) = matters_on op (found a).value
  matters found (Two op a b) = true
  matters found (Fixed n z w p) = true
  matters found (Joins stays l n w p) = true

  module _ (engine : LoopOptions) (program : List Routine) (same : CellName → CellName → Bool) where
    -- The name hangs on the statement n that it names.
    pub record HangsOn (x : CellName) (n : ℕ) : Type 0 where
      pub row : Row
      pub is : flat_row engine (reverse program) x.path x.point ≡ Some row
      pub names : statement_of_name x.path x.point ≡ Some n
      pub counts : matters (found_by dom engine program same) row ≡ true

    -- the names that the answer at these targets needs
    abbrev pub NeededBy : List Target → CellName → Type 0
    NeededBy ts = Needed (names_of dom engine program same) (demanded (found_by dom engine program same) ts)

    -- The statements that the answer at a location of procedure p with these targets depends on: the one that the
    -- location names, the call sites of the selected chains, and those on which a name that is needed hangs.
    pub data IsUpstream (l : Location) (string : List ℕ) (p : ℕ) (ts : List Target) (n : ℕ) : Type 0 where
      at_location : statement_at l ≡ Some n → IsUpstream l string p ts n
      in_chain : (z : List ℕ) → Contains (selected program p string) z → Contains z n → IsUpstream l string p ts n
      by_name : (x : CellName) → NeededBy ts x → HangsOn x n → IsUpstream l string p ts n

    -- The same as a list: that of the names in the order in which they are filled.
    abbrev pub hung_on : CellName → Option Row → List ℕ
    hung_on x None = []
    hung_on x (Some r) = if matters (found_by dom engine program same) r then listed (statement_of_name x.path x.point) else []

    abbrev pub all_hung : List CellName → List ℕ
    all_hung [] = []
    all_hung (x ∷ xs) = hung_on x (flat_row engine (reverse program) x.path x.point) ++ all_hung xs

    abbrev pub needed_by : List Target → List CellName
    needed_by ts = order (names_of dom engine program same) (demanded (found_by dom engine program same) ts)

    -- The list of the statements that an answer depends on, rising, each once.
    abbrev pub upstream : Location → (string : List ℕ) → (p : ℕ) → List Target → List ℕ
    upstream l string p ts = sorted_once (listed (statement_at l) ++ (all_of (selected program p string) ++ all_hung (needed_by ts)))
