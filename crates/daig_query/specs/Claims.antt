-- What is claimed of walks, and of cells over an edit.
use Rattle.std.specs.Prelude.{◌≡◌, ℕ, List, ◌∷◌, ◌++◌, drop, length, Some, true, slice_get}
use Rattle.std.specs.FinMap.{get}
use Rattle.domain_laws.specs.Operations.{Operations}
use Rattle.daig_order.specs.InTurn.{missing_in_turn}
use Rattle.cell_names.specs.Paths.{CellName}
use Rattle.cell_rows.specs.Cells.{Cell}
use Rattle.cell_rows.specs.Claims.{rows_of}
use Rattle.cell_rows.specs.Targets.{Target, demanded}
use Rattle.daig_demands.specs.Claims.{names_of}
use Rattle.daig_graph.specs.Cells.{Filled}
use Rattle.daig_graph.specs.Held.{IsIn}
use Rattle.daig_traces.specs.Traces.{IsTrace}
use Rattle.imp_flow.specs.Plans.{Plan}
use Rattle.cell_graph.specs.Same.{same_name}
use Rattle.cell_graph.specs.Holds.{HoldsCells}
use Rattle.daig_query.specs.declared.held.Held.{Held}
use Rattle.daig_query.specs.declared.store.Store.{Store}
use Rattle.daig_query.specs.declared.walk.Walk.{Walk}
use Rattle.daig_query.specs.Kept.{kept, Grows}
use Rattle.daig_query.specs.Right.{found, IsRight}
use Rattle.daig_query.specs.Stale.{AreStaleOf}
use Rattle.daig_query.specs.Filled.{missing, Fills}
use Rattle.daig_query.specs.Walked.{IsNew, IsGood, IsDone}

-- A walk that is to begin is good for any targets.
abbrev pub NewWalksAreGood : {S : Type 0} → Operations S → Type 0
NewWalksAreGood {S} dom = (plan : Plan) (ts : List Target) (store : Store S) (w : Walk) → IsRight dom plan store → IsNew w → IsGood dom plan ts store w

-- A walk stays good while cells are only added, ..
abbrev pub WalksStayGood : {S : Type 0} → Operations S → Type 0
WalksStayGood {S} dom = (plan : Plan) (ts : List Target) (old new : Store S) (w : Walk) → IsRight dom plan new → Grows old new → IsGood dom plan ts old w → IsGood dom plan ts new w

-- .. and done.
abbrev pub DoneStaysDone : {S : Type 0} → Operations S → Type 0
DoneStaysDone {S} dom = (plan : Plan) (ts : List Target) (old new : Store S) (w : Walk) → IsRight dom plan new → Grows old new → IsDone dom plan ts old w → IsDone dom plan ts new w

-- After a fill of the first so many, the rest is missing.
abbrev pub RestIsMissing : {S : Type 0} → Operations S → Type 0
RestIsMissing {S} dom = (plan : Plan) (ts : List Target) (old new : Store S) (count : ℕ) → IsRight dom plan old → Fills dom plan ts old new count → missing dom plan ts new ≡ drop count (missing dom plan ts old)

-- Demands in turn, as a report makes them, fill what the first fills, and then what the others do over the cells that are
-- kept after it.
abbrev pub DemandsAreInTurn : {S : Type 0} → Operations S → Type 0
DemandsAreInTurn {S} dom =
    (plan : Plan) (ts : List Target) (old new : Store S) (xss : List (List CellName)) → Fills dom plan ts old new (length (missing dom plan ts old)) →
    missing_in_turn (names_of dom plan.engine plan.program same_name) (kept old) (demanded (found dom plan) ts ∷ xss) ≡ missing dom plan ts old ++ missing_in_turn (names_of dom plan.engine plan.program same_name) (kept new) xss

-- The cells of a store that is right are those of the program.
abbrev pub RightHolds : {S : Type 0} → Operations S → Type 0
RightHolds {S} dom = (plan : Plan) (store : Store S) → IsRight dom plan store → HoldsCells dom plan store.names.names store.graph.cells

-- some cells are gone, and all else is as it was
pub record Lessens {S : Type 0} (old new : Store S) : Type 0 where
  pub names : new.names ≡ old.names
  pub states : new.states ≡ old.states
  pub operations : new.operations ≡ old.operations
  pub memo : new.memo ≡ old.memo
  pub recent : new.recent ≡ old.recent
  pub cells : (n : ℕ) (f : Filled Held) → get new.graph.cells n ≡ Some f → get old.graph.cells n ≡ Some f

-- What a name asked for, so many inputs, and made of them in one program, it asks for and makes in another.
abbrev pub KeepsTraces : {S : Type 0} → Operations S → (old new : Plan) → CellName → (inputs : ℕ) → Type 0
KeepsTraces {S} dom old new x inputs =
    (xs : List CellName) (vs : List (Cell S)) (v : Cell S) → length xs ≡ inputs →
    IsTrace (rows_of dom old.engine old.program same_name) x xs vs v → IsTrace (rows_of dom new.engine new.program same_name) x xs vs v

-- Where some cells are gone, and those that are left are cells of another program, which finds the same at each, and the
-- stale ones are some that are gone, none of the touched, and the names of all others that are planned keep their traces,
-- all is right for that program.
abbrev pub RestIsRight : {S : Type 0} → Operations S → Type 0
RestIsRight {S} dom =
    (old new : Plan) (before after : Store S) (order touched : List ℕ) → IsRight dom old before → Lessens before after → HoldsCells dom new after.names.names after.graph.cells →
    ((x : CellName) → kept after x ≡ true → found dom new x ≡ found dom old x) →
    AreStaleOf before.graph.cells order touched after.stale →
    ((n : ℕ) (f : Filled Held) (x : CellName) → get before.graph.cells n ≡ Some f → IsIn order n → (IsIn touched n → ⊥) → slice_get before.names.names n ≡ Some x → KeepsTraces dom old new x (length f.inputs)) →
    IsRight dom new after
