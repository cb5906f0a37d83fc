-- What a turn of the machine does to the names that are being filled.
use Rattle.std.specs.Prelude.{◌≡◌, ℕ, ◌+◌, ◌*◌, ◌≤◌, ◌⊎◌, Bool, true, false, List, [], ◌∷◌, ◌++◌, map, Result, IfOk, OnErr}
use Rattle.domain_laws.specs.Operations.{Operations}
use Rattle.daig_order.specs.Order.{member}
use Rattle.cell_names.specs.Paths.{CellName}
use Rattle.cell_rows.specs.Targets.{Target}
use Rattle.imp_flow.specs.Plans.{Plan}
use Rattle.cell_graph.specs.Same.{same_name}
use Rattle.cell_graph.specs.Asked.{inputs}
use Rattle.daig_query.specs.declared.opening.Open.{Open}
use Rattle.daig_query.specs.declared.store.Store.{Store}
use Rattle.daig_query.specs.declared.turning.TurnOutcome.{TurnOutcome}
use Rattle.daig_query.specs.declared.turning.TurnOutcome.TheVariants.{Pushed, Filled, Spent, Done}
use Rattle.daig_query.specs.declared.walk.Walk.{Walk}
use Rattle.daig_query.specs.Kept.{kept, AddsNoCell, Grows, Names}
use Rattle.daig_query.specs.Right.{IsRight}
use Rattle.daig_query.specs.Opened.{name_of, Puts}
use Rattle.daig_query.specs.Walked.{IsDone, IsGood}

-- the names on a stack, the last on top
abbrev pub stacked_names : {S : Type 0} → Store S → List Open → List CellName
stacked_names store stack = map (name_of store) stack

-- the name on top has no cell
abbrev pub IsTopAbsent : {S : Type 0} → Store S → List Open → Type 0
IsTopAbsent store stack = (rest : List Open) (o : Open) → stack ≡ rest ++ o ∷ [] → kept store (name_of store o) ≡ false

-- The name on top has a cell more among its inputs; or it is what it was, as where there is none.
abbrev pub HandsDown : (cell : ℕ) → (old new : List Open) → Type 0
HandsDown cell old new = (new ≡ old) ⊎ ((rest : List Open) × (o : Open) × (old ≡ rest ++ o ∷ []) × (new ≡ rest ++ record o { inputs = o.inputs ++ cell ∷ [] } ∷ []))

-- each of these has a cell
abbrev pub AreKept : {S : Type 0} → Store S → List CellName → Type 0
AreKept store xs = (x : CellName) → member same_name xs x ≡ true → kept store x ≡ true

-- how many cells it fills
abbrev pub fills_of : TurnOutcome → ℕ
fills_of Pushed = 0
fills_of Filled = 1
fills_of Spent = 0
fills_of Done = 0

-- A name is filled where one may be, and is waited with where none may be.
abbrev pub Obeys : (spent : Bool) → TurnOutcome → Type 0
Obeys spent Pushed = Unit {0}
Obeys spent Filled = spent ≡ false
Obeys spent Spent = spent ≡ true
Obeys spent Done = Unit {0}

-- After the names `before`, a name without a cell is pushed.
pub record Pushes {S : Type 0} (old new : Store S) (before : List CellName) (after : Walk) : Type 0 where
  pub top : CellName
  pub names : stacked_names new after.stack.items ≡ before ++ top ∷ []
  pub absent : kept new top ≡ false
  pub only : Names old new

module _ {S : Type 0} (dom : Operations S) (plan : Plan) (ts : List Target) where
  -- The name on top, all of whose inputs have cells, is filled and taken off.
  pub record FillsTop (old new : Store S) (before : List CellName) (after : Walk) : Type 0 where
    pub top : CellName
    pub names : before ≡ stacked_names new after.stack.items ++ top ∷ []
    pub ready : AreKept old (inputs dom plan top)
    pub puts : Puts dom plan old new top

  -- The name on top could be filled, and is not.
  pub record Waits (old new : Store S) (before : List CellName) (after : Walk) : Type 0 where
    pub rest : List CellName
    pub top : CellName
    pub names : stacked_names new after.stack.items ≡ before
    pub split : before ≡ rest ++ top ∷ []
    pub ready : AreKept new (inputs dom plan top)
    pub only : Names old new

  -- Nothing is missing.
  pub record Ends (old new : Store S) (before : List CellName) (after : Walk) : Type 0 where
    pub names : stacked_names new after.stack.items ≡ before
    pub bottom : before ≡ []
    pub done : IsDone dom plan ts new after
    pub only : Names old new

  abbrev pub Turns : (old new : Store S) → (before : List CellName) → (after : Walk) → TurnOutcome → Type 0
  Turns old new before after Pushed = Pushes old new before after
  Turns old new before after Filled = FillsTop old new before after
  Turns old new before after Spent = Waits old new before after
  Turns old new before after Done = Ends old new before after

-- A turn, by its result. What it leaves is right and good; it does what the result says, and fills a name only where one may
-- be. Where memory runs out, no cell is added. It ticks at most `each` times, and not at all where a result fills nothing.
pub record IsTurn {S E : Type 0} (dom : Operations S) (plan : Plan) (ts : List Target) (old new : Store S) (before : List CellName) (after : Walk) (spent : Bool) (each ticks later : ℕ) (result : Result TurnOutcome E) : Type 0 where
  pub right : IsRight dom plan new
  pub grows : Grows old new
  pub walk : IsGood dom plan ts new after
  pub turns : IfOk result (Turns dom plan ts old new before after)
  pub obeys : IfOk result (Obeys spent)
  pub err : OnErr result (AddsNoCell old new)
  pub least : ticks ≤ later
  pub ticked : IfOk result (λ turn. later ≤ ticks + each * fills_of turn)
  pub most : later ≤ ticks + each
