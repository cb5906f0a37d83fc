-- How far a demand has come.
use Rattle.std.specs.Prelude.{◌≡◌, ℕ, suc, ◌+◌, ◌-◌, ◌<◌, true, false, List, [], ◌∷◌, ◌++◌, map, take, drop, length, Option, Some, None, slice_get}
use Rattle.imp_syntax.specs.declared.edit.Location.{Location}
use Rattle.domain_laws.specs.Operations.{Operations}
use Rattle.daig_order.specs.Order.{member}
use Rattle.std.specs.FinMap.{get}
use Rattle.cell_names.specs.declared.frame.NameFrame.{NameFrame}
use Rattle.cell_names.specs.declared.frame.NameFrame.TheVariants.{InCall, InLoop}
use Rattle.cell_names.specs.declared.frame.Point.TheVariants.{Fix}
use Rattle.cell_names.specs.Known.{Known, KeepsNumbers}
use Rattle.cell_names.specs.Paths.{CellName, path_at}
use Rattle.cell_rows.specs.Names.{name}
use Rattle.cell_rows.specs.Targets.{Target, to_point, demanded, targets, value_of_target}
use Rattle.daig_demands.specs.Walks.{asks, names_left, values_left}
use Rattle.daig_demands.specs.Walks as law
use Rattle.imp_flow.specs.Plans.{Plan}
use Rattle.daig_graph.specs.Cells.{AreCells}
use Rattle.daig_query.specs.declared.opening.Open.{Open}
use Rattle.daig_query.specs.declared.store.Store.{Store}
use Rattle.daig_query.specs.declared.walk.Walk.{Walk}
use Rattle.cell_graph.specs.Same.{same_name}
use Rattle.cell_graph.specs.Named.{AreNumbers}
use Rattle.daig_query.specs.Kept.{Cells, kept}
use Rattle.daig_query.specs.Right.{found}
use Rattle.daig_query.specs.Opened.{name_of, IsOpen, next_of}

-- the fixed points of the loops that a path goes into
abbrev pub fixes : List NameFrame → List CellName
fixes [] = []
fixes (InCall n ∷ w) = fixes w
fixes (InLoop n k ∷ w) = name w (Fix n) ∷ fixes w

-- names, each with those of its path
abbrev pub with_fixes : List CellName → List CellName
with_fixes [] = []
with_fixes (x ∷ xs) = x ∷ (fixes x.path ++ with_fixes xs)

-- all of these names are among those
abbrev pub AreAmong : (xs ys : List CellName) → Type 0
AreAmong xs ys = (x : CellName) → member same_name xs x ≡ true → member same_name ys x ≡ true

-- the targets of a location under a call string
pub record AreTargets (plan : Plan) (ts : List Target) : Type 0 where
  pub location : Location
  pub string : List ℕ
  pub place : ℕ
  pub are : targets plan.program place location string ≡ Some ts

-- targets without so many steps of the first
abbrev pub behind_steps : ℕ → List Target → List Target
behind_steps k [] = []
behind_steps k (t ∷ ts) = to_point (drop k t.steps) t.last ∷ ts

-- a path and what is left of the targets
abbrev pub place_of : {S : Type 0} → List Target → Store S → Walk → law.Walk
place_of ts store w = law.walk (path_at store.names.paths w.path) (behind_steps w.step (drop w.target ts))

-- how many steps are to be taken: those that are left of each target, and one past it
abbrev pub steps_from : ℕ → List Target → ℕ
steps_from k [] = 0
steps_from k (t ∷ ts) = suc ((length t.steps - k) + steps_from 0 ts)

abbrev pub steps_left : List Target → Walk → ℕ
steps_left ts w = steps_from w.step (drop w.target ts)

-- a walk that is to begin
pub record IsNew (w : Walk) : Type 0 where
  pub target : w.target ≡ 0
  pub step : w.step ≡ 0
  pub path : w.path ≡ 0
  pub found : w.found.items ≡ []
  pub stack : w.stack.items ≡ []

-- one step further, into a frame
pub record Enters (frame : NameFrame) (names later : Known) (old new : Walk) : Type 0 where
  pub target : new.target ≡ old.target
  pub step : new.step ≡ suc old.step
  pub path : path_at later.paths new.path ≡ frame ∷ path_at names.paths old.path
  pub within : new.path < length later.paths
  pub found : new.found.items ≡ old.found.items
  pub stack : new.stack.items ≡ old.stack.items
  pub kept : KeepsNumbers names.paths later.paths
  pub same : later.names ≡ names.names

-- where it was
pub record Stays (old new : Walk) : Type 0 where
  pub target : new.target ≡ old.target
  pub step : new.step ≡ old.step
  pub path : new.path ≡ old.path
  pub found : new.found.items ≡ old.found.items
  pub stack : new.stack.items ≡ old.stack.items

-- at the next target, with a cell more that is found
pub record Leaves (cell : ℕ) (old new : Walk) : Type 0 where
  pub target : new.target ≡ suc old.target
  pub step : new.step ≡ 0
  pub path : new.path ≡ 0
  pub found : new.found.items ≡ old.found.items ++ cell ∷ []
  pub stack : new.stack.items ≡ old.stack.items

-- where it was, with the first names of its stack alone
pub record Drops (cells : Cells) (old new : Walk) : Type 0 where
  pub target : new.target ≡ old.target
  pub step : new.step ≡ old.step
  pub path : new.path ≡ old.path
  pub found : new.found.items ≡ old.found.items
  pub front : new.stack.items ≡ take (length new.stack.items) old.stack.items
  pub top : (rest : List Open) (o : Open) → new.stack.items ≡ rest ++ o ∷ [] → get cells o.cell ≡ None

module _ {S : Type 0} (dom : Operations S) (plan : Plan) where
  -- all these names are being filled
  abbrev pub AreOpen : Store S → List Open → Type 0
  AreOpen store stack = (i : ℕ) (o : Open) → slice_get stack i ≡ Some o → IsOpen dom plan store o

  -- The names that are being filled, the last on top: the name that is asked for, and of each the next input.
  pub record AreStacked (store : Store S) (k : law.Walk) (stack : List Open) : Type 0 where
    pub opens : AreOpen store stack
    pub bottom : (o : Open) → slice_get stack 0 ≡ Some o → asks k ≡ Some (name_of store o)
    pub chained : (i : ℕ) (o u : Open) → slice_get stack i ≡ Some o → slice_get stack (suc i) ≡ Some u → next_of dom plan store o ≡ Some (name_of store u)

module _ {S : Type 0} (dom : Operations S) (plan : Plan) (ts : List Target) where
  -- A walk stands here: the names that were asked for have cells, and of each target that was left after the cell of the
  -- last name is found. What was asked for are these last names and the fixed points on the ways to them, and to here.
  pub record Stands (store : Store S) (k : law.Walk) (cells : List ℕ) : Type 0 where
    pub asked : List CellName
    pub names : demanded (found dom plan) ts ≡ asked ++ names_left (found dom plan) k
    pub asked_kept : (x : CellName) → member same_name asked x ≡ true → kept store x ≡ true
    pub lasts : List CellName
    pub values : map (value_of_target (found dom plan)) ts ≡ map (λ x. (found dom plan x).value) lasts ++ values_left (found dom plan) k
    pub numbers : AreNumbers store.names.names cells lasts
    pub there : AreCells store.graph.cells cells
    pub covered : AreAmong asked (with_fixes lasts ++ fixes k.path)
    pub comes : AreAmong (with_fixes lasts ++ fixes k.path) asked
    pub ended : k.left ≡ [] → k.path ≡ []

  pub record IsPlaced (store : Store S) (w : Walk) : Type 0 where
    pub path : w.path < length store.names.paths
    pub stands : Stands store (place_of ts store w) w.found.items

  -- a walk that is good for these targets
  pub record IsGood (store : Store S) (w : Walk) : Type 0 where
    pub placed : IsPlaced store w
    pub stacked : AreStacked dom plan store (place_of ts store w) w.stack.items

  -- what is asked for next: nothing, or a name that has no cell
  abbrev pub IsAsked : Store S → Walk → Option Open → Type 0
  IsAsked store w None = asks (place_of ts store w) ≡ None
  IsAsked store w (Some u) = (asks (place_of ts store w) ≡ Some (name_of store u)) × IsOpen dom plan store u × (kept store (name_of store u) ≡ false)

  -- A step of a walk: the name that is asked for, or one step less to be taken.
  abbrev pub Steps : Store S → (old new : Walk) → Option Open → Type 0
  Steps store old new None = steps_left ts new < steps_left ts old
  Steps store old new (Some u) = IsAsked store new (Some u)

  -- all that was asked for has cells
  pub record IsDone (store : Store S) (w : Walk) : Type 0 where
    pub placed : IsPlaced store w
    pub asks_none : asks (place_of ts store w) ≡ None
