-- What a walk asks for: a name that gets a number, and has a cell or not.
use Rattle.std.proofs.Common.{◌≡◌, ℕ, ◌<◌, List, [], length, Some, None, true, IsSome, refl, sym, ap, subst, ◌∙◌}
use Rattle.std.specs.Prelude.{is_some}
use Rattle.std.specs.FinMap.{get}
use Rattle.domain_laws.specs.Operations.{Operations}
use Rattle.cell_names.specs.declared.path.Name.{Name}
use Rattle.cell_names.specs.Known.{IsOnce, Adds}
use Rattle.cell_names.specs.Paths.{CellName, name_in}
use Rattle.cell_rows.specs.Targets.{Target}
use Rattle.daig_demands.specs.Walks.{asks}
use Rattle.imp_flow.specs.Plans.{Plan}
use Rattle.daig_query.specs.declared.opening.Open.{Open}
use Rattle.daig_query.specs.declared.store.Store.{Store}
use Rattle.daig_query.specs.declared.walk.Walk.{Walk}
use Rattle.daig_query.specs.Kept.{kept}
use Rattle.daig_query.specs.Right.{IsRight}
use Rattle.daig_query.specs.Walked.{AreTargets, place_of, IsPlaced, IsAsked}
use Rattle.daig_query.proofs.Growing.{keeps_refl, names_grow}
use Rattle.cell_graph.proofs.Numbers.{filled_number}
use Rattle.daig_query.proofs.Looking.{Named, named_by, later, fresh, is_absent}
use Rattle.daig_query.proofs.Walks.{place_stays, placed_grows, asked_named}

-- a name of a path that has a number gets one
pub named_here : {S : Type 0} (old new : Store S) (x : Name) (cell : ℕ) → IsOnce old.names.names → x.path < length old.names.paths → Adds old.names.names new.names.names (name_in old.names.paths x) cell → new.names.paths ≡ old.names.paths →
    new.states ≡ old.states → new.operations ≡ old.operations → new.memo ≡ old.memo → new.recent ≡ old.recent → new.stale ≡ old.stale → new.graph ≡ old.graph → Named old new (name_in old.names.paths x) x cell
named_here old new x cell once path adds paths states operations memo recent stale graph = named_by old new old.names x cell (name_in old.names.paths x) once (keeps_refl old.names.paths) refl refl path adds paths states operations memo recent stale graph

module _ {S : Type 0} (dom : Operations S) (plan : Plan) (ts : List Target) (old new : Store S) (right : IsRight dom plan old) (y : CellName) (x : Name) (cell : ℕ) (named : Named old new y x cell) (w : Walk) (placed : IsPlaced dom plan ts old w) (asked : asks (place_of ts old w) ≡ Some y) where
  pub right_later : IsRight dom plan new
  right_later = later dom plan old new right y x cell named

  pub placed_later : IsPlaced dom plan ts new w
  placed_later = placed_grows dom plan ts old new w right_later (names_grow old new named.names) placed

  pub asked_later : asks (place_of ts new w) ≡ Some y
  asked_later = ap asks (place_stays dom plan ts old new (names_grow old new named.names) w placed.path) ∙ asked

  -- without a cell it is asked for
  pub asked_absent : AreTargets plan ts → (u : Open) → u ≡ record { cell = cell; name = x; inputs = [] } → get new.graph.cells cell ≡ None → IsAsked dom plan ts new w (Some u)
  asked_absent targets u e none =
      subst (λ v. IsAsked dom plan ts new w (Some v)) (sym e) (
        asked_later ∙ ap Some (sym named.is),
        fresh dom plan old new right y x cell named (asked_named dom plan ts old (place_of ts old w) w.found.items y right targets placed.stands asked),
        is_absent dom plan old new right y x cell named none,
      )

  -- with a cell it is kept
  pub asked_kept : IsSome (get new.graph.cells cell) → kept new y ≡ true
  asked_kept s = ap is_some (filled_number new.graph.cells new.names.names named.once y cell named.number) ∙ s
