-- Steps of a walk come to what they promise.
use Rattle.std.proofs.Common.{◌≡◌, ℕ, ◌<◌, List, [], map, length, Option, Some, None, option_map, slice_get, refl, sym, ap, subst, ◌∙◌}
use Rattle.std.specs.Prelude.{Result, Ok, Err, IfOk}
use Rattle.std.specs.FinMap.{get}
use Rattle.std.proofs.lemmas.Option.{slice_get-map}
use Rattle.domain_laws.specs.Operations.{Operations}
use Rattle.cell_names.specs.declared.frame.NameFrame.{NameFrame}
use Rattle.cell_names.specs.declared.path.Name.{Name}
use Rattle.cell_names.specs.Known.{Known, IsOnce, Adds}
use Rattle.cell_names.specs.Paths.{name_in}
use Rattle.cell_rows.specs.Targets as plain
use Rattle.daig_demands.specs.Walks.{asks}
use Rattle.imp_flow.specs.Plans.{Plan}
use Rattle.imp_flow.specs.Reached.{target_of, step_of}
use Rattle.imp_flow.specs.declared.steps.TargetStep.{TargetStep}
use Rattle.imp_flow.specs.declared.steps.Target.{Target}
use Rattle.daig_query.specs.declared.opening.Open.{Open}
use Rattle.daig_query.specs.declared.store.Store.{Store}
use Rattle.daig_query.specs.declared.walk.Walk.{Walk}
use Rattle.daig_query.specs.Kept.{Names}
use Rattle.daig_query.specs.Right.{IsRight}
use Rattle.daig_query.specs.Walked.{AreTargets, Enters, Leaves, Stays, IsAsked, IsPlaced, Steps, place_of, steps_left}
use Rattle.daig_query.proofs.Growing.{keeps_same, names_trans, right_named}
use Rattle.daig_query.proofs.Looking.{Named}
use Rattle.daig_query.proofs.Asking.{named_here, right_later, placed_later, asked_later, asked_absent}
use Rattle.daig_query.proofs.Stepping.{placed_stays}

-- the target and the step that a walk is at, as they are defined
pub target_here : (ts : List Target) (n : ℕ) (t : Target) → slice_get ts n ≡ Some t → slice_get (map target_of ts) n ≡ Some (target_of t)
target_here ts n t e = slice_get-map target_of ts n ∙ ap (option_map target_of) e

pub step_here : (ss : List TargetStep) (n : ℕ) (s : TargetStep) → slice_get ss n ≡ Some s → slice_get (map step_of ss) n ≡ Some (step_of s)
step_here ss n s e = slice_get-map step_of ss n ∙ ap (option_map step_of) e

-- What the clauses of a step say, of a result.
pub record IsStep {S E : Type 0} (dom : Operations S) (plan : Plan) (ts : List plain.Target) (old new : Store S) (before after : Walk) (result : Result (Option Open) E) : Type 0 where
  pub names : Names old new
  pub right : IsRight dom plan new
  pub placed : IsPlaced dom plan ts new after
  pub stack : after.stack.items ≡ before.stack.items
  pub steps : IfOk result (Steps dom plan ts new before after)

module _ {S : Type 0} (dom : Operations S) (plan : Plan) (ts : List plain.Target) where
  -- The name that is asked for has got a number.
  pub record Asking (old new : Store S) (w : Walk) (x : Name) (cell : ℕ) : Type 0 where
    pub named : Named old new (name_in old.names.paths x) x cell
    pub right : IsRight dom plan new
    pub placed : IsPlaced dom plan ts new w
    pub asked : asks (place_of ts new w) ≡ Some (name_in old.names.paths x)
    pub absent : AreTargets plan ts → get new.graph.cells cell ≡ None → IsAsked dom plan ts new w (Some (record { cell = cell; name = x; inputs = [] }))

  pub asking : (old : Store S) (w : Walk) (x : Name) (cell : ℕ) (names : Known) → IsRight dom plan old → IsPlaced dom plan ts old w → x.path < length old.names.paths → asks (place_of ts old w) ≡ Some (name_in old.names.paths x) →
      Adds old.names.names names.names (name_in old.names.paths x) cell → names.paths ≡ old.names.paths → Asking old (record old { names = names }) w x cell
  asking old w x cell names right placed path asked adds paths =
      let new : Store S = record old { names = names } in
      let y = name_in old.names.paths x in
      let named : Named old new y x cell = named_here old new x cell right.once path adds paths refl refl refl refl refl refl in
      let right_new = right_later dom plan ts old new right y x cell named w placed asked in
      let placed_new = placed_later dom plan ts old new right y x cell named w placed asked in
      record {
        named = named;
        right = right_new;
        placed = placed_new;
        asked = asked_later dom plan ts old new right y x cell named w placed asked;
        absent = λ targets none. asked_absent dom plan ts old new right y x cell named w placed asked targets _ refl none;
      }

  -- a walk that cannot go on stays
  pub step_fails : (old new : Store S) (w after : Walk) (names : Known) → Names old new → IsRight dom plan new → IsPlaced dom plan ts new w → names ≡ new.names → Stays w after → {E : Type 0} (e : E) (r : Result (Option Open) E) → r ≡ Err e →
      IsStep dom plan ts old (record new { names = names }) w after r
  step_fails old new w after names more right placed same stays {E} e r is =
      subst (λ (x : Result (Option Open) E). IsStep dom plan ts old (record new { names = names }) w after x) (sym is) (
      subst (λ (k : Known). IsStep {E = E} dom plan ts old (record new { names = k }) w after (Err e)) (sym same) (record {
        names = more;
        right = right;
        placed = placed_stays dom plan ts new w after stays placed;
        stack = stays.stack;
        steps = tt;
      })
      )

  -- into a frame
  pub entered : (new : Store S) (w after : Walk) (frame : NameFrame) (names : Known) → Enters frame new.names names w after → Names new (record new { names = names })
  entered new w after frame names e = record { paths = e.kept; names = keeps_same new.names.names names.names e.same; states = refl; operations = refl; memo = refl; recent = refl; stale = refl; graph = refl }

  pub entered_right : (new : Store S) (w after : Walk) (frame : NameFrame) (names : Known) → Enters frame new.names names w after → IsRight dom plan new → IsRight dom plan (record new { names = names })
  entered_right new w after frame names e right = right_named dom plan new (record new { names = names }) right (entered new w after frame names e) (subst (λ xs. IsOnce xs) (sym e.same) right.once)

  pub step_enters : (old new : Store S) (w after : Walk) (frame : NameFrame) (names : Known) → Names old new → IsRight dom plan new → (e : Enters frame new.names names w after) → IsPlaced dom plan ts (record new { names = names }) after → steps_left ts after < steps_left ts w → {E : Type 0} →
      IsStep {E = E} dom plan ts old (record new { names = names }) w after (Ok None)
  step_enters old new w after frame names more right e placed fewer = record {
    names = names_trans old new (record new { names = names }) more (entered new w after frame names e);
    right = entered_right new w after frame names e right;
    placed = placed;
    stack = e.stack;
    steps = fewer;
  }

  -- on to the next target
  pub step_leaves : (old new : Store S) (w after : Walk) (cell : ℕ) → Names old new → IsRight dom plan new → Leaves cell w after → IsPlaced dom plan ts new after → steps_left ts after < steps_left ts w → {E : Type 0} → IsStep {E = E} dom plan ts old new w after (Ok None)
  step_leaves old new w after cell more right l placed fewer = record { names = more; right = right; placed = placed; stack = l.stack; steps = fewer }
