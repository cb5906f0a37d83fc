-- How walks go on, one step at a time.
use Rattle.std.proofs.Common.{◌≡◌, ℕ, suc, ◌+◌, ◌-◌, ◌<◌, ◌≤◌, List, [], ◌∷◌, ◌++◌, drop, length, Some, true, IsSome, slice_get, refl, sym, ap, ap₂, subst, ◌∙◌, arith}
use Rattle.std.specs.Prelude.{is_some, reverse}
use Rattle.std.specs.FinMap.{get}
use Rattle.std.proofs.lemmas.Option.{slice_get_within}
use Rattle.std.proofs.lemmas.List.{drop_all}
use Rattle.domain_laws.specs.Operations.{Operations}
use Rattle.batch_meaning.specs.Values as batch
use Rattle.cell_names.specs.declared.frame.NameFrame.{NameFrame}
use Rattle.cell_names.specs.declared.frame.NameFrame.TheVariants.{InCall, InLoop}
use Rattle.cell_names.specs.declared.frame.Point.TheVariants.{Fix}
use Rattle.cell_names.specs.Paths.{CellName, path_at, or_root}
use Rattle.cell_rows.specs.Names.{name}
use Rattle.cell_rows.specs.Cells.{Cell}
use Rattle.cell_rows.specs.Targets.{TargetStep, Take, Go, Target, to_point, unless_over}
use Rattle.daig_demands.specs.Walks.{asks, goes}
use Rattle.daig_demands.specs.Walks as law
use Rattle.imp_flow.specs.Plans.{Plan}
use Rattle.daig_graph.specs.Cells.{Filled}
use Rattle.daig_graph.specs.declared.value.Value.TheVariants.{State, Over}
use Rattle.daig_query.specs.declared.held.Held.{Held}
use Rattle.daig_query.specs.declared.store.Store.{Store}
use Rattle.daig_query.specs.declared.walk.Walk.{Walk}
use Rattle.daig_query.specs.Kept.{kept, IsValue, Names}
use Rattle.daig_query.specs.Right.{found, IsRight}
use Rattle.daig_query.specs.Walked.{behind_steps, place_of, Stands, IsPlaced, Leaves, Enters, Stays, steps_from, steps_left}
use Rattle.daig_query.proofs.Growing.{grows_last, names_grow}
use Rattle.cell_graph.proofs.Numbers.{filled_number}
use Rattle.daig_query.proofs.Found.{stored}
use Rattle.daig_query.proofs.Walks.{stands_go, stands_on, stands_next, stands_last}
use Rattle.base_values.proofs.Lists.{drop_next}

pub behind_none : (ts : List Target) → behind_steps 0 ts ≡ ts
behind_none [] = refl
behind_none (t ∷ ts) = refl

module _ {S : Type 0} (ts : List Target) (store : Store S) (w : Walk) (t : Target) (here : slice_get ts w.target ≡ Some t) where
  abbrev rest : List Target
  rest = drop (suc w.target) ts

  abbrev path : List NameFrame
  path = path_at store.names.paths w.path

  -- where a walk stands in its target
  pub place_is : (ss : List TargetStep) → drop w.step t.steps ≡ ss → place_of ts store w ≡ law.walk path (to_point ss t.last ∷ rest)
  place_is ss e = ap (λ us. law.walk path (behind_steps w.step us)) (drop_next ts w.target t here) ∙ ap (λ us. law.walk path (to_point us t.last ∷ rest)) e

  pub place_end : length t.steps ≤ w.step → place_of ts store w ≡ law.walk path (to_point [] t.last ∷ rest)
  place_end h = place_is [] (drop_all w.step t.steps h)

  pub place_step : (s : TargetStep) → slice_get t.steps w.step ≡ Some s → place_of ts store w ≡ law.walk path (to_point (s ∷ drop (suc w.step) t.steps) t.last ∷ rest)
  place_step s e = place_is (s ∷ drop (suc w.step) t.steps) (drop_next t.steps w.step s e)

  steps_are : steps_left ts w ≡ suc ((length t.steps - w.step) + steps_from 0 rest)
  steps_are = ap (steps_from w.step) (drop_next ts w.target t here)

  -- with fewer steps to be taken
  pub fewer_left : (cell : ℕ) (new : Walk) → Leaves cell w new → steps_left ts new < steps_left ts w
  fewer_left cell new h =
      let e : steps_left ts new ≡ steps_from 0 rest = ap₂ (λ k i. steps_from k (drop i ts)) h.step h.target in
      let f = steps_are in
      omega arith

  pub fewer_steps : (new : Walk) → new.target ≡ w.target → new.step ≡ suc w.step → w.step < length t.steps → steps_left ts new < steps_left ts w
  fewer_steps new a b l =
      let e : steps_left ts new ≡ suc ((length t.steps - suc w.step) + steps_from 0 rest) = ap₂ (λ k i. steps_from k (drop i ts)) b a ∙ ap (steps_from (suc w.step)) (drop_next ts w.target t here) in
      let f = steps_are in
      omega arith

module _ {S : Type 0} (dom : Operations S) (plan : Plan) (ts : List Target) where
  -- a walk that stays stands where it stood, whatever its stack
  pub place_same : (store : Store S) (old new : Walk) → new.target ≡ old.target → new.step ≡ old.step → new.path ≡ old.path → place_of ts store new ≡ place_of ts store old
  place_same store old new target step path =
      ap (λ n. law.walk (path_at store.names.paths n) (behind_steps new.step (drop new.target ts))) path
      ∙ ap (λ n. law.walk (path_at store.names.paths old.path) (behind_steps n (drop new.target ts))) step
      ∙ ap (λ n. law.walk (path_at store.names.paths old.path) (behind_steps old.step (drop n ts))) target

  pub placed_same : (store : Store S) (old new : Walk) → new.target ≡ old.target → new.step ≡ old.step → new.path ≡ old.path → new.found.items ≡ old.found.items → IsPlaced dom plan ts store old → IsPlaced dom plan ts store new
  placed_same store old new target step path found p = record {
    path = subst (λ n. n < length store.names.paths) (sym path) p.path;
    stands = subst (λ cells. Stands dom plan ts store (place_of ts store new) cells) (sym found) (
        subst (λ k. Stands dom plan ts store k old.found.items) (sym (place_same store old new target step path)) p.stands
        );
  }

  pub placed_stays : (store : Store S) (old new : Walk) → Stays old new → IsPlaced dom plan ts store old → IsPlaced dom plan ts store new
  placed_stays store old new h p = placed_same store old new h.target h.step h.path h.found p

  first_path : (store : Store S) → IsRight dom plan store → path_at store.names.paths 0 ≡ []
  first_path store right = ap or_root right.root

  -- on to the next target, after a name that is the last of one
  pub placed_left : (store : Store S) → IsRight dom plan store → (old new : Walk) (cell : ℕ) (y : CellName) → Leaves cell old new → IsPlaced dom plan ts store old → asks (place_of ts store old) ≡ Some y → kept store y ≡ true →
      law.found (found dom plan y) (place_of ts store old) ≡ (found dom plan y).value ∷ [] → goes (found dom plan y) (place_of ts store old) ≡ law.start (drop (suc old.target) ts) → slice_get store.names.names cell ≡ Some y → IsSome (get store.graph.cells cell) →
      IsPlaced dom plan ts store new
  placed_left store right old new cell y h p asked keeps one next number there = record {
    path = subst (λ n. n < length store.names.paths) (sym h.path) (slice_get_within store.names.paths 0 [] right.root);
    stands = subst (λ cells. Stands dom plan ts store (place_of ts store new) cells) (sym h.found) (
        subst (λ k. Stands dom plan ts store k (old.found.items ++ cell ∷ [])) (next ∙ sym same) (
        stands_next dom plan ts store (place_of ts store old) old.found.items y cell p.stands asked keeps one number there
        )
        );
  }
    where
      same : place_of ts store new ≡ law.start (drop (suc old.target) ts)
      same =
          ap (λ n. law.walk (path_at store.names.paths n) (behind_steps new.step (drop new.target ts))) h.path
          ∙ ap (λ n. law.walk (path_at store.names.paths 0) (behind_steps n (drop new.target ts))) h.step
          ∙ ap (λ n. law.walk (path_at store.names.paths 0) (behind_steps 0 (drop n ts))) h.target
          ∙ ap (λ w. law.walk w (behind_steps 0 (drop (suc old.target) ts))) (first_path store right)
          ∙ ap (law.walk []) (behind_none (drop (suc old.target) ts))

  -- where a walk stands that went on by a frame
  place_entered : (store later : Store S) (old new : Walk) (frame : NameFrame) (t : Target) → slice_get ts old.target ≡ Some t → Enters frame store.names later.names old new → place_of ts later new ≡ law.walk (frame ∷ path_at store.names.paths old.path) (to_point (drop (suc old.step) t.steps) t.last ∷ drop (suc old.target) ts)
  place_entered store later old new frame t here h =
      ap (λ w. law.walk w (behind_steps new.step (drop new.target ts))) h.path
      ∙ ap (λ n. law.walk (frame ∷ path_at store.names.paths old.path) (behind_steps n (drop new.target ts))) h.step
      ∙ ap (λ n. law.walk (frame ∷ path_at store.names.paths old.path) (behind_steps (suc old.step) (drop n ts))) h.target
      ∙ ap (λ us. law.walk (frame ∷ path_at store.names.paths old.path) (behind_steps (suc old.step) us)) (drop_next ts old.target t here)

  placed_by : (store later : Store S) → IsRight dom plan later → Names store later → (old new : Walk) (frame : NameFrame) (t : Target) → slice_get ts old.target ≡ Some t → Enters frame store.names later.names old new →
      Stands dom plan ts store (law.walk (frame ∷ path_at store.names.paths old.path) (to_point (drop (suc old.step) t.steps) t.last ∷ drop (suc old.target) ts)) old.found.items → IsPlaced dom plan ts later new
  placed_by store later right names old new frame t here h s = record {
    path = h.within;
    stands = subst (λ cells. Stands dom plan ts later (place_of ts later new) cells) (sym h.found) (
        subst (λ k. Stands dom plan ts later k old.found.items) (sym (place_entered store later old new frame t here h)) (
        stands_last dom plan ts store later _ old.found.items right (grows_last dom plan store later (names_grow store later names)) s
        )
        );
  }

  -- through a call
  pub placed_call : (store later : Store S) → IsRight dom plan later → Names store later → (old new : Walk) (n : ℕ) (t : Target) → slice_get ts old.target ≡ Some t → slice_get t.steps old.step ≡ Some (Go n) → Enters (InCall n) store.names later.names old new → IsPlaced dom plan ts store old →
      IsPlaced dom plan ts later new
  placed_call store later right names old new n t here step h p =
      placed_by store later right names old new (InCall n) t here h (
      stands_go dom plan ts store (path_at store.names.paths old.path) n (drop (suc old.step) t.steps) t.last (drop (suc old.target) ts) old.found.items (
      subst (λ k. Stands dom plan ts store k old.found.items) (place_step ts store old t here (Go n) step) p.stands
      )
      )

  -- into the last round of a loop
  pub placed_round : (store later : Store S) → IsRight dom plan later → Names store later → (old new : Walk) (n : ℕ) (t : Target) (s : S) → slice_get ts old.target ≡ Some t → slice_get t.steps old.step ≡ Some (Take n) →
      (found dom plan (name (path_at store.names.paths old.path) (Fix n))).value ≡ batch.State s → kept store (name (path_at store.names.paths old.path) (Fix n)) ≡ true →
      Enters (InLoop n (found dom plan (name (path_at store.names.paths old.path) (Fix n))).index) store.names later.names old new → IsPlaced dom plan ts store old → IsPlaced dom plan ts later new
  placed_round store later right names old new n t s here step state keeps h p =
      placed_by store later right names old new (InLoop n c.index) t here h (
      subst (λ k. Stands dom plan ts store k old.found.items) on (
      stands_on dom plan ts store at old.found.items y (subst (λ k. Stands dom plan ts store k old.found.items) (place_step ts store old t here (Take n) step) p.stands) refl keeps none
      )
      )
    where
      y : CellName
      y = name (path_at store.names.paths old.path) (Fix n)

      c : Cell S
      c = found dom plan (name (path_at store.names.paths old.path) (Fix n))

      at : law.Walk
      at = law.walk (path_at store.names.paths old.path) (to_point (Take n ∷ drop (suc old.step) t.steps) t.last ∷ drop (suc old.target) ts)

      none : law.found c at ≡ []
      none = ap (λ (v : batch.Value S). unless_over v (c.value ∷ []) []) state

      on : goes c at ≡ law.walk (InLoop n c.index ∷ path_at store.names.paths old.path) (to_point (drop (suc old.step) t.steps) t.last ∷ drop (suc old.target) ts)
      on = ap (λ (v : batch.Value S). unless_over v (law.start (drop (suc old.target) ts)) (law.walk (InLoop n c.index ∷ path_at store.names.paths old.path) (to_point (drop (suc old.step) t.steps) t.last ∷ drop (suc old.target) ts))) state

  -- the same, by what the fixed point's cell stores
  pub placed_held : (store later : Store S) → IsRight dom plan store → IsRight dom plan later → Names store later → (old new : Walk) (n cell : ℕ) (t : Target) (h : Held) (f : Filled Held) → slice_get ts old.target ≡ Some t → slice_get t.steps old.step ≡ Some (Take n) →
      slice_get store.names.names cell ≡ Some (name (path_at store.names.paths old.path) (Fix n)) → get store.graph.cells cell ≡ Some f → f.value ≡ State h → Enters (InLoop n h.index) store.names later.names old new → IsPlaced dom plan ts store old → IsPlaced dom plan ts later new
  placed_held store later right then names old new n cell t h f here step number there value enters p =
      let y = name (path_at store.names.paths old.path) (Fix n) in
      let v : IsValue store.states (State h) (found dom plan y) = subst (λ u. IsValue store.states u (found dom plan y)) value (stored dom plan store right cell y f number there).value in
      let index : (found dom plan y).index ≡ h.index = ap (λ (c : Cell S). c.index) v.2 in
      placed_round store later then names old new n t v.0 here step (ap (λ (c : Cell S). c.value) v.2)
      (ap is_some (filled_number store.graph.cells store.names.names right.once y cell number ∙ there))
      (subst (λ i. Enters (InLoop n i) store.names later.names old new) (sym index) enters) p

  -- past a loop that is an Over
  pub placed_over : (store : Store S) → IsRight dom plan store → (old new : Walk) (n cell m : ℕ) (chain : List ℕ) (t : Target) (f : Filled Held) → slice_get ts old.target ≡ Some t → slice_get t.steps old.step ≡ Some (Take n) →
      slice_get store.names.names cell ≡ Some (name (path_at store.names.paths old.path) (Fix n)) → get store.graph.cells cell ≡ Some f → f.value ≡ Over m chain → Leaves cell old new → IsPlaced dom plan ts store old → IsPlaced dom plan ts store new
  placed_over store right old new n cell m chain t f here step number there value leaves p =
      let y = name (path_at store.names.paths old.path) (Fix n) in
      let v : (found dom plan y).value ≡ batch.Over m (reverse chain) = subst (λ u. IsValue store.states u (found dom plan y)) value (stored dom plan store right cell y f number there).value in
      let place = place_step ts store old t here (Take n) step in
      let round = law.walk (InLoop n (found dom plan y).index ∷ path_at store.names.paths old.path) (to_point (drop (suc old.step) t.steps) t.last ∷ drop (suc old.target) ts) in
      placed_left store right old new cell y leaves p (ap asks place)
      (ap is_some (filled_number store.graph.cells store.names.names right.once y cell number ∙ there))
      (ap (law.found (found dom plan y)) place ∙ ap (λ (u : batch.Value S). unless_over u ((found dom plan y).value ∷ []) []) v)
      (ap (goes (found dom plan y)) place ∙ ap (λ (u : batch.Value S). unless_over u (law.start (drop (suc old.target) ts)) round) v)
      number (ap is_some there)
