-- A run begins where a walk stands, over the cells that there are.
use Rattle.std.proofs.Common.{◌≡◌, ℕ, zero, suc, ◌<◌, ◌≤◌, false, List, [], ◌∷◌, ◌++◌, take, drop, length, Some, None, slice_get, sym, ap, subst, ◌∙◌, arith}
use Rattle.std.proofs.Math.Seq.{take-length}
use Rattle.std.specs.Prelude.{is_some}
use Rattle.std.proofs.lemmas.List.{length-map}
use Rattle.std.proofs.lemmas.Option.{slice_get_within}
use Rattle.base_values.proofs.Lists.{get_last, get_some, take_next, get_take}
use Rattle.domain_laws.specs.Operations.{Operations}
use Rattle.cell_names.specs.Paths.{path_at, or_root}
use Rattle.cell_rows.specs.Targets.{Target}
use Rattle.daig_demands.specs.Walks as law
use Rattle.imp_flow.specs.Plans.{Plan}
use Rattle.cell_graph.proofs.Numbers.{filled_number}
use Rattle.daig_query.specs.declared.opening.Open.{Open}
use Rattle.daig_query.specs.declared.store.Store.{Store}
use Rattle.daig_query.specs.declared.walk.Walk.{Walk}
use Rattle.daig_query.specs.Kept.{kept}
use Rattle.daig_query.specs.Right.{IsRight}
use Rattle.daig_query.specs.Opened.{name_of}
use Rattle.daig_query.specs.Turned.{stacked_names}
use Rattle.daig_query.specs.Filled.{cells_added}
use Rattle.daig_query.specs.Walked.{AreStacked, Drops, IsGood, IsNew, Stands, behind_steps, place_of}
use Rattle.daig_query.proofs.Growing.{grows_refl}
use Rattle.daig_query.proofs.Stepping.{behind_none, place_same, placed_same}
use Rattle.daig_query.proofs.Walks.{stands_first}
use Rattle.daig_query.proofs.Stacked.{stack_waits, all_absent, name_at}
use Rattle.daig_query.proofs.Running.{Runs, runs_start, runs_push}
use Rattle.daig_query.proofs.Turns.{IsRunning}

module _ {S : Type 0} (dom : Operations S) (plan : Plan) where
  -- the first names of a stack are a stack
  pub stacked_front : (store : Store S) (k : law.Walk) (os us : List Open) (n : ℕ) → us ≡ take n os → AreStacked dom plan store k os → AreStacked dom plan store k us
  stacked_front store k os us n e h = record {
    opens = λ i o g. h.opens i o (back i o g);
    bottom = λ o g. h.bottom o (back 0 o g);
    chained = λ i o u g f. h.chained i o u (back i o g) (back (suc i) u f);
  }
    where
      back : (i : ℕ) (o : Open) → slice_get us i ≡ Some o → slice_get os i ≡ Some o
      back i o g = get_take os n i o (subst (λ xs. slice_get xs i ≡ Some o) e g)

  module _ (ts : List Target) where
    -- a walk without its filled names
    pub drops_good : (store : Store S) (old new : Walk) → IsGood dom plan ts store old → Drops store.graph.cells old new → IsGood dom plan ts store new
    drops_good store old new good d = record {
      placed = placed_same dom plan ts store old new d.target d.step d.path d.found good.placed;
      stacked = subst (λ k. AreStacked dom plan store k new.stack.items) (sym (place_same dom plan ts store old new d.target d.step d.path)) (
          stacked_front store (place_of ts store old) old.stack.items new.stack.items (length new.stack.items) d.front good.stacked
          );
    }

    -- without them the top has no cell
    drops_absent : (store : Store S) (old new : Walk) → IsRight dom plan store → (good : IsGood dom plan ts store new) → Drops store.graph.cells old new → (rest : List Open) (u : Open) → new.stack.items ≡ rest ++ u ∷ [] → kept store (name_of store u) ≡ false
    drops_absent store old new right good d rest u e =
        let at : slice_get new.stack.items (length rest) ≡ Some u = ap (λ xs. slice_get xs (length rest)) e ∙ get_last rest u in
        ap is_some (filled_number store.graph.cells store.names.names right.once (name_of store u) u.cell (good.stacked.opens (length rest) u at).number ∙ d.top rest u e)

    module _ (store : Store S) (w : Walk) (right : IsRight dom plan store) (good : IsGood dom plan ts store w) where
      abbrev os : List Open
      os = w.stack.items

      module _ (absent : (i : ℕ) (o : Open) → slice_get os i ≡ Some o → kept store (name_of store o) ≡ false) where
        -- the stack is pushed name by name
        lifts : (n : ℕ) → n ≤ length os → Runs dom plan ts (kept store) (kept store) (take n (stacked_names store os)) 0
        lifts zero h = runs_start dom plan ts right.checked (kept store)
        lifts (suc n) h =
            let p = get_some os n (omega arith) in
            let at : slice_get (stacked_names store os) n ≡ Some (name_of store p.0) = name_at dom plan store right ts (place_of ts store w) w.found.items good.placed.stands os good.stacked n p.0 p.1 in
            subst (λ xs. Runs dom plan ts (kept store) (kept store) xs 0) (sym (take_next (stacked_names store os) n (name_of store p.0) at)) (
            runs_push dom plan ts right.checked (kept store) (kept store) (take n (stacked_names store os)) 0 (lifts n (omega arith)) (name_of store p.0)
            (stack_waits dom plan store right ts (place_of ts store w) w.found.items good.placed.stands os good.stacked n p.0 p.1 (absent n p.0 p.1))
            )

        lifted : Runs dom plan ts (kept store) (kept store) (stacked_names store os) 0
        lifted =
            let n : length (stacked_names store os) ≡ length os = length-map os (name_of store) in
            subst (λ xs. Runs dom plan ts (kept store) (kept store) xs 0) (ap (λ m. take m (stacked_names store os)) (sym n) ∙ take-length (stacked_names store os)) (lifts (length os) (omega arith))

        pub begins : IsRunning dom plan ts store store w
        begins =
            let z : cells_added store store ≡ 0 = omega arith in
            record {
              right = right;
              grows = grows_refl store;
              good = good;
              run = subst (λ n. Runs dom plan ts (kept store) (kept store) (stacked_names store os) n) (sym z) lifted;
              counted = omega arith;
            }

    -- it begins over the cells that there are, where the filled names are gone
    pub starts : (store : Store S) (old new : Walk) → IsRight dom plan store → IsGood dom plan ts store old → Drops store.graph.cells old new → IsRunning dom plan ts store store new
    starts store old new right good d =
        let fine = drops_good store old new good d in
        begins store new right fine (
        all_absent dom plan store right ts (place_of ts store new) new.found.items fine.placed.stands new.stack.items fine.stacked (drops_absent store old new right fine d)
        )

    -- a walk that is to begin
    pub new_good : (store : Store S) (w : Walk) → IsRight dom plan store → IsNew w → IsGood dom plan ts store w
    new_good store w right h = record {
      placed = record {
        path = subst (λ n. n < length store.names.paths) (sym h.path) (slice_get_within store.names.paths 0 [] right.root);
        stands = subst (λ cells. Stands dom plan ts store (place_of ts store w) cells) (sym h.found) (
            subst (λ k. Stands dom plan ts store k []) (sym at) (stands_first dom plan ts store)
            );
      };
      stacked = record {
        opens = λ i o e. absurd (none i o e);
        bottom = λ o e. absurd (none 0 o e);
        chained = λ i o u e f. absurd (none i o e);
      };
    }
      where
        at : place_of ts store w ≡ law.start ts
        at =
            ap (λ n. law.walk (path_at store.names.paths n) (behind_steps w.step (drop w.target ts))) h.path
            ∙ (ap (λ n. law.walk (path_at store.names.paths 0) (behind_steps n (drop w.target ts))) h.step
            ∙ (ap (λ n. law.walk (path_at store.names.paths 0) (behind_steps 0 (drop n ts))) h.target
            ∙ (ap (λ p. law.walk p (behind_steps 0 ts)) (ap or_root right.root) ∙ ap (law.walk []) (behind_none ts))))

        none : (i : ℕ) (o : Open) → slice_get w.stack.items i ≡ Some o → ⊥
        none i o e = let c : None ≡ Some o = sym (ap (λ xs. slice_get xs i) h.stack) ∙ e in cc
