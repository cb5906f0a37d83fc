-- States that are answered fit the layout of their location's procedure, and describe the configurations there.
use Rattle.std.specs.Prelude.{◌≡◌, ℕ, List, [], ◌∷◌, length, map, reverse, slice_get, Option, Some, None, Bool, true, false, if◌then◌else◌}
use Rattle.std.proofs.Common.{refl, sym, ap, ◌∙◌, arith, subst}
use Rattle.std.specs.Str.{bytes_eq}
use Rattle.std.proofs.lemmas.Slice.Eq.{bytes_eq-Decides}
use Rattle.imp_syntax.specs.declared.edit.Location.{Location}
use Rattle.imp_syntax.specs.declared.edit.Location.TheVariants.{Before, After, Head, End}
use Rattle.imp_slots.specs.Plain.{Layout, Invoke, Routine}
use Rattle.imp_slots.specs.Fits.{IsChecked}
use Rattle.concrete_sem.specs.Values.{Variables, Heap}
use Rattle.concrete_sem.specs.Steps.{Work, Ret, Do, Done, Test, Frame, In}
use Rattle.concrete_sem.specs.Reach.{location_of}
use Rattle.concrete_sem.specs.Proper.{IsProper}
use Rattle.imp_chains.specs.Chains.{chains, selected, holder, named, is_while}
use Rattle.imp_chains.specs.Thresholds.{thresholds}
use Rattle.imp_chains.specs.Claims.{PlacesAreFound}
use Rattle.domain_laws.specs.Operations.{Operations}
use Rattle.domain_laws.specs.Laws.{Laws}
use Rattle.imp_words.specs.declared.refusal.QueryRefusal.{QueryRefusal}
use Rattle.imp_words.specs.declared.refusal.QueryRefusal.TheVariants.{NoProcedure, NoStatement, NoChain}
use Rattle.batch_meaning.specs.Values.{Value, State, lift}
use Rattle.batch_meaning.specs.Batch.{LoopOptions, calls_of}
use Rattle.batch_meaning.specs.Places.{Spot, spots, find, from, main_layout, if_some, head_value, value_in, entered, entry, value_at}
use Rattle.batch_meaning.specs.Answers.{Answer, Refuses, Answers, Found, In as Belongs, Misses, found_or, found_loop, procedure_of, all_values, summed, sum_of, answer_in, answer}
use Rattle.batch_sound.proofs.Values.{Fit, fit_shed, EachFit, fit_joined}
use Rattle.batch_meaning.proofs.Procedures.{look_get, fit_back}
use Rattle.base_values.proofs.Members.{Member, here, there, Each, each_more, none_there}
use Rattle.batch_meaning.proofs.Places.{found_member}
use Rattle.batch_sound.proofs.Chains.{in_selected}
use Rattle.batch_sound.proofs.Fitting.{SpotFit, spots_fit, block_fit, procedure_fit, entered_fit}
use Rattle.batch_sound.proofs.Steps.{Kept, Place, Seen, Fits, fits_do, fits_test, seen_behind, Good, good}
use Rattle.batch_sound.proofs.Reached.{same_in_turn, place_get, holder_at, top_procedure, short, stack_chain}
use Rattle.batch_sound.proofs.Answered.{then_inv, asked, good_answered}
use Rattle.std.proofs.lemmas.Option.{same_Some}
use Rattle.fault_verdicts.proofs.Items.{FitsTop}

module _ {S : Type 0} (dom : Operations S) (engine : LoopOptions) (covers : S → Heap → List Variables → Type 0) (laws : Laws dom covers) (keeps : Kept) (program : List Routine) (checked : IsChecked program) (places : PlacesAreFound) where
  abbrev Fine : Value S → List Layout → Type 0
  Fine = Fit dom engine covers laws

  abbrev Sees : List Routine → Type 0
  Sees = Seen dom engine covers laws keeps program (reverse program) (same_in_turn program)

  -- The values of batch interpretation fit.
  record Entry (list : List Routine) (v : Value S) : Type 0 where
    below : List Layout
    seen : Sees list
    fine : (r : Routine) (earlier : List Routine) → list ≡ r ∷ earlier → Fine v (r.layout ∷ below)

  -- A value that fits a frame of procedure p.
  record FineAt (p : ℕ) (v : Value S) : Type 0 where
    below : List Layout
    routine : Routine
    at : slice_get program p ≡ Some routine
    fine : Fine v (routine.layout ∷ below)

  abbrev SpotFine : (z : List ℕ) (r : Routine) (earlier : List Routine) (v : Value S) (x : Entry (r ∷ earlier) v) → ℕ × Spot S → Type 0
  SpotFine z r earlier v x =
      SpotFit dom engine covers laws (thresholds engine.widening r) (keeps.rises engine.widening (reverse earlier) r x.seen.checked.0) z (calls_of dom engine earlier z) (reverse earlier) r.layout x.below
      (λ n q c v g f. procedure_fit dom engine covers laws keeps.rises earlier (n ∷ z) q c (r.layout ∷ x.below) v (look_get earlier q ∙ g) x.seen.checked.1 f)

  spot_fine : (z : List ℕ) (r : Routine) (earlier : List Routine) (v : Value S) (x : Entry (r ∷ earlier) v) (n : ℕ) (s : Spot S) → find n (spots dom engine (thresholds engine.widening r) z (calls_of dom engine earlier z) r.code v) ≡ Some s → SpotFine z r earlier v x (n, s)
  spot_fine z r earlier v x n s e =
      (spots_fit dom engine covers laws (thresholds engine.widening r) (keeps.rises engine.widening (reverse earlier) r x.seen.checked.0) z (calls_of dom engine earlier z) (reverse earlier) r.layout x.below
      (λ n q c v g f. procedure_fit dom engine covers laws keeps.rises earlier (n ∷ z) q c (r.layout ∷ x.below) v (look_get earlier q ∙ g) x.seen.checked.1 f)
      r.code v x.seen.checked.0 (x.fine r earlier refl)).at (n, s) (found_member n s _ e)

  entered_entry : (n : ℕ) (z : List ℕ) (list : List Routine) (v : Value S) → Entry list v → (t : List Routine × Value S) → entered dom engine n z (list, v) ≡ Some t → Entry t.0 t.1
  entered_entry n z [] v x t g = absurd cc
  entered_entry n z (r ∷ earlier) v x t g =
      let s = then_inv (find n (spots dom engine (thresholds engine.widening r) z (calls_of dom engine earlier z) r.code v)) (λ s. if_some s.call (λ k. Some (from earlier k.1, lift (dom.enter k.0.entering) s.before))) t g in
      let u = then_inv s.value.call (λ k. Some (from earlier k.1, lift (dom.enter k.0.entering) s.value.before)) t s.gives in
      let f = spot_fine z r earlier v x n s.value s.was in
      go s.value u.value u.was f t u.gives
    where
      go : (s : Spot S) (k : Invoke × ℕ) → s.call ≡ Some k → SpotFine z r earlier v x (n, s) → (t : List Routine × Value S) → Some (from earlier k.1, lift (dom.enter k.0.entering) s.before) ≡ Some t → Entry t.0 t.1
      go s k e f t g =
          subst (λ (t : List Routine × Value S). Entry t.0 t.1) (same_Some _ _ g)
          (record {
            below = r.layout ∷ x.below;
            seen = seen_behind dom engine covers laws keeps program (reverse program) (same_in_turn program) r earlier k.1 x.seen;
            fine = entered_fit dom engine covers laws earlier r.layout x.below k.0 k.1 s.before (f.call k e) f.before_fit;
          })

  first_entry : (list : List Routine) → Sees list → Entry list (State (dom.init (main_layout list)))
  first_entry list s = record { below = []; seen = s; fine = λ r e i. subst (λ ps. Fine (State (dom.init (main_layout ps))) (r.layout ∷ [])) (sym i) (laws.fitting.init r.layout) }

  seen_all : Sees (reverse program)
  seen_all = record { checked = fit_back program checked; same = λ q k. refl; long = omega arith }

  entry_fit : (z : List ℕ) (t : List Routine × Value S) → entry dom engine (reverse program) z ≡ Some t → Entry t.0 t.1
  entry_fit [] t g = subst (λ (t : List Routine × Value S). Entry t.0 t.1) (same_Some _ _ g) (first_entry (reverse program) seen_all)
  entry_fit (n ∷ z) t g =
      let s = then_inv (entry dom engine (reverse program) z) (entered dom engine n z) t g in
      entered_entry n z s.value.0 s.value.1 (entry_fit z s.value s.was) t s.gives

  -- A value at a location fits a frame of the location's procedure.
  module _ (z : List ℕ) (r : Routine) (earlier : List Routine) (v : Value S) (x : Entry (r ∷ earlier) v) where
    here_place : Place dom engine covers laws keeps program (reverse program) (same_in_turn program)
    here_place = record { z = z; below = x.below; earlier = earlier; routine = r; first = v }

    get_here : slice_get program (length earlier) ≡ Some r
    unfolding here_place
    get_here = place_get dom engine covers laws keeps program checked places here_place x.seen

    abbrev List_here : List (ℕ × Spot S)
    List_here = spots dom engine (thresholds engine.widening r) z (calls_of dom engine earlier z) r.code v

    holds_here : (n : ℕ) (s : Spot S) → find n List_here ≡ Some s → holder n program ≡ Some (length earlier)
    unfolding here_place
    holds_here n s e = holder_at dom engine covers laws keeps program checked places here_place x.seen n s (found_member n s List_here e)

    record Own (p : ℕ) (u : Value S) : Type 0 where
      at : slice_get program p ≡ Some r
      fine : Fine u (r.layout ∷ x.below)

    at_own : (p : ℕ) (u : Value S) → p ≡ length earlier → Fine u (r.layout ∷ x.below) → Own p u
    at_own p u i f = record { at = ap (slice_get program) i ∙ get_here; fine = f }

    by_number : (n p : ℕ) (f : Spot S → Option (Value S)) (u : Value S) → ((s : Spot S) → f s ≡ Some u → SpotFine z r earlier v x (n, s) → Fine u (r.layout ∷ x.below)) → holder n program ≡ Some p → if_some (find n List_here) f ≡ Some u → Own p u
    by_number n p f u k h g =
        let t = then_inv (find n List_here) f u g in
        at_own p u (same_Some _ _ (sym h ∙ holds_here n t.value t.was)) (k t.value t.gives (spot_fine z r earlier v x n t.value t.was))

    end_if : (c : Bool) (name : List ℕ) (p : ℕ) (u w : Value S) → (c ≡ true → name ≡ r.name) → named name program ≡ Some p → Fine w (r.layout ∷ x.below) → (if c then Some w else None) ≡ Some u → Own p u
    end_if false name p u w d h f g = absurd cc
    end_if true name p u w d h f g =
        let k : named name program ≡ Some (length earlier) = ap (λ y. named y program) (d refl) ∙ (places program checked (length earlier) r get_here).name in
        at_own p u (same_Some _ _ (sym h ∙ k)) (subst (λ y. Fine y (r.layout ∷ x.below)) (same_Some w u g) f)

    holder_of : (o : Option ℕ) (e : QueryRefusal) (p : ℕ) → found_or e o ≡ Belongs p → o ≡ Some p
    holder_of None e p g = absurd cc
    holder_of (Some q) e p g = cc

    loop_of : (b : Bool) (o : Option ℕ) (e : QueryRefusal) (p : ℕ) → found_loop b (found_or e o) ≡ Belongs p → o ≡ Some p
    loop_of b None e p g = absurd cc
    loop_of true (Some q) e p g = cc
    loop_of false (Some q) e p g = absurd cc

    value_fit : (l : Location) (p : ℕ) → procedure_of program l ≡ Belongs p → (u : Value S) → value_in dom engine (r ∷ earlier) z v l ≡ Some u → Own p u
    value_fit (Before n) p h u g = by_number n p (λ s. Some s.before) u (λ s e f. subst (λ y. Fine y (r.layout ∷ x.below)) (same_Some _ _ e) f.before_fit) (holder_of _ NoStatement p h) g
    value_fit (After n) p h u g = by_number n p (λ s. Some s.after) u (λ s e f. subst (λ y. Fine y (r.layout ∷ x.below)) (same_Some _ _ e) f.after_fit) (holder_of _ NoStatement p h) g
    value_fit (Head n) p h u g = by_number n p head_value u (λ s e f. f.head_fit u e) (loop_of (is_while n program) _ NoStatement p h) g
    value_fit (End y) p h u g =
        end_if (bytes_eq y r.name) y p u _ (bytes_eq-Decides y r.name).0 (holder_of _ NoProcedure p h)
        (block_fit dom engine covers laws (thresholds engine.widening r) (keeps.rises engine.widening (reverse earlier) r x.seen.checked.0) z (calls_of dom engine earlier z) (reverse earlier) r.layout x.below
        (λ n q c v g f. procedure_fit dom engine covers laws keeps.rises earlier (n ∷ z) q c (r.layout ∷ x.below) v (look_get earlier q ∙ g) x.seen.checked.1 f)
        r.code v x.seen.checked.0 (x.fine r earlier refl)).value g

  value_in_fit : (z : List ℕ) (t : List Routine × Value S) → Entry t.0 t.1 → (l : Location) (p : ℕ) → procedure_of program l ≡ Belongs p → (u : Value S) → value_in dom engine t.0 z t.1 l ≡ Some u → FineAt p u
  value_in_fit z ([], v) x (Before n) p h u g = absurd cc
  value_in_fit z ([], v) x (After n) p h u g = absurd cc
  value_in_fit z ([], v) x (Head n) p h u g = absurd cc
  value_in_fit z ([], v) x (End y) p h u g = absurd cc
  value_in_fit z (r ∷ earlier, v) x l p h u g = let o = value_fit z r earlier v x l p h u g in record { below = x.below; routine = r; at = o.at; fine = o.fine }

  chain_fit : (l : Location) (p : ℕ) → procedure_of program l ≡ Belongs p → (z : List ℕ) (u : Value S) → value_at dom engine program l z ≡ Some u → FineAt p u
  chain_fit l p h z u g =
      let t = then_inv (entry dom engine (reverse program) z) (λ x. value_in dom engine x.0 z x.1 l) u g in
      value_in_fit z t.value (entry_fit z t.value t.was) l p h u t.gives

  -- The values of the chains: each is some chain's.
  record Heads (f : List ℕ → Option (Value S)) (y : List ℕ) (zs : List (List ℕ)) (vs : List (Value S)) : Type 0 where
    value : Value S
    rest : List (Value S)
    was : f y ≡ Some value
    were : all_values dom engine f zs ≡ Some rest
    is : value ∷ rest ≡ vs

  heads : (f : List ℕ → Option (Value S)) (y : List ℕ) (zs : List (List ℕ)) (vs : List (Value S)) → all_values dom engine f (y ∷ zs) ≡ Some vs → Heads f y zs vs
  heads f y zs vs g =
      let t = then_inv (f y) (λ v. if_some (all_values dom engine f zs) (λ vs. Some (v ∷ vs))) vs g in
      let r = then_inv (all_values dom engine f zs) (λ vs. Some (t.value ∷ vs)) vs t.gives in
      record { value = t.value; rest = r.value; was = t.was; were = r.was; is = same_Some _ _ r.gives }

  each_value : (P : Value S → Type 0) (f : List ℕ → Option (Value S)) (zs : List (List ℕ)) (vs : List (Value S)) → ((z : List ℕ) (u : Value S) → f z ≡ Some u → P u) → all_values dom engine f zs ≡ Some vs → Each P vs
  each_value P f [] vs k g = subst (Each P) (same_Some _ _ g) (none_there P)
  each_value P f (y ∷ zs) vs k g =
      let t = heads f y zs vs g in subst (Each P) t.is (each_more P t.value t.rest (k y t.value t.was) (each_value P f zs t.rest k t.were))

  -- Each is shed, and they are joined.
  module _ (p : ℕ) (t : Routine) (at : slice_get program p ≡ Some t) where
    fine_here : (u : Value S) → (f : FineAt p u) → Fine u (t.layout ∷ f.below)
    fine_here u f = subst (λ (t : Routine). Fine u (t.layout ∷ f.below)) (same_Some _ _ (sym f.at ∙ at)) f.fine

    shed_fine : (u : Value S) → FineAt p u → Fine (lift dom.shed u) (t.layout ∷ [])
    shed_fine u f = fit_shed dom engine covers laws t.layout f.below u (fine_here u f)

    shed_fit : (vs : List (Value S)) → Each (FineAt p) vs → EachFit dom engine covers laws (t.layout ∷ []) (map (lift dom.shed) vs)
    shed_fit [] e = tt
    shed_fit (v ∷ vs) e = (shed_fine v (e.at v here), shed_fit vs (record { at = λ x m. e.at x (there m) }))

    answers_inj : (v u : Value S) → Answers v ≡ Answers u → v ≡ u
    answers_inj v u e = cc

    summed_fit : (vs : List (Value S)) (u : Value S) → summed dom engine vs ≡ Answers u → Each (FineAt p) vs → Fine u (t.layout ∷ [])
    summed_fit [] u g e = absurd cc
    summed_fit (x ∷ vs) u g e =
        subst (λ u. Fine u (t.layout ∷ [])) (answers_inj _ _ g)
        (fit_joined dom engine covers laws (t.layout ∷ []) (lift dom.shed x) (map (lift dom.shed) vs) (shed_fine x (e.at x here)) (shed_fit vs (record { at = λ x m. e.at x (there m) })))

  -- The last frame of a configuration: its procedure's layout, which the item on top fits.
  pub record Topped (h : Heap) (m : Variables) (w : Work) : Type 0 where
    pub layout : Layout
    pub before : List Routine
    pub suits : FitsTop before layout w
    pub proper : IsProper h (m ∷ []) (layout ∷ [])

  -- and the state that is answered there describes it
  pub record Described (h : Heap) (m : Variables) (w : Work) (s : S) : Type 0 where
    pub topped : Topped h m w
    pub fits : dom.fits s (topped.layout ∷ []) ≡ true
    pub covered : covers s h (m ∷ [])

  abbrev IsGood : Heap → List Frame → Type 0
  IsGood = Good dom engine covers laws keeps program (reverse program) (same_in_turn program)

  top_of : (a : Place dom engine covers laws keeps program (reverse program) (same_in_turn program)) (w : Work) (v e : Value S) → Fits dom engine covers laws keeps program (reverse program) (same_in_turn program) a w v e → FitsTop (reverse a.earlier) a.routine.layout w
  top_of a (Ret p) v e f = tt
  top_of a (Done n o w) v e f = tt
  top_of a (Do d w) v e (fits_do b f) = b.suits
  top_of a (Test n g b w) v e (fits_test k bu f) = k.suits

  topped_by : (a : Place dom engine covers laws keeps program (reverse program) (same_in_turn program)) (h : Heap) (m : Variables) (w : Work) (v e : Value S) (ms : List Variables) → Fits dom engine covers laws keeps program (reverse program) (same_in_turn program) a w v e → IsProper h (m ∷ ms) (a.routine.layout ∷ a.below) → Topped h m w
  topped_by a h m w v e ms f r = record {
    layout = a.routine.layout;
    before = reverse a.earlier;
    suits = top_of a w v e f;
    proper = keeps.last_alone a.routine.layout a.below h m ms r;
  }

  pub good_topped : (h : Heap) (p : ℕ) (m : Variables) (w : Work) (below : List Frame) → IsGood h (In p m w ∷ below) → Topped h m w
  good_topped h p m w below (good {v = v} {e = e} {ms = ms} a known stack r f y) = topped_by a h m w v e ms f r

  pub good_described : (h : Heap) (p : ℕ) (m : Variables) (w : Work) (below : List Frame) → IsGood h (In p m w ∷ below) → (l : Location) → location_of program w ≡ Some l → (s : S) → answer dom engine program l [] ≡ Answers (State s) → Described h m w s
  unfolding topped_by
  good_described h p m w below (good {v = v} {e = e} {ms = ms} a known stack r f y) l tl s g =
      let t = asked dom engine covers laws keeps program checked places l [] (State s) g in
      let i : t.place ≡ length a.earlier = top_procedure dom engine covers laws keeps program checked places a known w v e f l tl t.place t.belongs in
      let at : slice_get program t.place ≡ Some a.routine = ap (slice_get program) i ∙ place_get dom engine covers laws keeps program checked places a known in
      let each = each_value (FineAt t.place) (value_at dom engine program l) (selected program t.place []) t.values (chain_fit l t.place t.belongs) t.all in
      record {
        topped = topped_by a h m w v e ms f r;
        fits = summed_fit t.place a.routine at t.values (State s) t.sum each;
        covered = good_answered dom engine covers laws keeps program checked places h p m w below (good a known stack r f y) l tl [] refl (State s) g;
      }

  -- Some chain comes to where a configuration stands.
  no_none : (f : List ℕ → Option (Value S)) (zs : List (List ℕ)) (z : List ℕ) → Member z zs → sum_of dom engine (all_values dom engine f zs) ≡ Refuses NoChain → ⊥
  no_none f zs z m g = by zs m (all_values dom engine f zs) refl g
    where
      by : (zs : List (List ℕ)) → Member z zs → (o : Option (List (Value S))) → all_values dom engine f zs ≡ o → sum_of dom engine o ≡ Refuses NoChain → ⊥
      by zs m None k g = cc
      by [] m (Some []) k g = elim m [ ]
      by (y ∷ zs) m (Some []) k g = let t = heads f y zs [] k in no_cons t.value t.rest t.is
        where
          no_cons : (v : Value S) (vs : List (Value S)) → v ∷ vs ≡ [] → ⊥
          no_cons v vs e = cc
      by zs m (Some (v ∷ vs)) k g = cc

  pub misses_other : (l : Location) → procedure_of program l ≡ Misses NoChain → ⊥
  misses_other (Before n) e = missing (holder n program) e
    where
      missing : (o : Option ℕ) → found_or NoStatement o ≡ Misses NoChain → ⊥
      missing None e = cc
      missing (Some q) e = cc
  misses_other (After n) e = missing (holder n program) e
    where
      missing : (o : Option ℕ) → found_or NoStatement o ≡ Misses NoChain → ⊥
      missing None e = cc
      missing (Some q) e = cc
  misses_other (Head n) e = missing (is_while n program) (holder n program) e
    where
      missing : (b : Bool) (o : Option ℕ) → found_loop b (found_or NoStatement o) ≡ Misses NoChain → ⊥
      missing b None e = cc
      missing true (Some q) e = cc
      missing false (Some q) e = cc
  misses_other (End x) e = missing (named x program) e
    where
      missing : (o : Option ℕ) → found_or NoProcedure o ≡ Misses NoChain → ⊥
      missing None e = cc
      missing (Some q) e = cc

  pub good_chain : (h : Heap) (p : ℕ) (m : Variables) (w : Work) (below : List Frame) → IsGood h (In p m w ∷ below) → (l : Location) → location_of program w ≡ Some l → answer dom engine program l [] ≡ Refuses NoChain → ⊥
  good_chain h p m w below (good {v = v} {e = e} {ms = ms} a known stack r f y) l tl g = by (procedure_of program l) refl g
    where
      refused : (r : QueryRefusal) (a : Answer S) → a ≡ Refuses r → a ≡ Refuses NoChain → r ≡ NoChain
      refused r a d e = cc

      mem : Member a.z (chains program (length a.earlier))
      mem = stack_chain dom engine covers laws keeps program checked places (length program) _ _ _ _ _ _ stack a.routine a.earlier refl (short dom engine covers laws keeps program checked places below a ms stack)

      by : (o : Found) → procedure_of program l ≡ o → answer_in dom engine program l [] o ≡ Refuses NoChain → ⊥
      by (Misses r) k g = misses_other l (k ∙ ap Misses (refused r (answer_in dom engine program l [] (Misses r)) refl g))
      by (Belongs q) k g =
          let i : q ≡ length a.earlier = top_procedure dom engine covers laws keeps program checked places a known w v e f l tl q k in
          no_none (value_at dom engine program l) (selected program q []) a.z (subst (λ q. Member a.z (selected program q [])) (sym i) (in_selected [] a.z (chains program (length a.earlier)) mem refl)) g
