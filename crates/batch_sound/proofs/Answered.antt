-- A configuration lies in the answer at its location under any call string that its chain ends in.
use Rattle.std.specs.Prelude.{◌≡◌, ℕ, List, [], ◌∷◌, length, map, reverse, slice_get, Option, Some, None, Bool, true, false, if◌then◌else◌, nat_lt}
use Rattle.std.proofs.Common.{refl, sym, ap, ◌∙◌, arith, subst}
use Rattle.std.specs.Str.{bytes_eq}
use Rattle.std.proofs.lemmas.Slice.Eq.{bytes_eq-Decides}
use Rattle.imp_syntax.specs.declared.edit.Location.{Location}
use Rattle.imp_syntax.specs.declared.edit.Location.TheVariants.{Before, After, Head, End}
use Rattle.imp_slots.specs.Plain.{Layout, Effect, Invoke, Code, Simple, Routine}
use Rattle.imp_slots.specs.Fits.{fits_effect, IsChecked}
use Rattle.concrete_sem.specs.Values.{Variables, Heap}
use Rattle.concrete_sem.specs.Steps.{Work, Do, Frame, In}
use Rattle.concrete_sem.specs.Reach.{location_of, sites}
use Rattle.concrete_sem.specs.Proper.{IsProper}
use Rattle.imp_chains.specs.Chains.{chains, ends_in, selected, holder, named, is_while}
use Rattle.imp_chains.specs.Thresholds.{thresholds}
use Rattle.imp_chains.specs.Claims.{PlacesAreFound}
use Rattle.domain_laws.specs.Operations.{Operations}
use Rattle.domain_laws.specs.Laws.{Laws}
use Rattle.imp_words.specs.declared.refusal.QueryRefusal.{QueryRefusal}
use Rattle.imp_words.specs.declared.refusal.QueryRefusal.TheVariants.{LongString, NoProcedure, NoStatement, NoChain}
use Rattle.batch_meaning.specs.Values.{Value, State, lift}
use Rattle.batch_meaning.specs.Batch.{LoopOptions, calls_of}
use Rattle.batch_meaning.specs.Places.{Spot, spots, find, from, main_layout, if_some, head_value, value_in, entered, entry, value_at}
use Rattle.batch_meaning.specs.Answers.{Refuses, Answers, Found, In as Belongs, Misses, found_or, found_loop, procedure_of, all_values, summed, sum_of, answer_in, answer}
use Rattle.batch_sound.proofs.Values.{Says, Fit, fit_enter, fit_shed, says_shed, EachFit, Below, EachBelow, fit_joined, joined_first, joined_each}
use Rattle.batch_meaning.proofs.Procedures.{look_get, fit_back}
use Rattle.base_values.proofs.Members.{Member, here, there, Each, each_more, none_there}
use Rattle.batch_meaning.proofs.Places.{found_member}
use Rattle.batch_sound.proofs.Chains.{in_selected}
use Rattle.batch_sound.proofs.Fitting.{SpotFit, spots_fit, block_fit, procedure_fit, entered_fit}
use Rattle.batch_sound.proofs.Steps.{Kept, Place, Seen, fits_do, seen_behind, Stack, bottom, above, Good, good}
use Rattle.batch_sound.proofs.Reached.{same_in_turn, place_get, holder_at, top_under, top_procedure, stack_entry, stack_sites, short, stack_chain}
use Rattle.std.proofs.lemmas.Option.{same_Some}

-- what is taken from an option
pub record Then {A B : Type 0} (o : Option A) (f : A → Option B) (b : B) : Type 0 where
  pub value : A
  pub was : o ≡ Some value
  pub gives : f value ≡ Some b

pub then_inv : {A B : Type 0} (o : Option A) (f : A → Option B) (b : B) → if_some o f ≡ Some b → Then o f b
then_inv None f b e = absurd cc
then_inv (Some a) f b e = record { value = a; was = refl; gives = e }

module _ {S : Type 0} (dom : Operations S) (engine : LoopOptions) (covers : S → Heap → List Variables → Type 0) (laws : Laws dom covers) (keeps : Kept) (program : List Routine) (checked : IsChecked program) (places : PlacesAreFound) where
  abbrev Yes : Value S → Heap → List Variables → Type 0
  Yes = Says dom engine covers laws

  abbrev Fine : Value S → List Layout → Type 0
  Fine = Fit dom engine covers laws

  abbrev Under : List Layout → Value S → Value S → Type 0
  Under = Below dom engine covers laws

  abbrev Sees : List Routine → Type 0
  Sees = Seen dom engine covers laws keeps program (reverse program) (same_in_turn program)

  -- The values of batch interpretation fit.
  record Entry (list : List Routine) (v : Value S) : Type 0 where
    below : List Layout
    seen : Sees list
    fine : (r : Routine) (earlier : List Routine) → list ≡ r ∷ earlier → Fine v (r.layout ∷ below)

  -- A value that fits a frame of procedure p.
  pub record FineAt (p : ℕ) (v : Value S) : Type 0 where
    pub below : List Layout
    pub routine : Routine
    pub at : slice_get program p ≡ Some routine
    pub fine : Fine v (routine.layout ∷ below)

  abbrev SpotFine : (z : List ℕ) (r : Routine) (earlier : List Routine) (v : Value S) (x : Entry (r ∷ earlier) v) → ℕ × Spot S → Type 0
  SpotFine z r earlier v x =
      SpotFit dom engine covers laws (thresholds engine.widening r) (keeps.rises engine.widening (reverse earlier) r x.seen.checked.0) z (calls_of dom engine earlier z) (reverse earlier) r.layout x.below
      (λ n q c v g f. procedure_fit dom engine covers laws keeps.rises earlier (n ∷ z) q c (r.layout ∷ x.below) v (look_get earlier q ∙ g) x.seen.checked.1 f)

  spot_fine : (z : List ℕ) (r : Routine) (earlier : List Routine) (v : Value S) (x : Entry (r ∷ earlier) v) (n : ℕ) (s : Spot S) → find n (spots dom engine (thresholds engine.widening r) z (calls_of dom engine earlier z) r.code v) ≡ Some s → SpotFine z r earlier v x (n, s)
  spot_fine z r earlier v x n s e =
      (spots_fit dom engine covers laws (thresholds engine.widening r) (keeps.rises engine.widening (reverse earlier) r x.seen.checked.0) z (calls_of dom engine earlier z) (reverse earlier) r.layout x.below
      (λ n q c v g f. procedure_fit dom engine covers laws keeps.rises earlier (n ∷ z) q c (r.layout ∷ x.below) v (look_get earlier q ∙ g) x.seen.checked.1 f)
      r.code v x.seen.checked.0 (x.fine r earlier refl)).at (n, s) (found_member n s _ e)

  entered_entry : (n : ℕ) (z : List ℕ) (list : List Routine) (v : Value S) → Entry list v → (t : List Routine × Value S) → entered dom engine n z (list, v) ≡ Some t → Entry t.0 t.1
  entered_entry n z [] v x t g = absurd cc
  entered_entry n z (r ∷ earlier) v x t g =
      let s = then_inv (find n (spots dom engine (thresholds engine.widening r) z (calls_of dom engine earlier z) r.code v)) (λ s. if_some s.call (λ k. Some (from earlier k.1, lift (dom.enter k.0.entering) s.before))) t g in
      let u = then_inv s.value.call (λ k. Some (from earlier k.1, lift (dom.enter k.0.entering) s.value.before)) t s.gives in
      let f = spot_fine z r earlier v x n s.value s.was in
      go s.value u.value u.was f t u.gives
    where
      go : (s : Spot S) (k : Invoke × ℕ) → s.call ≡ Some k → SpotFine z r earlier v x (n, s) → (t : List Routine × Value S) → Some (from earlier k.1, lift (dom.enter k.0.entering) s.before) ≡ Some t → Entry t.0 t.1
      go s k e f t g =
          subst (λ (t : List Routine × Value S). Entry t.0 t.1) (same_Some _ _ g)
          (record {
            below = r.layout ∷ x.below;
            seen = seen_behind dom engine covers laws keeps program (reverse program) (same_in_turn program) r earlier k.1 x.seen;
            fine = entered_fit dom engine covers laws earlier r.layout x.below k.0 k.1 s.before (f.call k e) f.before_fit;
          })

  first_entry : (list : List Routine) → Sees list → Entry list (State (dom.init (main_layout list)))
  first_entry list s = record { below = []; seen = s; fine = λ r e i. subst (λ ps. Fine (State (dom.init (main_layout ps))) (r.layout ∷ [])) (sym i) (laws.fitting.init r.layout) }

  seen_all : Sees (reverse program)
  seen_all = record { checked = fit_back program checked; same = λ q k. refl; long = omega arith }

  entry_fit : (z : List ℕ) (t : List Routine × Value S) → entry dom engine (reverse program) z ≡ Some t → Entry t.0 t.1
  entry_fit [] t g = subst (λ (t : List Routine × Value S). Entry t.0 t.1) (same_Some _ _ g) (first_entry (reverse program) seen_all)
  entry_fit (n ∷ z) t g =
      let s = then_inv (entry dom engine (reverse program) z) (entered dom engine n z) t g in
      entered_entry n z s.value.0 s.value.1 (entry_fit z s.value s.was) t s.gives

  -- A value at a location fits a frame of the location's procedure.
  module _ (z : List ℕ) (r : Routine) (earlier : List Routine) (v : Value S) (x : Entry (r ∷ earlier) v) where
    here_place : Place dom engine covers laws keeps program (reverse program) (same_in_turn program)
    here_place = record { z = z; below = x.below; earlier = earlier; routine = r; first = v }

    get_here : slice_get program (length earlier) ≡ Some r
    unfolding here_place
    get_here = place_get dom engine covers laws keeps program checked places here_place x.seen

    abbrev List_here : List (ℕ × Spot S)
    List_here = spots dom engine (thresholds engine.widening r) z (calls_of dom engine earlier z) r.code v

    holds_here : (n : ℕ) (s : Spot S) → find n List_here ≡ Some s → holder n program ≡ Some (length earlier)
    unfolding here_place
    holds_here n s e = holder_at dom engine covers laws keeps program checked places here_place x.seen n s (found_member n s List_here e)

    record Own (p : ℕ) (u : Value S) : Type 0 where
      at : slice_get program p ≡ Some r
      fine : Fine u (r.layout ∷ x.below)

    at_own : (p : ℕ) (u : Value S) → p ≡ length earlier → Fine u (r.layout ∷ x.below) → Own p u
    at_own p u i f = record { at = ap (slice_get program) i ∙ get_here; fine = f }

    by_number : (n p : ℕ) (f : Spot S → Option (Value S)) (u : Value S) → ((s : Spot S) → f s ≡ Some u → SpotFine z r earlier v x (n, s) → Fine u (r.layout ∷ x.below)) → holder n program ≡ Some p → if_some (find n List_here) f ≡ Some u → Own p u
    by_number n p f u k h g =
        let t = then_inv (find n List_here) f u g in
        at_own p u (same_Some _ _ (sym h ∙ holds_here n t.value t.was)) (k t.value t.gives (spot_fine z r earlier v x n t.value t.was))

    end_if : (c : Bool) (name : List ℕ) (p : ℕ) (u w : Value S) → (c ≡ true → name ≡ r.name) → named name program ≡ Some p → Fine w (r.layout ∷ x.below) → (if c then Some w else None) ≡ Some u → Own p u
    end_if false name p u w d h f g = absurd cc
    end_if true name p u w d h f g =
        let k : named name program ≡ Some (length earlier) = ap (λ y. named y program) (d refl) ∙ (places program checked (length earlier) r get_here).name in
        at_own p u (same_Some _ _ (sym h ∙ k)) (subst (λ y. Fine y (r.layout ∷ x.below)) (same_Some w u g) f)

    holder_of : (o : Option ℕ) (e : QueryRefusal) (p : ℕ) → found_or e o ≡ Belongs p → o ≡ Some p
    holder_of None e p g = absurd cc
    holder_of (Some q) e p g = cc

    loop_of : (b : Bool) (o : Option ℕ) (e : QueryRefusal) (p : ℕ) → found_loop b (found_or e o) ≡ Belongs p → o ≡ Some p
    loop_of b None e p g = absurd cc
    loop_of true (Some q) e p g = cc
    loop_of false (Some q) e p g = absurd cc

    value_fit : (l : Location) (p : ℕ) → procedure_of program l ≡ Belongs p → (u : Value S) → value_in dom engine (r ∷ earlier) z v l ≡ Some u → Own p u
    value_fit (Before n) p h u g = by_number n p (λ s. Some s.before) u (λ s e f. subst (λ y. Fine y (r.layout ∷ x.below)) (same_Some _ _ e) f.before_fit) (holder_of _ NoStatement p h) g
    value_fit (After n) p h u g = by_number n p (λ s. Some s.after) u (λ s e f. subst (λ y. Fine y (r.layout ∷ x.below)) (same_Some _ _ e) f.after_fit) (holder_of _ NoStatement p h) g
    value_fit (Head n) p h u g = by_number n p head_value u (λ s e f. f.head_fit u e) (loop_of (is_while n program) _ NoStatement p h) g
    value_fit (End y) p h u g =
        end_if (bytes_eq y r.name) y p u _ (bytes_eq-Decides y r.name).0 (holder_of _ NoProcedure p h)
        (block_fit dom engine covers laws (thresholds engine.widening r) (keeps.rises engine.widening (reverse earlier) r x.seen.checked.0) z (calls_of dom engine earlier z) (reverse earlier) r.layout x.below
        (λ n q c v g f. procedure_fit dom engine covers laws keeps.rises earlier (n ∷ z) q c (r.layout ∷ x.below) v (look_get earlier q ∙ g) x.seen.checked.1 f)
        r.code v x.seen.checked.0 (x.fine r earlier refl)).value g

  value_in_fit : (z : List ℕ) (t : List Routine × Value S) → Entry t.0 t.1 → (l : Location) (p : ℕ) → procedure_of program l ≡ Belongs p → (u : Value S) → value_in dom engine t.0 z t.1 l ≡ Some u → FineAt p u
  value_in_fit z ([], v) x (Before n) p h u g = absurd cc
  value_in_fit z ([], v) x (After n) p h u g = absurd cc
  value_in_fit z ([], v) x (Head n) p h u g = absurd cc
  value_in_fit z ([], v) x (End y) p h u g = absurd cc
  value_in_fit z (r ∷ earlier, v) x l p h u g = let o = value_fit z r earlier v x l p h u g in record { below = x.below; routine = r; at = o.at; fine = o.fine }

  chain_fit : (l : Location) (p : ℕ) → procedure_of program l ≡ Belongs p → (z : List ℕ) (u : Value S) → value_at dom engine program l z ≡ Some u → FineAt p u
  chain_fit l p h z u g =
      let t = then_inv (entry dom engine (reverse program) z) (λ x. value_in dom engine x.0 z x.1 l) u g in
      value_in_fit z t.value (entry_fit z t.value t.was) l p h u t.gives

  -- The values of the chains: that of each chain is among them, and each is some chain's.
  record Among (f : List ℕ → Option (Value S)) (z : List ℕ) (vs : List (Value S)) : Type 0 where
    value : Value S
    was : f z ≡ Some value
    member : Member value vs

  record Heads (f : List ℕ → Option (Value S)) (y : List ℕ) (zs : List (List ℕ)) (vs : List (Value S)) : Type 0 where
    value : Value S
    rest : List (Value S)
    was : f y ≡ Some value
    were : all_values dom engine f zs ≡ Some rest
    is : value ∷ rest ≡ vs

  heads : (f : List ℕ → Option (Value S)) (y : List ℕ) (zs : List (List ℕ)) (vs : List (Value S)) → all_values dom engine f (y ∷ zs) ≡ Some vs → Heads f y zs vs
  heads f y zs vs g =
      let t = then_inv (f y) (λ v. if_some (all_values dom engine f zs) (λ vs. Some (v ∷ vs))) vs g in
      let r = then_inv (all_values dom engine f zs) (λ vs. Some (t.value ∷ vs)) vs t.gives in
      record { value = t.value; rest = r.value; was = t.was; were = r.was; is = same_Some _ _ r.gives }

  among : (f : List ℕ → Option (Value S)) (zs : List (List ℕ)) (vs : List (Value S)) → all_values dom engine f zs ≡ Some vs → (z : List ℕ) → Member z zs → Among f z vs
  among f [] vs g z m = elim m [ ]
  among f (y ∷ zs) vs g z here = let t = heads f y zs vs g in record { value = t.value; was = t.was; member = subst (Member t.value) t.is here }
  among f (y ∷ zs) vs g z (there m) =
      let t = heads f y zs vs g in
      let k = among f zs t.rest t.were z m in
      record { value = k.value; was = k.was; member = subst (Member k.value) t.is (there k.member) }

  each_value : (P : Value S → Type 0) (f : List ℕ → Option (Value S)) (zs : List (List ℕ)) (vs : List (Value S)) → ((z : List ℕ) (u : Value S) → f z ≡ Some u → P u) → all_values dom engine f zs ≡ Some vs → Each P vs
  each_value P f [] vs k g = subst (Each P) (same_Some _ _ g) (none_there P)
  each_value P f (y ∷ zs) vs k g =
      let t = heads f y zs vs g in subst (Each P) t.is (each_more P t.value t.rest (k y t.value t.was) (each_value P f zs t.rest k t.were))

  -- Each is shed, and they are joined.
  module _ (p : ℕ) (t : Routine) (at : slice_get program p ≡ Some t) where
    fine_here : (u : Value S) → (f : FineAt p u) → Fine u (t.layout ∷ f.below)
    fine_here u f = subst (λ (t : Routine). Fine u (t.layout ∷ f.below)) (same_Some _ _ (sym f.at ∙ at)) f.fine

    shed_fine : (u : Value S) → FineAt p u → Fine (lift dom.shed u) (t.layout ∷ [])
    shed_fine u f = fit_shed dom engine covers laws t.layout f.below u (fine_here u f)

    shed_fit : (vs : List (Value S)) → Each (FineAt p) vs → EachFit dom engine covers laws (t.layout ∷ []) (map (lift dom.shed) vs)
    shed_fit [] e = tt
    shed_fit (v ∷ vs) e = (shed_fine v (e.at v here), shed_fit vs (record { at = λ x m. e.at x (there m) }))

    each_at : (v u : Value S) (vs : List (Value S)) → EachBelow dom engine covers laws (t.layout ∷ []) (map (lift dom.shed) vs) u → Member v vs → Under (t.layout ∷ []) (lift dom.shed v) u
    each_at v u [] b m = elim m [ ]
    each_at v u (x ∷ vs) b here = b.0
    each_at v u (x ∷ vs) b (there m) = each_at v u vs b.1 m

    answers_inj : (v u : Value S) → Answers v ≡ Answers u → v ≡ u
    answers_inj v u e = cc

    summed_under : (vs : List (Value S)) (u v : Value S) → summed dom engine vs ≡ Answers u → Each (FineAt p) vs → Member v vs → Under (t.layout ∷ []) (lift dom.shed v) u
    summed_under [] u v g e m = elim m [ ]
    summed_under (x ∷ vs) u v g e here =
        subst (Under (t.layout ∷ []) (lift dom.shed x)) (answers_inj _ _ g)
        (joined_first dom engine covers laws (t.layout ∷ []) (lift dom.shed x) (map (lift dom.shed) vs) (shed_fine x (e.at x here)) (shed_fit vs (record { at = λ x m. e.at x (there m) })))
    summed_under (x ∷ vs) u v g e (there m) =
        each_at v u vs
        (subst (EachBelow dom engine covers laws (t.layout ∷ []) (map (lift dom.shed) vs)) (answers_inj _ _ g)
        (joined_each dom engine covers laws (t.layout ∷ []) (lift dom.shed x) (map (lift dom.shed) vs) (shed_fine x (e.at x here)) (shed_fit vs (record { at = λ x m. e.at x (there m) })))) m

    summed_fit : (vs : List (Value S)) (u : Value S) → summed dom engine vs ≡ Answers u → Each (FineAt p) vs → Fine u (t.layout ∷ [])
    summed_fit [] u g e = absurd cc
    summed_fit (x ∷ vs) u g e =
        subst (λ u. Fine u (t.layout ∷ [])) (answers_inj _ _ g)
        (fit_joined dom engine covers laws (t.layout ∷ []) (lift dom.shed x) (map (lift dom.shed) vs) (shed_fine x (e.at x here)) (shed_fit vs (record { at = λ x m. e.at x (there m) })))

  -- What an answer comes from: the location's procedure, and the values of the selected chains.
  pub record Asked (l : Location) (string : List ℕ) (u : Value S) : Type 0 where
    pub place : ℕ
    pub belongs : procedure_of program l ≡ Belongs place
    pub values : List (Value S)
    pub all : all_values dom engine (value_at dom engine program l) (selected program place string) ≡ Some values
    pub sum : summed dom engine values ≡ Answers u

  asked_in : (l : Location) (string : List ℕ) (u : Value S) (f : Found) → procedure_of program l ≡ f → answer_in dom engine program l string f ≡ Answers u → Asked l string u
  asked_in l string u (Misses r) e g = absurd cc
  asked_in l string u (Belongs p) e g = by (all_values dom engine (value_at dom engine program l) (selected program p string)) refl g
    where
      by : (o : Option (List (Value S))) → all_values dom engine (value_at dom engine program l) (selected program p string) ≡ o → sum_of dom engine o ≡ Answers u → Asked l string u
      by None k g = absurd cc
      by (Some vs) k g = record { place = p; belongs = e; values = vs; all = k; sum = g }

  pub asked : (l : Location) (string : List ℕ) (u : Value S) → answer dom engine program l string ≡ Answers u → Asked l string u
  asked l string u g = by (nat_lt 2 (length string)) g
    where
      by : (c : Bool) → (if c then Refuses LongString else answer_in dom engine program l string (procedure_of program l)) ≡ Answers u → Asked l string u
      by true g = absurd cc
      by false g = asked_in l string u (procedure_of program l) refl g

  stack_fine : (below : List Frame) (z : List ℕ) (ps : List Layout) (list : List Routine) (first : Value S) (ms : List Variables) → Stack dom engine covers laws keeps program (reverse program) (same_in_turn program) below z ps list first ms → (r : Routine) (earlier : List Routine) → list ≡ r ∷ earlier → Fine first (r.layout ∷ ps)
  stack_fine below z ps list first ms bottom r earlier e = subst (λ ps. Fine (State (dom.init (main_layout ps))) (r.layout ∷ [])) (sym e) (laws.fitting.init r.layout)
  stack_fine below z ps list first ms (above {c = c} {i = i} a known stack x at ic fr ea lay suits fine f bu k r0 y) r earlier e =
      let same : c ≡ r = cc in
      let g : Fine first (i.entering.layout ∷ a.routine.layout ∷ a.below) = subst (λ v. Fine v (i.entering.layout ∷ a.routine.layout ∷ a.below)) (sym ea) (fit_enter dom engine covers laws i a.routine.layout a.below x.before suits fine) in
      subst (λ l. Fine first (l ∷ a.routine.layout ∷ a.below)) (sym lay ∙ ap (λ (r : Routine). r.layout) same) g

  -- A configuration lies in the answer at its location.
  pub good_answered : (h : Heap) (p : ℕ) (m : Variables) (w : Work) (below : List Frame) → Good dom engine covers laws keeps program (reverse program) (same_in_turn program) h (In p m w ∷ below) → (l : Location) → location_of program w ≡ Some l → (string : List ℕ) → ends_in (reverse string) (sites below) ≡ true → (u : Value S) → answer dom engine program l string ≡ Answers u → Says dom engine covers laws u h (m ∷ [])
  good_answered h p m w below (good {v = v} {e = e} {ms = ms} a known stack r f y) l tl string es u g =
      let t = asked l string u g in
      let i : t.place ≡ length a.earlier = top_procedure dom engine covers laws keeps program checked places a known w v e f l tl t.place t.belongs in
      let at : slice_get program t.place ≡ Some a.routine = ap (slice_get program) i ∙ place_get dom engine covers laws keeps program checked places a known in
      let st = stack_sites dom engine covers laws keeps program checked places _ _ _ _ _ _ stack in
      let mem = stack_chain dom engine covers laws keeps program checked places (length program) _ _ _ _ _ _ stack a.routine a.earlier refl (short dom engine covers laws keeps program checked places below a ms stack) in
      let sel = in_selected (reverse string) a.z (chains program (length a.earlier)) mem (subst (λ z. ends_in (reverse string) z ≡ true) (sym st.0) es) in
      let am = among (value_at dom engine program l) (selected program t.place string) t.values t.all a.z (subst (λ p. Member a.z (selected program p string)) (sym i) sel) in
      let each = each_value (FineAt t.place) (value_at dom engine program l) (selected program t.place string) t.values (chain_fit l t.place t.belongs) t.all in
      let was = subst (λ o. if_some o (λ x. value_in dom engine x.0 a.z x.1 l) ≡ Some am.value) (stack_entry dom engine covers laws keeps program checked places _ _ _ _ _ _ stack) am.was in
      let own = value_fit a.z a.routine a.earlier a.first (record { below = a.below; seen = known; fine = λ b e i. stack_fine _ _ _ _ _ _ stack b e i }) l t.place t.belongs am.value was in
      let says = (top_under dom engine covers laws keeps program checked places a known w v e am.value f l tl was).says h (m ∷ ms) r y in
      (summed_under t.place a.routine at t.values u am.value t.sum each am.member).says h (m ∷ []) (keeps.last_alone a.routine.layout a.below h m ms r)
      (says_shed dom engine covers laws a.routine.layout a.below am.value h m ms own.fine r says)

  -- What the answer before a simple statement that is about to be done says of the configuration.
  pub record Described (e : Effect) (s : S) (h : Heap) (m : Variables) : Type 0 where
    pub layout : Layout
    pub suits : fits_effect layout e ≡ true
    pub fits : dom.fits s (layout ∷ []) ≡ true
    pub proper : IsProper h (m ∷ []) (layout ∷ [])
    pub covered : covers s h (m ∷ [])

  pub good_described : (h : Heap) (p : ℕ) (m : Variables) (n : ℕ) (x : Effect) (d : Code) (w : Work) (below : List Frame) → Good dom engine covers laws keeps program (reverse program) (same_in_turn program) h (In p m (Do (Simple n x d) w) ∷ below) → (s : S) → answer dom engine program (Before n) [] ≡ Answers (State s) → Described x s h m
  good_described h p m n x d w below (good {v = v} {e = e} {ms = ms} a known stack r (fits_do b f) y) s g =
      let t = asked (Before n) [] (State s) g in
      let i : t.place ≡ length a.earlier = top_procedure dom engine covers laws keeps program checked places a known (Do (Simple n x d) w) v e (fits_do b f) (Before n) refl t.place t.belongs in
      let at : slice_get program t.place ≡ Some a.routine = ap (slice_get program) i ∙ place_get dom engine covers laws keeps program checked places a known in
      let each = each_value (FineAt t.place) (value_at dom engine program (Before n)) (selected program t.place []) t.values (chain_fit (Before n) t.place t.belongs) t.all in
      record {
        layout = a.routine.layout;
        suits = b.suits.0;
        fits = summed_fit t.place a.routine at t.values (State s) t.sum each;
        proper = keeps.last_alone a.routine.layout a.below h m ms r;
        covered = good_answered h p m (Do (Simple n x d) w) below (good a known stack r (fits_do b f) y) (Before n) refl [] refl (State s) g;
      }

  -- Some chain comes to a statement that is about to be done.
  no_none : (f : List ℕ → Option (Value S)) (zs : List (List ℕ)) (z : List ℕ) → Member z zs → sum_of dom engine (all_values dom engine f zs) ≡ Refuses NoChain → ⊥
  no_none f zs z m g = by (all_values dom engine f zs) refl g
    where
      by : (o : Option (List (Value S))) → all_values dom engine f zs ≡ o → sum_of dom engine o ≡ Refuses NoChain → ⊥
      by None k g = cc
      by (Some []) k g = let am = among f zs [] k z m in elim am.member [ ]
      by (Some (v ∷ vs)) k g = cc

  pub good_chain : (h : Heap) (p : ℕ) (m : Variables) (n : ℕ) (x : Effect) (d : Code) (w : Work) (below : List Frame) → Good dom engine covers laws keeps program (reverse program) (same_in_turn program) h (In p m (Do (Simple n x d) w) ∷ below) → answer dom engine program (Before n) [] ≡ Refuses NoChain → ⊥
  good_chain h p m n x d w below (good {v = v} {e = e} {ms = ms} a known stack r (fits_do b f) y) g =
      let mem = stack_chain dom engine covers laws keeps program checked places (length program) _ _ _ _ _ _ stack a.routine a.earlier refl (short dom engine covers laws keeps program checked places below a ms stack) in
      let sel = in_selected [] a.z (chains program (length a.earlier)) mem refl in
      let hold = holder_at dom engine covers laws keeps program checked places a known n _ (b.sub.at _ here) in
      let k = subst (λ o. answer_in dom engine program (Before n) [] (found_or NoStatement o) ≡ Refuses NoChain) hold g in
      no_none (value_at dom engine program (Before n)) (selected program (length a.earlier) []) a.z sel k
