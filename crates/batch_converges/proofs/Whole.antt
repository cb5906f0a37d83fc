-- No answer of a program is an Over.
use Rattle.std.specs.Prelude.{◌≡◌, ℕ, ◌≤◌, nat_lt, List, [], ◌∷◌, ◌++◌, length, map, reverse, slice_get, Option, Some, None, Bool, true, false, if◌then◌else◌}
use Rattle.std.proofs.Common.{refl, sym, ◌∙◌, arith, subst, append-nil, append_assoc}
use Rattle.std.specs.Str.{bytes_eq}
use Rattle.std.proofs.lemmas.List.{reverse-append}
use Rattle.imp_syntax.specs.declared.edit.Location.{Location}
use Rattle.imp_syntax.specs.declared.edit.Location.TheVariants.{Before, After, Head, End}
use Rattle.imp_slots.specs.Plain.{Layout, Invoke, Routine}
use Rattle.imp_slots.specs.Fits.{IsChecked}
use Rattle.concrete_sem.specs.Values.{Variables, Heap}
use Rattle.imp_chains.specs.Chains.{selected}
use Rattle.imp_chains.specs.Thresholds.{thresholds}
use Rattle.imp_chains.specs.Claims.{ThresholdsRise}
use Rattle.domain_laws.specs.Operations.{Operations}
use Rattle.domain_laws.specs.Laws.{Laws}
use Rattle.batch_meaning.specs.Values.{Value, State, lift}
use Rattle.batch_meaning.specs.Batch.{LoopOptions, calls_of}
use Rattle.batch_meaning.specs.Places.{Spot, spots, find, from, main_layout, if_some, head_value, value_in, entered, entry, value_at}
use Rattle.imp_words.specs.declared.refusal.QueryRefusal.TheVariants.{LongString}
use Rattle.batch_meaning.specs.Answers.{Answer, Refuses, Answers, Found, In, Misses, procedure_of, all_values, summed, sum_of, answer_in, answer}
use Rattle.batch_sound.proofs.Values.{Fit}
use Rattle.base_values.proofs.Cases.{by_test}
use Rattle.batch_meaning.proofs.Procedures.{look_get, FitBack, fit_back, fit_back_from}
use Rattle.batch_meaning.proofs.Places.{found_member}
use Rattle.batch_sound.proofs.Fitting.{SpotFit, spots_fit, procedure_fit, entered_fit}
use Rattle.batch_sound.proofs.Answered.{then_inv}
use Rattle.batch_converges.specs.Converges.{Ending, Grows, most_slots, most_thresholds, IsEnough, Converge}
use Rattle.batch_converges.proofs.Known.{Known, EachKnown, known_lift, known_joined}
use Rattle.batch_converges.proofs.Blocks.{SpotKnown, EachRoomy, block_known, spots_known, procedure_known}
use Rattle.std.proofs.lemmas.Option.{same_Some}
use Rattle.std.proofs.Math.Nat.{le-max_left, le-max_right}

module _ {S : Type 0} (dom : Operations S) (engine : LoopOptions) (covers : S → Heap → List Variables → Type 0) (laws : Laws dom covers) (wait : ℕ → ℕ) (most : ℕ → ℕ → ℕ) (ending : Ending dom wait most) (rises : ThresholdsRise) where
  abbrev Fine : Value S → List Layout → Type 0
  Fine = Fit dom engine covers laws

  abbrev Roomy : List Routine → Type 0
  Roomy = EachRoomy dom engine covers laws wait most ending

  -- Procedures and the value before the last one's body: it fits a frame of the last, and is known.
  record Entry (list : List Routine) (v : Value S) : Type 0 where
    below : List Layout
    back : FitBack list
    roomy : Roomy list
    fine : (r : Routine) (earlier : List Routine) → list ≡ r ∷ earlier → Fine v (r.layout ∷ below)
    known : Known v

  roomy_from : (ps : List Routine) (q : ℕ) → Roomy ps → Roomy (from ps q)
  roomy_from [] q h = tt
  roomy_from (b ∷ ps) q h = by_test q (length ps) (λ c. Roomy (if c then b ∷ ps else from ps q)) (λ e. h) (λ e. roomy_from ps q h.1)

  abbrev spots_here : (z : List ℕ) (r : Routine) (earlier : List Routine) (v : Value S) → List (ℕ × Spot S)
  spots_here z r earlier v = spots dom engine (thresholds engine.widening r) z (calls_of dom engine earlier z) r.code v

  module _ (z : List ℕ) (r : Routine) (earlier : List Routine) (v : Value S) (x : Entry (r ∷ earlier) v) where
    keep_call : (n q : ℕ) (c : Routine) (v : Value S) → slice_get (reverse earlier) q ≡ Some c → Fine v (c.layout ∷ r.layout ∷ x.below) → Fine (calls_of dom engine earlier z n q v) (c.layout ∷ r.layout ∷ x.below)
    keep_call n q c v g f = procedure_fit dom engine covers laws rises earlier (n ∷ z) q c (r.layout ∷ x.below) v (look_get earlier q ∙ g) x.back.1 f

    know_call : (n q : ℕ) (c : Routine) (v : Value S) → slice_get (reverse earlier) q ≡ Some c → Fine v (c.layout ∷ r.layout ∷ x.below) → Known v → Known (calls_of dom engine earlier z n q v)
    know_call n q c v g f k = procedure_known dom engine covers laws wait most ending rises earlier (n ∷ z) q c (r.layout ∷ x.below) v (look_get earlier q ∙ g) x.back.1 x.roomy.1 f k

    abbrev SpotFine : ℕ × Spot S → Type 0
    SpotFine = SpotFit dom engine covers laws (thresholds engine.widening r) (rises engine.widening (reverse earlier) r x.back.0) z (calls_of dom engine earlier z) (reverse earlier) r.layout x.below keep_call

    spot_fine : (n : ℕ) (s : Spot S) → find n (spots_here z r earlier v) ≡ Some s → SpotFine (n, s)
    spot_fine n s e = (spots_fit dom engine covers laws (thresholds engine.widening r) (rises engine.widening (reverse earlier) r x.back.0) z (calls_of dom engine earlier z) (reverse earlier) r.layout x.below keep_call r.code v x.back.0 (x.fine r earlier refl)).at (n, s) (found_member n s _ e)

    spot_known : (n : ℕ) (s : Spot S) → find n (spots_here z r earlier v) ≡ Some s → SpotKnown dom engine covers laws wait most ending (n, s)
    spot_known n s e = (spots_known dom engine covers laws wait most ending (thresholds engine.widening r) (rises engine.widening (reverse earlier) r x.back.0) z (calls_of dom engine earlier z) (reverse earlier) r.layout x.below x.roomy.0 keep_call know_call r.code v x.back.0 (x.fine r earlier refl) x.known).at (n, s) (found_member n s _ e)

    entered_here : (n : ℕ) (s : Spot S) (k : Invoke × ℕ) → s.call ≡ Some k → SpotFine (n, s) → SpotKnown dom engine covers laws wait most ending (n, s) → Entry (from earlier k.1) (lift (dom.enter k.0.entering) s.before)
    entered_here n s k e f j = record {
      below = r.layout ∷ x.below;
      back = fit_back_from earlier k.1 x.back.1;
      roomy = roomy_from earlier k.1 x.roomy.1;
      fine = entered_fit dom engine covers laws earlier r.layout x.below k.0 k.1 s.before (f.call k e) f.before_fit;
      known = known_lift (dom.enter k.0.entering) s.before j.before_known;
    }

    spot_value : (n : ℕ) (f : Spot S → Option (Value S)) (u : Value S) → ((s : Spot S) → f s ≡ Some u → SpotKnown dom engine covers laws wait most ending (n, s) → Known u) → if_some (find n (spots_here z r earlier v)) f ≡ Some u → Known u
    spot_value n f u k g = let t = then_inv (find n (spots_here z r earlier v)) f u g in k t.value t.gives (spot_known n t.value t.was)

    end_value : (c : Bool) (u w : Value S) → Known w → (if c then Some w else None) ≡ Some u → Known u
    end_value true u w k g = subst (λ y. Known y) (same_Some w u g) k
    end_value false u w k g = absurd cc

    value_known : (l : Location) (u : Value S) → value_in dom engine (r ∷ earlier) z v l ≡ Some u → Known u
    value_known (Before n) u g = spot_value n (λ s. Some s.before) u (λ s e f. subst (λ y. Known y) (same_Some _ _ e) f.before_known) g
    value_known (After n) u g = spot_value n (λ s. Some s.after) u (λ s e f. subst (λ y. Known y) (same_Some _ _ e) f.after_known) g
    value_known (Head n) u g = spot_value n head_value u (λ s e f. f.head_known u e) g
    value_known (End y) u g =
        end_value (bytes_eq y r.name) u _
        (block_known dom engine covers laws wait most ending (thresholds engine.widening r) (rises engine.widening (reverse earlier) r x.back.0) z (calls_of dom engine earlier z) (reverse earlier) r.layout x.below x.roomy.0 keep_call know_call r.code v x.back.0 (x.fine r earlier refl) x.known).value g

  entered_entry : (n : ℕ) (z : List ℕ) (list : List Routine) (v : Value S) → Entry list v → (t : List Routine × Value S) → entered dom engine n z (list, v) ≡ Some t → Entry t.0 t.1
  entered_entry n z [] v x t g = absurd cc
  entered_entry n z (r ∷ earlier) v x t g =
      let s = then_inv (find n (spots_here z r earlier v)) (λ s. if_some s.call (λ k. Some (from earlier k.1, lift (dom.enter k.0.entering) s.before))) t g in
      let u = then_inv s.value.call (λ k. Some (from earlier k.1, lift (dom.enter k.0.entering) s.value.before)) t s.gives in
      subst (λ (t : List Routine × Value S). Entry t.0 t.1) (same_Some _ _ u.gives)
      (entered_here z r earlier v x n s.value u.value u.was (spot_fine z r earlier v x n s.value s.was) (spot_known z r earlier v x n s.value s.was))

  value_in_known : (z : List ℕ) (t : List Routine × Value S) → Entry t.0 t.1 → (l : Location) (u : Value S) → value_in dom engine t.0 z t.1 l ≡ Some u → Known u
  value_in_known z ([], v) x (Before n) u g = absurd cc
  value_in_known z ([], v) x (After n) u g = absurd cc
  value_in_known z ([], v) x (Head n) u g = absurd cc
  value_in_known z ([], v) x (End y) u g = absurd cc
  value_in_known z (r ∷ earlier, v) x l u g = value_known z r earlier v x l u g

  all_known : (f : List ℕ → Option (Value S)) (zs : List (List ℕ)) (vs : List (Value S)) → ((z : List ℕ) (u : Value S) → f z ≡ Some u → Known u) → all_values dom engine f zs ≡ Some vs → EachKnown vs
  all_known f [] vs k g = subst (λ vs. EachKnown vs) (same_Some _ _ g) tt
  all_known f (y ∷ zs) vs k g =
      let t = then_inv (f y) (λ v. if_some (all_values dom engine f zs) (λ vs. Some (v ∷ vs))) vs g in
      let r = then_inv (all_values dom engine f zs) (λ vs. Some (t.value ∷ vs)) vs t.gives in
      subst (λ vs. EachKnown vs) (same_Some _ _ r.gives) (k y t.value t.was, all_known f zs r.value k r.was)

  shed_known : (vs : List (Value S)) → EachKnown vs → EachKnown (map (lift dom.shed) vs)
  shed_known [] k = tt
  shed_known (v ∷ vs) k = (known_lift dom.shed v k.0, shed_known vs k.1)

  abbrev pub NotOver : Answer S → Type 0
  NotOver (Refuses r) = Unit {0}
  NotOver (Answers v) = Known v

  summed_known : (vs : List (Value S)) → EachKnown vs → NotOver (summed dom engine vs)
  summed_known [] k = tt
  summed_known (v ∷ vs) k = known_joined dom engine (lift dom.shed v) (map (lift dom.shed) vs) (known_lift dom.shed v k.0) (shed_known vs k.1)

  module _ (grows : Grows most) (program : List Routine) (checked : IsChecked program) (enough : IsEnough wait most engine program) where
    each_forth : (rs : List Routine) → most_slots rs ≤ most_slots program → most_thresholds engine.widening rs ≤ most_thresholds engine.widening program → Roomy rs
    each_forth [] s m = tt
    each_forth (r ∷ rs) s m =
        let a = le-max_left (length r.layout.numbers) (most_slots rs) in
        let b = le-max_right (length r.layout.numbers) (most_slots rs) in
        let c = le-max_left (length (thresholds engine.widening r)) (most_thresholds engine.widening rs) in
        let d = le-max_right (length (thresholds engine.widening r)) (most_thresholds engine.widening rs) in
        let v : length r.layout.numbers ≤ most_slots program = omega arith in
        let w : length (thresholds engine.widening r) ≤ most_thresholds engine.widening program = omega arith in
        let g = grows (length r.layout.numbers) (most_slots program) (length (thresholds engine.widening r)) (most_thresholds engine.widening program) v w in
        (omega arith, each_forth rs (omega arith) (omega arith))

    -- the procedures in turn, and back
    turned : (rs before : List Routine) → Roomy rs → Roomy (reverse before) → Roomy (reverse (before ++ rs))
    turned [] before h b = subst (λ ps. Roomy (reverse ps)) (sym (append-nil before)) b
    turned (r ∷ rs) before h b =
        let e : reverse (before ++ (r ∷ [])) ≡ r ∷ reverse before = reverse-append before (r ∷ []) in
        subst (λ ps. Roomy (reverse ps)) (append_assoc before (r ∷ []) rs) (turned rs (before ++ (r ∷ [])) h.1 (subst Roomy (sym e) (h.0, b)))

    first_entry : (list : List Routine) → FitBack list → Roomy list → Entry list (State (dom.init (main_layout list)))
    first_entry list b m = record { below = []; back = b; roomy = m; fine = λ r e i. subst (λ ps. Fine (State (dom.init (main_layout ps))) (r.layout ∷ [])) (sym i) (laws.fitting.init r.layout); known = tt }

    entry_known : (z : List ℕ) (t : List Routine × Value S) → entry dom engine (reverse program) z ≡ Some t → Entry t.0 t.1
    entry_known [] t g = subst (λ (t : List Routine × Value S). Entry t.0 t.1) (same_Some _ _ g) (first_entry (reverse program) (fit_back program checked) (turned program [] (each_forth program (omega arith) (omega arith)) tt))
    entry_known (n ∷ z) t g =
        let s = then_inv (entry dom engine (reverse program) z) (entered dom engine n z) t g in
        entered_entry n z s.value.0 s.value.1 (entry_known z s.value s.was) t s.gives

    chain_known : (l : Location) (z : List ℕ) (u : Value S) → value_at dom engine program l z ≡ Some u → Known u
    chain_known l z u g =
        let t = then_inv (entry dom engine (reverse program) z) (λ x. value_in dom engine x.0 z x.1 l) u g in
        value_in_known z t.value (entry_known z t.value t.was) l u t.gives

    sum_known : (f : List ℕ → Option (Value S)) (zs : List (List ℕ)) → ((z : List ℕ) (u : Value S) → f z ≡ Some u → Known u) → NotOver (sum_of dom engine (all_values dom engine f zs))
    sum_known f zs k = by (all_values dom engine f zs) refl
      where
        by : (o : Option (List (Value S))) → all_values dom engine f zs ≡ o → NotOver (sum_of dom engine o)
        by None e = tt
        by (Some vs) e = summed_known vs (all_known f zs vs k e)

    in_known : (l : Location) (string : List ℕ) (f : Found) → NotOver (answer_in dom engine program l string f)
    in_known l string (Misses r) = tt
    in_known l string (In p) = sum_known (value_at dom engine program l) (selected program p string) (chain_known l)

    pub not_over : (l : Location) (string : List ℕ) → NotOver (answer dom engine program l string)
    not_over l string = by (nat_lt 2 (length string))
      where
        by : (c : Bool) → NotOver (if c then Refuses LongString else answer_in dom engine program l string (procedure_of program l))
        by true = tt
        by false = in_known l string (procedure_of program l)

pub converges : {S : Type 0} (dom : Operations S) (covers : S → Heap → List Variables → Type 0) (laws : Laws dom covers) (rises : ThresholdsRise) (wait : ℕ → ℕ) (most : ℕ → ℕ → ℕ) → Ending dom wait most → Grows most → Converge dom wait most
converges dom covers laws rises wait most ending grows engine program l string n z checked enough e = subst (NotOver dom engine covers laws wait most ending rises) e (not_over dom engine covers laws wait most ending rises grows program checked enough l string)
