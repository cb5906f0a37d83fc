-- The state at the head of a loop is one of the frames that stand there.
use Rattle.std.specs.Prelude.{◌≡◌, ℕ, List, [], ◌∷◌, length, reverse, Option, Some, None, true, if◌then◌else◌}
use Rattle.std.proofs.Common.{refl, sym, ap, ◌∙◌, subst}
use Rattle.imp_syntax.specs.declared.edit.Location.TheVariants.{Head}
use Rattle.imp_slots.specs.Plain.{Layout, Invoke, Routine}
use Rattle.imp_slots.specs.Fits.{IsChecked}
use Rattle.concrete_sem.specs.Values.{Variables, Heap}
use Rattle.imp_chains.specs.Thresholds.{thresholds}
use Rattle.imp_chains.specs.Claims.{ThresholdsRise, PlacesAreFound}
use Rattle.domain_laws.specs.Operations.{Operations}
use Rattle.domain_laws.specs.Laws.{Laws}
use Rattle.base_values.proofs.Cases.{by_test}
use Rattle.base_values.proofs.Members.{Member, key_member}
use Rattle.batch_meaning.specs.Values.{Value, State, Over, lift}
use Rattle.batch_meaning.specs.Batch.{LoopOptions, calls_of}
use Rattle.batch_meaning.specs.Places.{Spot, spots, find, from, if_some, head_value, value_in, entered, main_layout, entry, value_at}
use Rattle.batch_meaning.proofs.Places.{found_member, keys_numbers}
use Rattle.batch_meaning.proofs.Procedures.{look_get, FitBack, fit_back, fit_back_from}
use Rattle.batch_sound.proofs.Answered.{then_inv}
use Rattle.batch_sound.proofs.Fitting.{SpotFit, spots_fit, procedure_fit, entered_fit}
use Rattle.batch_sound.proofs.Values.{Fit}
use Rattle.cert_meaning.specs.Chained.{layout_around, layouts_around}
use Rattle.cert_meaning.specs.Written.{state_in}
use Rattle.cert_sound.proofs.Fitting.{InProgram, earlier_in, last_at, are_of}
use Rattle.cert_sound.proofs.Whole.{all_in}
use Rattle.cert_complete.specs.Theorem.{HeadsAreOfFrames}
use Rattle.std.proofs.lemmas.Option.{same_Some}

in_program_from : (program ps : List Routine) (q : ℕ) → InProgram program ps → InProgram program (from ps q)
in_program_from program [] q i = i
in_program_from program (r ∷ earlier) q i =
    by_test q (length earlier) (λ c. InProgram program (if c then r ∷ earlier else from earlier q)) (λ k. i) (λ k. in_program_from program earlier q (earlier_in program r earlier i))

module _ {S : Type 0} (dom : Operations S) (engine : LoopOptions) (covers : S → Heap → List Variables → Type 0) (laws : Laws dom covers) (rises : ThresholdsRise) (places : PlacesAreFound) (program : List Routine) (checked : IsChecked program) where
  abbrev Good : Value S → List Layout → Type 0
  Good = Fit dom engine covers laws

  -- The last of these procedures is entered under the call sites z with a value of the frames there.
  record IsEntered (z : List ℕ) (list : List Routine) (v : Value S) : Type 0 where
    inp : InProgram program list
    back : FitBack list
    fine : (r : Routine) (earlier : List Routine) → list ≡ r ∷ earlier → Good v (r.layout ∷ layouts_around program z)

  first_entered : (list : List Routine) → reverse program ≡ list → IsEntered [] list (State (dom.init (main_layout list)))
  first_entered list e = record {
    inp = subst (InProgram program) e (all_in program);
    back = subst FitBack e (fit_back program checked);
    fine = λ r earlier i. subst (λ ps. Good (State (dom.init (main_layout ps))) (r.layout ∷ [])) (sym i) (laws.fitting.init r.layout);
  }

  module _ (z : List ℕ) (r : Routine) (earlier : List Routine) (v : Value S) (x : IsEntered z (r ∷ earlier) v) where
    abbrev Spots : List (ℕ × Spot S)
    Spots = spots dom engine (thresholds engine.widening r) z (calls_of dom engine earlier z) r.code v

    abbrev Fits : ℕ × Spot S → Type 0
    Fits =
        SpotFit dom engine covers laws (thresholds engine.widening r) (rises engine.widening (reverse earlier) r x.back.0) z (calls_of dom engine earlier z) (reverse earlier) r.layout (layouts_around program z)
        (λ n q c v g f. procedure_fit dom engine covers laws rises earlier (n ∷ z) q c (r.layout ∷ layouts_around program z) v (look_get earlier q ∙ g) x.back.1 f)

    fits_here : (n : ℕ) (s : Spot S) → find n Spots ≡ Some s → Fits (n, s)
    fits_here n s e =
        (spots_fit dom engine covers laws (thresholds engine.widening r) (rises engine.widening (reverse earlier) r x.back.0) z (calls_of dom engine earlier z) (reverse earlier) r.layout (layouts_around program z)
        (λ n q c v g f. procedure_fit dom engine covers laws rises earlier (n ∷ z) q c (r.layout ∷ layouts_around program z) v (look_get earlier q ∙ g) x.back.1 f)
        r.code v x.back.0 (x.fine r earlier refl)).at (n, s) (found_member n s Spots e)

    own_layout : (n : ℕ) (s : Spot S) → find n Spots ≡ Some s → layout_around program n ≡ r.layout
    own_layout n s e =
        are_of program checked places (length earlier) r (x.inp (length earlier) r (last_at r earlier)) n
        (subst (Member n) (keys_numbers dom engine (thresholds engine.widening r) z (calls_of dom engine earlier z) r.code v) (key_member (n, s) Spots (found_member n s Spots e)))

    around : (n : ℕ) (s : Spot S) → find n Spots ≡ Some s → layouts_around program (n ∷ z) ≡ r.layout ∷ layouts_around program z
    around n s e = ap (λ l. l ∷ layouts_around program z) (own_layout n s e)

    head_fits : (n : ℕ) (u : Value S) → value_in dom engine (r ∷ earlier) z v (Head n) ≡ Some u → Good u (layouts_around program (n ∷ z))
    head_fits n u e =
        let s = then_inv (find n Spots) head_value u e in
        subst (Good u) (sym (around n s.value s.was)) ((fits_here n s.value s.was).head_fit u s.gives)

    called : (n : ℕ) (s : Spot S) (k : Invoke × ℕ) → find n Spots ≡ Some s → s.call ≡ Some k → IsEntered (n ∷ z) (from earlier k.1) (lift (dom.enter k.0.entering) s.before)
    called n s k was e =
        let f = fits_here n s was in
        record {
          inp = in_program_from program earlier k.1 (earlier_in program r earlier x.inp);
          back = fit_back_from earlier k.1 x.back.1;
          fine = λ b rest i.
              subst (λ ls. Good (lift (dom.enter k.0.entering) s.before) (b.layout ∷ ls)) (sym (around n s was))
              (entered_fit dom engine covers laws earlier r.layout (layouts_around program z) k.0 k.1 s.before (f.call k e) f.before_fit b rest i);
        }

    entered_further : (n : ℕ) (t : List Routine × Value S) → entered dom engine n z (r ∷ earlier, v) ≡ Some t → IsEntered (n ∷ z) t.0 t.1
    entered_further n t e =
        let s = then_inv (find n Spots) (λ s. if_some s.call (λ k. Some (from earlier k.1, lift (dom.enter k.0.entering) s.before))) t e in
        let k = then_inv s.value.call (λ k. Some (from earlier k.1, lift (dom.enter k.0.entering) s.value.before)) t s.gives in
        subst (λ (t : List Routine × Value S). IsEntered (n ∷ z) t.0 t.1) (same_Some _ t k.gives) (called n s.value k.value s.was k.was)

  entered_under : (n : ℕ) (z : List ℕ) (x t : List Routine × Value S) → IsEntered z x.0 x.1 → entered dom engine n z x ≡ Some t → IsEntered (n ∷ z) t.0 t.1
  entered_under n z ([], v) t x e = absurd cc
  entered_under n z (r ∷ earlier, v) t x e = entered_further z r earlier v x n t e

  entered_at : (z : List ℕ) (t : List Routine × Value S) → entry dom engine (reverse program) z ≡ Some t → IsEntered z t.0 t.1
  entered_at [] t e = subst (λ (t : List Routine × Value S). IsEntered [] t.0 t.1) (same_Some _ t e) (first_entered (reverse program) refl)
  entered_at (n ∷ z) t e = let s = then_inv (entry dom engine (reverse program) z) (entered dom engine n z) t e in entered_under n z s.value t (entered_at z s.value s.was) s.gives

  value_fits : (z : List ℕ) (x : List Routine × Value S) → IsEntered z x.0 x.1 → (n : ℕ) (u : Value S) → value_in dom engine x.0 z x.1 (Head n) ≡ Some u → Good u (layouts_around program (n ∷ z))
  value_fits z ([], v) x n u e = absurd cc
  value_fits z (r ∷ earlier, v) x n u e = head_fits z r earlier v x n u e

  state_fits : (z : List ℕ) (n : ℕ) (x : S) (o : Option (Value S)) → value_at dom engine program (Head n) z ≡ o → state_in o ≡ Some x → dom.fits x (layouts_around program (n ∷ z)) ≡ true
  state_fits z n x None e k = absurd cc
  state_fits z n x (Some (Over m y)) e k = absurd cc
  state_fits z n x (Some (State s)) e k =
      let t = then_inv (entry dom engine (reverse program) z) (λ x. value_in dom engine x.0 z x.1 (Head n)) (State s) e in
      subst (λ x. dom.fits x (layouts_around program (n ∷ z)) ≡ true) (same_Some s x k) (value_fits z t.value (entered_at z t.value t.was) n (State s) t.gives)

pub heads_fit : {S : Type 0} (dom : Operations S) (covers : S → Heap → List Variables → Type 0) → Laws dom covers → ThresholdsRise → PlacesAreFound → HeadsAreOfFrames dom
heads_fit dom covers laws rises places engine program checked z n x k = state_fits dom engine covers laws rises places program checked z n x (value_at dom engine program (Head n) z) refl k
