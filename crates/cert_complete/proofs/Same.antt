-- Following a block gives the states of batch interpretation.
use Rattle.std.specs.Prelude.{◌≡◌, ◌<◌, ◌+◌, ℕ, List, [], ◌∷◌, ◌++◌, length, map, reverse, slice_get, Option, Some, None, Bool, true, false, Contains, MatchOption, if◌then◌else◌}
use Rattle.std.proofs.Common.{refl, sym, ap, ◌∙◌, arith, subst}
use Rattle.imp_syntax.specs.declared.edit.Location.TheVariants.{Head}
use Rattle.imp_slots.specs.Plain.{Layout, Guard, DoBreak, Does, Invoke, Code, Stop, Simple, If, While, Call, Break, Routine}
use Rattle.imp_slots.specs.Fits.{FitsCode, Distinct, IsChecked}
use Rattle.concrete_sem.specs.Values.{Variables, Heap}
use Rattle.imp_chains.specs.Chains.{chains}
use Rattle.imp_chains.specs.Thresholds.{thresholds}
use Rattle.imp_chains.specs.Claims.{ThresholdsRise, ChainsAreThroughCallers, PlacesAreFound}
use Rattle.domain_laws.specs.Operations.{Operations}
use Rattle.domain_laws.specs.Laws.{Laws}
use Rattle.base_values.proofs.Cases.{by_test}
use Rattle.base_values.proofs.Members.{Member, here, there, in_left, in_right, contains_of}
use Rattle.batch_meaning.specs.Values.{Value, State, Over, lift, lift2}
use Rattle.batch_meaning.specs.Batch.{LoopOptions, Passed, Fixed, joined as joined_values, head_of, behind, batch, procedure, calls_of}
use Rattle.batch_meaning.specs.Places.{Spot, spot, spots, find, from, if_some, head_value, value_in, entered, entry, value_at}
use Rattle.batch_meaning.proofs.Procedures.{look, look_get, look_below, from_look, from_place, FitBack}
use Rattle.batch_meaning.proofs.Places.{found, keys_numbers, are_calls}
use Rattle.batch_sound.proofs.Values.{Fit, fit_assume, fit_joined}
use Rattle.batch_sound.proofs.Chains.{in_extended, in_through, once_in}
use Rattle.batch_sound.proofs.Fitting.{callee, FitPassed, block_fit, procedure_fit}
use Rattle.cert_meaning.specs.Portable.{HasUpperBounds}
use Rattle.cert_meaning.specs.Followed.{Missing, Entry, Step, Followed, Passes, Fails, passing, with_leaving, unless, where_written, joined, followed, followed_procedure}
use Rattle.cert_meaning.specs.Written.{loops, state_in}
use Rattle.cert_sound.proofs.Fitting.{InProgram, earlier_in, last_at}
use Rattle.cert_complete.specs.Theorem.{IsLoopUnder, HasNoOver, AreHeads}
use Rattle.cert_complete.proofs.Heads.{head_is_up}
use Rattle.cert_complete.proofs.Loops.{are_loops}
use Rattle.std.proofs.lemmas.Option.{slice_get_within}
use Rattle.std.proofs.lemmas.List.{map-append}

-- what a block gives are states, and following gives them
pub record Same {S : Type 0} (r : Passed S) (f : Followed S) : Type 0 where
  pub ahead : S
  pub leaving : List S
  pub value : r.value ≡ State ahead
  pub leaves : r.leaving ≡ map State leaving
  pub follows : f ≡ Passes ahead leaving

-- the same of a procedure's body
pub record SameCall {S : Type 0} (v : Value S) (f : Followed S) : Type 0 where
  pub ahead : S
  pub leaving : List S
  pub value : v ≡ State ahead
  pub follows : f ≡ Passes ahead leaving

module _ {S : Type 0} (dom : Operations S) (engine : LoopOptions) (covers : S → Heap → List Variables → Type 0) (laws : Laws dom covers) (leq : S → S → Bool) (bounds : HasUpperBounds dom leq) (rises : ThresholdsRise) (places : PlacesAreFound) (callers : ChainsAreThroughCallers) (program : List Routine) (checked : IsChecked program) (no_over : HasNoOver dom engine program) (written : List ℕ → ℕ → Option S) (are_heads : AreHeads dom engine program written) where
  abbrev Good : Value S → List Layout → Type 0
  Good = Fit dom engine covers laws

  joined_states : (s : S) (ss : List S) → joined_values dom engine (State s) (map State ss) ≡ State (joined dom s ss)
  joined_states s [] = refl
  joined_states s (x ∷ ss) = joined_states (dom.join s x) ss

  -- A procedure under a chain, from the state before its body; below it are frames of these layouts.
  pub record Frame : Type 0 where
    pub z : List ℕ
    pub lower : List Layout
    pub routine : Routine
    pub earlier : List Routine
    pub first : S

  pub record IsMet (f : Frame) : Type 0 where
    pub inp : InProgram program (f.routine ∷ f.earlier)
    pub back : FitBack (f.routine ∷ f.earlier)
    pub entry_is : entry dom engine (reverse program) f.z ≡ Some (f.routine ∷ f.earlier, State f.first)
    pub chain : Member f.z (chains program (length f.earlier))

  -- procedures that are called give the same states
  abbrev pub CallsSame : List Routine → Type 0
  CallsSame earlier =
      (z : List ℕ) (lower : List Layout) (q : ℕ) (t : Routine) (rest : List Routine) (v : S) → from earlier q ≡ t ∷ rest → entry dom engine (reverse program) z ≡ Some (t ∷ rest, State v) → Member z (chains program (length rest)) → dom.fits v (t.layout ∷ lower) ≡ true →
      SameCall (procedure dom engine earlier z q (State v)) (followed_procedure dom leq written earlier z q v)

  module _ (f : Frame) (met : IsMet f) (inner : CallsSame f.earlier) where
    abbrev layouts : List Layout
    layouts = f.routine.layout ∷ f.lower

    abbrev B : Code → Value S → Passed S
    B = batch dom engine (thresholds engine.widening f.routine) f.z (calls_of dom engine f.earlier f.z)

    abbrev F : Code → S → Followed S
    F = followed dom leq written f.z (λ n. followed_procedure dom leq written f.earlier (n ∷ f.z))

    abbrev Spots : Code → Value S → List (ℕ × Spot S)
    Spots = spots dom engine (thresholds engine.widening f.routine) f.z (calls_of dom engine f.earlier f.z)

    abbrev At : ℕ → Spot S → Type 0
    At n x = Member (n, x) (Spots f.routine.code (State f.first))

    -- the statements of this block, from this value, are statements of the procedure
    record Sub (c : Code) (v : Value S) : Type 0 where
      at : (x : ℕ × Spot S) → Member x (Spots c v) → Member x (Spots f.routine.code (State f.first))

    sub_rest : (c d : Code) (v w : Value S) → Sub c v → ((x : ℕ × Spot S) → Member x (Spots d w) → Member x (Spots c v)) → Sub d w
    sub_rest c d v w s k = record { at = λ x m. s.at x (k x m) }

    place_get : slice_get program (length f.earlier) ≡ Some f.routine
    place_get = met.inp (length f.earlier) f.routine (last_at f.routine f.earlier)

    at_number : (n : ℕ) (x : Spot S) → At n x → find n (Spots f.routine.code (State f.first)) ≡ Some x
    at_number n x at =
        found (n, x) _
        (subst Distinct (sym (keys_numbers dom engine (thresholds engine.widening f.routine) f.z (calls_of dom engine f.earlier f.z) f.routine.code (State f.first)))
        (once_in program (length f.earlier) f.routine checked.numbers_once place_get)) at

    head_at : (n : ℕ) (x : Spot S) (h : Fixed S) → At n x → x.head ≡ Some h → value_at dom engine program (Head n) f.z ≡ Some h.value
    head_at n x h at e =
        ap (λ o. if_some o (λ x. value_in dom engine x.0 f.z x.1 (Head n))) met.entry_is ∙ ap (λ o. if_some o head_value) (at_number n x at) ∙ ap (λ o. if_some o (λ (h : Fixed S). Some h.value)) e

    -- what is written of a loop is the state at its head
    record HeadIs (n : ℕ) (v : Value S) : Type 0 where
      state : S
      is : v ≡ State state
      at : written f.z n ≡ Some state

    loop_here : (n : ℕ) (x : Spot S) (h : Fixed S) → At n x → x.head ≡ Some h → IsLoopUnder program (length f.earlier) n f.z
    loop_here n x h at e = record {
      loop =
          let among = contains_of n (loops f.routine.code) ((are_loops dom engine (thresholds engine.widening f.routine) f.z (calls_of dom engine f.earlier f.z) f.routine.code (State f.first)).at (n, x) at h e) in
          subst (λ o. MatchOption o ⊥ (λ (r : Routine). Contains (loops r.code) n)) (sym place_get) among;
      chain = contains_of f.z _ met.chain;
    }

    head_is : (n : ℕ) (v : Value S) → IsLoopUnder program (length f.earlier) n f.z → value_at dom engine program (Head n) f.z ≡ Some v → HeadIs n v
    head_is n (State s) stands e = record { state = s; is = refl; at = are_heads (length f.earlier) n f.z stands ∙ ap state_in e }
    head_is n (Over m y) stands e = absurd (no_over (length f.earlier) n f.z m y stands e)

    keep : (n q : ℕ) (c : Routine) (v : Value S) → slice_get (reverse f.earlier) q ≡ Some c → Good v (c.layout ∷ layouts) → Good (calls_of dom engine f.earlier f.z n q v) (c.layout ∷ layouts)
    keep n q c v g h = procedure_fit dom engine covers laws rises f.earlier (n ∷ f.z) q c layouts v (look_get f.earlier q ∙ g) met.back.1 h

    fit_block : (c : Code) (v : Value S) → FitsCode (reverse f.earlier) f.routine.layout c → Good v layouts → FitPassed dom engine covers laws layouts (B c v)
    fit_block c v suits fv =
        block_fit dom engine covers laws (thresholds engine.widening f.routine) (rises engine.widening (reverse f.earlier) f.routine met.back.0) f.z (calls_of dom engine f.earlier f.z) (reverse f.earlier) f.routine.layout f.lower keep c v suits fv

    fits_of : (v : Value S) (s : S) → v ≡ State s → Good v layouts → dom.fits s layouts ≡ true
    fits_of v s e g = subst (λ v. Good v layouts) e g

    if_same : (n : ℕ) (g : Guard) (t e r : Code) (v : S) → Same (B t (State (dom.assume g true v))) (F t (dom.assume g true v)) → Same (B e (State (dom.assume g false v))) (F e (dom.assume g false v)) → ((x y : S) → (B t (State (dom.assume g true v))).value ≡ State x → (B e (State (dom.assume g false v))).value ≡ State y → Same (B r (State (dom.join x y))) (F r (dom.join x y))) → Same (B (If n g t e r) (State v)) (F (If n g t e r) v)
    if_same n g t e r v one two rest =
        let x = one.ahead in
        let y = two.ahead in
        let ends : lift2 dom.join (B t (State (dom.assume g true v))).value (B e (State (dom.assume g false v))).value ≡ State (dom.join x y) = λ i. lift2 dom.join (one.value i) (two.value i) in
        let w = rest x y one.value two.value in
        record {
          ahead = w.ahead;
          leaving = (one.leaving ++ two.leaving) ++ w.leaving;
          value = ap (λ u. (B r u).value) ends ∙ w.value;
          leaves = (λ i. (one.leaves i ++ two.leaves i) ++ (B r (ends i)).leaving) ∙ (λ i. sym (map-append State one.leaving two.leaving) i ++ w.leaves i) ∙ sym (map-append State (one.leaving ++ two.leaving) w.leaving);
          follows =
              ap (λ k. passing k (λ x xs. passing (F e (dom.assume g false v)) (λ y ys. with_leaving (xs ++ ys) (F r (dom.join x y))))) one.follows ∙
              ap (λ k. passing k (λ y ys. with_leaving (one.leaving ++ ys) (F r (dom.join x y)))) two.follows ∙ ap (with_leaving (one.leaving ++ two.leaving)) w.follows;
        }

    while_same : (n : ℕ) (g : Guard) (b r : Code) (v : S) → FitsCode (reverse f.earlier) f.routine.layout (While n g b r) → dom.fits v layouts ≡ true → Sub (While n g b r) (State v) → ((x : S) → Sub b (State x) → dom.fits x layouts ≡ true → Same (B b (State x)) (F b x)) → ((x : S) → Sub r (State x) → dom.fits x layouts ≡ true → Same (B r (State x)) (F r x)) → Same (B (While n g b r) (State v)) (F (While n g b r) v)
    while_same n g b r v suits fv sub round rest =
        let m = thresholds engine.widening f.routine in
        let rising = rises engine.widening (reverse f.earlier) f.routine met.back.0 in
        let top = (head_of dom engine m f.z n g (B b) (State v)).value in
        let out = behind dom engine g (B b) top in
        let h = head_is n top (loop_here n _ _ (sub.at _ here) refl) (head_at n _ _ (sub.at _ here) refl) in
        let x = h.state in
        let fit_in = λ (u : Value S) (k : Good u layouts). fit_block b (lift (dom.assume g true) u) suits.1 (fit_assume dom engine covers laws g true f.routine.layout f.lower u suits.0 k) in
        let up = head_is_up dom engine covers laws leq bounds layouts m rising (λ u. (B b (lift (dom.assume g true) u)).value) (λ u k. (fit_in u k).value) n f.z v x fv h.is in
        let ft = laws.fitting.assume g true f.routine.layout f.lower x suits.0 up.fits in
        let ff = laws.fitting.assume g false f.routine.layout f.lower x suits.0 up.fits in
        let enters : lift (dom.assume g true) top ≡ State (dom.assume g true x) = λ i. lift (dom.assume g true) (h.is i) in
        let one = round (dom.assume g true x) (subst (Sub b) enters (sub_rest (While n g b r) b _ _ sub (λ y k. there (in_left _ k)))) ft in
        let z = joined dom (dom.assume g false x) one.leaving in
        let ends : out ≡ State z = (λ i. behind dom engine g (B b) (h.is i)) ∙ ap (joined_values dom engine (State (dom.assume g false x))) one.leaves ∙ joined_states (dom.assume g false x) one.leaving in
        let fz = fits_of (behind dom engine g (B b) (State x)) z (ap (joined_values dom engine (State (dom.assume g false x))) one.leaves ∙ joined_states (dom.assume g false x) one.leaving) (fit_joined dom engine covers laws layouts (State (dom.assume g false x)) (B b (State (dom.assume g true x))).leaving ff (fit_in (State x) up.fits).leaving) in
        let w = rest z (subst (Sub r) ends (sub_rest (While n g b r) r _ _ sub (λ y k. there (in_right (Spots b (lift (dom.assume g true) top)) k)))) fz in
        record {
          ahead = w.ahead;
          leaving = w.leaving;
          value = ap (λ u. (B r u).value) ends ∙ w.value;
          leaves = ap (λ u. (B r u).leaving) ends ∙ w.leaves;
          follows =
              ap (λ o. where_written o (Fails n f.z Missing) (λ x. unless (leq v x) (Fails n f.z Entry) (passing (F b (dom.assume g true x)) (λ y ys. unless (leq y x) (Fails n f.z Step) (F r (joined dom (dom.assume g false x) ys)))))) h.at ∙
              ap (λ c. unless c (Fails n f.z Entry) (passing (F b (dom.assume g true x)) (λ y ys. unless (leq y x) (Fails n f.z Step) (F r (joined dom (dom.assume g false x) ys))))) up.entry ∙
              ap (λ k. passing k (λ y ys. unless (leq y x) (Fails n f.z Step) (F r (joined dom (dom.assume g false x) ys)))) one.follows ∙
              ap (λ c. unless c (Fails n f.z Step) (F r z)) (up.again one.ahead one.value) ∙ w.follows;
        }

    -- A call: the chain with it is one of the callee's, and the callee is entered from the state before it.
    called : (n : ℕ) (i : Invoke) (q : ℕ) (t : Routine) (v : S) (w : Value S) → look f.earlier q ≡ Some t → t.layout ≡ i.entering.layout → dom.fits (dom.enter i.entering v) (i.entering.layout ∷ layouts) ≡ true → At n (spot (State v) None w (Some (i, q))) → SameCall (procedure dom engine f.earlier (n ∷ f.z) q (State (dom.enter i.entering v))) (followed_procedure dom leq written f.earlier (n ∷ f.z) q (dom.enter i.entering v))
    called n i q t v w at lay fe here_at =
        let fl = from_look f.earlier q t at in
        let place = from_place f.earlier q t fl.0 fl.1 in
        let lower : q < length f.earlier = look_below f.earlier q t at in
        let among : length f.earlier < length program = slice_get_within program (length f.earlier) f.routine place_get in
        let same : 0 + length f.earlier ≡ length f.earlier = omega arith in
        inner (n ∷ f.z) layouts q t fl.0 (dom.enter i.entering v) fl.1
        (ap (λ o. if_some o (entered dom engine n f.z)) met.entry_is ∙
        ap (λ o. if_some o (λ (s : Spot S). if_some s.call (λ k. Some (from f.earlier k.1, lift (dom.enter k.0.entering) s.before)))) (at_number n _ here_at) ∙
        ap (λ ps. Some (ps, State (dom.enter i.entering v))) fl.1)
        (subst (λ p. Member (n ∷ f.z) (chains program p)) place
        (subst (Member (n ∷ f.z)) (sym (callers program checked q (omega arith)))
        (in_through (chains program) 0 program q (length f.earlier) f.routine (n ∷ f.z) place_get
        (in_extended n f.z _ _ (subst (λ p. Member f.z (chains program p)) (sym same) met.chain)
        ((are_calls dom engine (thresholds engine.widening f.routine) f.z (calls_of dom engine f.earlier f.z) f.routine.code (State f.first)).at (n, spot (State v) None w (Some (i, q))) here_at (i, q) refl)))))
        (subst (λ l. dom.fits (dom.enter i.entering v) (l ∷ layouts) ≡ true) (sym lay) fe)

    call_same : (n : ℕ) (i : Invoke) (q : ℕ) (r : Code) (v : S) → FitsCode (reverse f.earlier) f.routine.layout (Call n i q r) → dom.fits v layouts ≡ true → Sub (Call n i q r) (State v) → ((x : S) → Sub r (State x) → dom.fits x layouts ≡ true → Same (B r (State x)) (F r x)) → Same (B (Call n i q r) (State v)) (F (Call n i q r) v)
    call_same n i q r v suits fv sub rest =
        let o = callee (reverse f.earlier) f.routine.layout i q suits.0 in
        let fe = laws.fitting.enter i f.routine.layout f.lower v o.fits fv in
        let one = called n i q o.routine v _ (look_get f.earlier q ∙ o.at) o.layout fe (sub.at _ here) in
        let gd = keep n q o.routine (State (dom.enter i.entering v)) o.at (subst (λ l. dom.fits (dom.enter i.entering v) (l ∷ layouts) ≡ true) (sym o.layout) fe) in
        let fd : dom.fits one.ahead (o.routine.layout ∷ layouts) ≡ true = subst (λ u. Good u (o.routine.layout ∷ layouts)) one.value gd in
        let fd2 = subst (λ l. dom.fits one.ahead (l ∷ layouts) ≡ true) o.layout fd in
        let x = dom.leave i.returning v one.ahead in
        let ends : lift2 (dom.leave i.returning) (State v) (calls_of dom engine f.earlier f.z n q (State (dom.enter i.entering v))) ≡ State x = ap (lift2 (dom.leave i.returning) (State v)) one.value in
        let w = rest x (subst (Sub r) ends (sub_rest (Call n i q r) r _ _ sub (λ y. there))) (laws.fitting.leave i f.routine.layout f.lower v one.ahead o.fits fv fd2) in
        record {
          ahead = w.ahead;
          leaving = w.leaving;
          value = ap (λ u. (B r u).value) ends ∙ w.value;
          leaves = ap (λ u. (B r u).leaving) ends ∙ w.leaves;
          follows = ap (λ k. passing k (λ d ds. F r (dom.leave i.returning v d))) one.follows ∙ w.follows;
        }

    block_same : (c : Code) (v : S) → FitsCode (reverse f.earlier) f.routine.layout c → dom.fits v layouts ≡ true → Sub c (State v) → Same (B c (State v)) (F c v)
    block_same Stop v suits fv sub = record { ahead = v; leaving = []; value = refl; leaves = refl; follows = refl }
    block_same (Simple n e r) v suits fv sub =
        let w = block_same r (dom.post (Does e) v) suits.1 (laws.fitting.post (Does e) f.routine.layout f.lower v suits.0 fv) (sub_rest (Simple n e r) r _ _ sub (λ y. there)) in
        record { ahead = w.ahead; leaving = w.leaving; value = w.value; leaves = w.leaves; follows = w.follows }
    block_same (If n g t e r) v suits fv sub =
        let ft = laws.fitting.assume g true f.routine.layout f.lower v suits.0 fv in
        let fe = laws.fitting.assume g false f.routine.layout f.lower v suits.0 fv in
        let one = block_same t (dom.assume g true v) suits.1 ft (sub_rest (If n g t e r) t _ _ sub (λ y k. there (in_left _ k))) in
        let two = block_same e (dom.assume g false v) suits.2 fe (sub_rest (If n g t e r) e _ _ sub (λ y k. there (in_right (Spots t (State (dom.assume g true v))) (in_left _ k)))) in
        if_same n g t e r v one two
        (λ x y ex ey.
        block_same r (dom.join x y) suits.3
        (laws.fitting.join layouts x y (fits_of _ x ex (fit_block t (State (dom.assume g true v)) suits.1 ft).value) (fits_of _ y ey (fit_block e (State (dom.assume g false v)) suits.2 fe).value))
        (subst (Sub r) (λ i. lift2 dom.join (ex i) (ey i)) (sub_rest (If n g t e r) r _ _ sub (λ y k. there (in_right (Spots t (State (dom.assume g true v))) (in_right (Spots e (State (dom.assume g false v))) k))))))
    block_same (While n g b r) v suits fv sub = while_same n g b r v suits fv sub (λ x s fx. block_same b x suits.1 fx s) (λ x s fx. block_same r x suits.2 fx s)
    block_same (Call n i q r) v suits fv sub = call_same n i q r v suits fv sub (λ x s fx. block_same r x suits.1 fx s)
    block_same (Break n r) v suits fv sub =
        let w = block_same r (dom.post DoBreak v) suits (laws.fitting.post DoBreak f.routine.layout f.lower v refl fv) (sub_rest (Break n r) r _ _ sub (λ y. there)) in
        record { ahead = w.ahead; leaving = v ∷ w.leaving; value = w.value; leaves = ap (λ vs. State v ∷ vs) w.leaves; follows = ap (with_leaving (v ∷ [])) w.follows }

    -- a procedure's body
    pub body_same : dom.fits f.first layouts ≡ true → Same (B f.routine.code (State f.first)) (F f.routine.code f.first)
    body_same ff = block_same f.routine.code f.first met.back.0 ff (record { at = λ x m. m })

  pub procedures_same : (earlier : List Routine) → FitBack earlier → InProgram program earlier → CallsSame earlier
  procedures_same [] fb inp z lower q t rest v e en ch fv = absurd cc
  procedures_same (r ∷ earlier) fb inp z lower q t rest v e en ch fv =
      let inner = procedures_same earlier fb.1 (earlier_in program r earlier inp) in
      (by_test q (length earlier)
      (λ c. (if c then r ∷ earlier else from earlier q) ≡ t ∷ rest → SameCall (if c then (batch dom engine (thresholds engine.widening r) z (calls_of dom engine earlier z) r.code (State v)).value else procedure dom engine earlier z q (State v)) (if c then followed dom leq written z (λ n. followed_procedure dom leq written earlier (n ∷ z)) r.code v else followed_procedure dom leq written earlier z q v))
      (λ k e. body e inner)
      (λ k e. inner z lower q t rest v e en ch fv)) e
    where
      body : r ∷ earlier ≡ t ∷ rest → CallsSame earlier → SameCall (batch dom engine (thresholds engine.widening r) z (calls_of dom engine earlier z) r.code (State v)).value (followed dom leq written z (λ n. followed_procedure dom leq written earlier (n ∷ z)) r.code v)
      body e inner =
          let head : t ≡ r = cc in
          let tail : rest ≡ earlier = cc in
          let f : Frame = record { z = z; lower = lower; routine = r; earlier = earlier; first = v } in
          let met : IsMet f = record { inp = inp; back = fb; entry_is = en ∙ ap (λ ps. Some (ps, State v)) (sym e); chain = subst (λ ps. Member z (chains program (length ps))) tail ch } in
          let s = body_same f met inner (subst (λ (t : Routine). dom.fits v (t.layout ∷ lower) ≡ true) head fv) in
          record { ahead = s.ahead; leaving = s.leaving; value = s.value; follows = s.follows }
