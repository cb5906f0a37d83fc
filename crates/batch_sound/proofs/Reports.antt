-- What reports say of runs.
use Rattle.std.specs.Prelude.{◌≡◌, ℕ, zero, suc, ℤ, List, [], ◌∷◌, reverse, slice_get, Option, Some, None, MatchOption, All, option_map}
use Rattle.std.proofs.Common.{refl, sym, ap, ◌∙◌, subst}
use Rattle.concrete_sem.proofs.Programs.{from_match}
use Rattle.imp_syntax.specs.declared.edit.Location.TheVariants.{Before, End}
use Rattle.imp_slots.specs.Plain.{Effect, Does, Code, Stop, Simple, If, While, Call, Break, Routine}
use Rattle.imp_slots.specs.Fits.{IsChecked}
use Rattle.imp_words.specs.declared.fault.FaultKind.{FaultKind}
use Rattle.concrete_sem.specs.Values.{Variables, Heap, Attempt, Gives, Faults, LacksInput, IsWord}
use Rattle.concrete_sem.specs.Evaluation.{truth_of}
use Rattle.concrete_sem.specs.Effects.{effect_of}
use Rattle.concrete_sem.specs.Passing.{pass}
use Rattle.concrete_sem.specs.Steps.{Work, Ret, Do, Done, Test, Frame, In, Config, Step, Next, Faulted, push, leave_loop, chosen, goes_on, step_at, step_if_some, turn, returns_to, enters, step_frame, step_frames, step, start}
use Rattle.concrete_sem.specs.Reach.{first_number, location_of, standing, after_steps}
use Rattle.concrete_sem.specs.WellFormed.{IsWork, IsWellFormed, DoTheirWork}
use Rattle.concrete_sem.specs.Claims.{StepsKeepForm, StartIsWellFormed}
use Rattle.imp_chains.specs.Claims.{PlacesAreFound}
use Rattle.imp_words.specs.declared.verdict.Verdict.TheVariants.{Dead, Safe}
use Rattle.imp_words.specs.declared.findings.Finding.{Finding}
use Rattle.domain_laws.specs.Checks.{Check, Within, IsCell, Claims, fault_of, kind_of}
use Rattle.domain_laws.specs.Operations.{Operations}
use Rattle.domain_laws.specs.Laws.{Laws}
use Rattle.imp_words.specs.declared.refusal.QueryRefusal.TheVariants.{LongString, NoProcedure, NoStatement, WrongStatement, NoChain}
use Rattle.batch_meaning.specs.Values.{State, Over}
use Rattle.batch_meaning.specs.Batch.{LoopOptions}
use Rattle.batch_meaning.specs.Answers.{Answer, Refuses, Answers, answer}
use Rattle.batch_meaning.specs.Report.{CheckedStatement, checked_statements, verdict_on, finding}
use Rattle.batch_sound.specs.Theorem.{failing, AreReportsSound}
use Rattle.base_values.proofs.Members.{Member}
use Rattle.batch_sound.proofs.Steps.{Kept, Good, stepped}
use Rattle.batch_sound.proofs.Reached.{same_in_turn, reached_good}
use Rattle.batch_sound.proofs.Answered.{good_described, good_chain}
use Rattle.batch_sound.proofs.Unique.{Begins, begins, has_check, made}
use Rattle.std.proofs.lemmas.Option.{same_Some}

-- Where a step faults, a statement of that number is about to be done or its condition tested.
data AtFault (h : Heap) (v : Variables) (n : ℕ) (k : FaultKind) : Work → Type 0 where
  at_do : {d : Code} {w : Work} → first_number d ≡ Some n → ((e : Effect) (r : Code) → d ≡ Simple n e r → effect_of e h v ≡ Faults k) → AtFault h v n k (Do d w)
  at_test : {g : _} {b : Code} {w : Work} → AtFault h v n k (Test n g b w)

faulted : {A : Type 0} (m n : ℕ) (k : FaultKind) (o : Attempt A) (f : A → Step) → ((a : A) → f a ≡ Faulted n k → ⊥) → step_at m o f ≡ Faulted n k → (m ≡ n) × (o ≡ Faults k)
faulted m n k (Gives a) f none e = absurd (none a e)
faulted m n k (Faults j) f none e = (cc, cc)
faulted m n k LacksInput f none e = absurd cc

next_not : (c : Config) (n : ℕ) (k : FaultKind) → Next c ≡ Faulted n k → ⊥
next_not c n k e = cc

some_not : {A : Type 0} (o : Option A) (f : A → Config) (n : ℕ) (k : FaultKind) → step_if_some o (λ a. Next (f a)) ≡ Faulted n k → ⊥
some_not None f n k e = cc
some_not (Some a) f n k e = cc

returns_not : (h : Heap) (d : Variables) (below : List Frame) (n : ℕ) (k : FaultKind) → returns_to h d below ≡ Faulted n k → ⊥
returns_not h d [] n k e = cc
returns_not h d (In p v (Ret q) ∷ below) n k e = cc
returns_not h d (In p v (Do c w) ∷ below) n k e = cc
returns_not h d (In p v (Test m g b w) ∷ below) n k e = cc
returns_not h d (In p v (Done m None w) ∷ below) n k e = cc
returns_not h d (In p v (Done m (Some i) w) ∷ below) n k e = cc

same_effect : (m n : ℕ) (x e : Effect) (d r : Code) → Simple m x d ≡ Simple n e r → x ≡ e
same_effect m n x e d r i = cc

fault_at : (program : List Routine) (p : ℕ) (below : List Frame) (h : Heap) (v : Variables) (w : Work) (n : ℕ) (k : FaultKind) → step_frame program p below h v w ≡ Faulted n k → AtFault h v n k w
fault_at program p below h v (Ret q) n k e = absurd (returns_not h v below n k e)
fault_at program p below h v (Done m i w) n k e = absurd cc
fault_at program p below h v (Test m g b w) n k e =
    let t = faulted m n k (truth_of v g) (λ t. Next (turn p below h v m g b w t)) (λ t i. next_not _ n k i) e in
    subst (λ n. AtFault h v n k (Test m g b w)) t.0 at_test
fault_at program p below h v (Do Stop w) n k e = absurd cc
fault_at program p below h v (Do (Simple m x d) w) n k e =
    let t = faulted m n k (effect_of x h v) (λ y. Next (goes_on p below y.0 y.1 (Done m None (push d w)))) (λ y i. next_not _ n k i) e in
    at_do (ap Some t.0) (λ a r i. subst (λ y. effect_of y h v ≡ Faults k) (same_effect m n x a d r i) t.1)
fault_at program p below h v (Do (If m g s t d) w) n k e =
    let t = faulted m n k (truth_of v g) (λ b. Next (goes_on p below h v (push (chosen b s t) (Done m None (push d w))))) (λ y i. next_not _ n k i) e in
    at_do (ap Some t.0) (λ a r i. absurd cc)
fault_at program p below h v (Do (While m g b d) w) n k e = absurd cc
fault_at program p below h v (Do (Call m i q d) w) n k e =
    let t = faulted m n k (pass i.entering v) (λ u. step_if_some (slice_get program q) (λ c. Next (enters q (In p v (Done m (Some i) (push d w)) ∷ below) h u c))) (λ u. some_not (slice_get program q) (λ c. enters q (In p v (Done m (Some i) (push d w)) ∷ below) h u c) n k) e in
    at_do (ap Some t.0) (λ a r i. absurd cc)
fault_at program p below h v (Do (Break m d) w) n k e = absurd (some_not (leave_loop w) (λ u. goes_on p below h v u) n k e)

module _ {S : Type 0} (dom : Operations S) (engine : LoopOptions) (covers : S → Heap → List Variables → Type 0) (laws : Laws dom covers) (keeps : Kept) (places : PlacesAreFound) (form : StepsKeepForm) (starts : StartIsWellFormed) (program : List Routine) (checked : IsChecked program) where
  run_formed : (k : ℕ) (c d : Config) → IsWellFormed program c → after_steps program k c ≡ Some d → IsWellFormed program d
  run_formed zero c d i g = subst (IsWellFormed program) (same_Some c d g) i
  run_formed (suc k) c d i g =
      let s = stepped (step program c) (after_steps program k) d g in run_formed k s.0 d (form program checked c s.0 i s.1) s.2

  formed : (inputs : List ℤ) → All IsWord inputs → (k : ℕ) (c : Config) → after_steps program k (start program inputs) ≡ Some c → IsWellFormed program c
  formed inputs words k c e = run_formed k (start program inputs) c (starts program checked inputs words) e

  abbrev IsGood : Heap → List Frame → Type 0
  IsGood = Good dom engine covers laws keeps program (reverse program) (same_in_turn program)

  -- A configuration before a checked statement has just that statement on top.
  module _ (c : CheckedStatement) (member : Member c (checked_statements program)) where
    on_top : (p : ℕ) (d : Code) (w : Work) → MatchOption (slice_get program p) ⊥ (λ r. IsWork p r.code (Do d w)) → first_number d ≡ Some c.number → Begins c d
    on_top p d w m f =
        let r = from_match (slice_get program p) (λ r. IsWork p r.code (Do d w)) m in
        begins program checked places c member p r.0 r.1 d r.2.0 f

    no_test : (p : ℕ) (g : _) (b : Code) (w : Work) → MatchOption (slice_get program p) ⊥ (λ r. IsWork p r.code (Test c.number g b w)) → ⊥
    no_test p g b w m =
        let r = from_match (slice_get program p) (λ r. IsWork p r.code (Test c.number g b w)) m in
        let k = begins program checked places c member p r.0 r.1 (While c.number g b r.2.0.0) r.2.0.1 refl in
        while_not c.number g b r.2.0.0 c.effect k.rest k.is
      where
        while_not : (n : ℕ) (g : _) (b r : Code) (e : Effect) (s : Code) → While n g b r ≡ Simple n e s → ⊥
        while_not n g b r e s i = cc

    -- what a verdict says of the answer
    safe_means : (a : Answer S) → verdict_on dom engine c.effect a ≡ Safe → (s : S) × (a ≡ Answers (State s)) × (dom.check (Does c.effect) s ≡ Safe)
    safe_means (Refuses LongString) e = absurd cc
    safe_means (Refuses NoProcedure) e = absurd cc
    safe_means (Refuses NoStatement) e = absurd cc
    safe_means (Refuses WrongStatement) e = absurd cc
    safe_means (Refuses NoChain) e = absurd cc
    safe_means (Answers (Over n z)) e = absurd cc
    safe_means (Answers (State s)) e = (s, refl, e)

    data IsDead : Answer S → Type 0 where
      no_chain : IsDead (Refuses NoChain)
      dead_state : (s : S) → dom.check (Does c.effect) s ≡ Dead → IsDead (Answers (State s))

    dead_means : (a : Answer S) → verdict_on dom engine c.effect a ≡ Dead → IsDead a
    dead_means (Refuses LongString) e = absurd cc
    dead_means (Refuses NoProcedure) e = absurd cc
    dead_means (Refuses NoStatement) e = absurd cc
    dead_means (Refuses WrongStatement) e = absurd cc
    dead_means (Refuses NoChain) e = no_chain
    dead_means (Answers (Over n z)) e = absurd cc
    dead_means (Answers (State s)) e = dead_state s e

    safe_here : (h : Heap) (p : ℕ) (v : Variables) (d : Code) (w : Work) (below : List Frame) → IsGood h (In p v (Do d w) ∷ below) → Begins c d → ((e : Effect) (r : Code) → d ≡ Simple c.number e r → effect_of e h v ≡ Faults (fault_of c.check)) → verdict_on dom engine c.effect (answer dom engine program (Before c.number) []) ≡ Safe → ⊥
    safe_here h p v d w below g b f e =
        let m = safe_means (answer dom engine program (Before c.number) []) e in
        let x = good_described dom engine covers laws keeps program checked places h p v c.number c.effect b.rest w below (subst (λ d. IsGood h (In p v (Do d w) ∷ below)) b.is g) m.0 m.1 in
        laws.safe_verdict c.effect c.check x.layout [] m.0 h v [] (has_check program c member) x.suits x.fits x.proper m.2 x.covered (f c.effect b.rest b.is)

    safe_frames : (h : Heap) (fs : List Frame) → IsGood h fs → DoTheirWork program fs → step_frames program h fs ≡ Faulted c.number (fault_of c.check) → verdict_on dom engine c.effect (answer dom engine program (Before c.number) []) ≡ Safe → ⊥
    safe_frames h [] g m e s = cc
    safe_frames h (In p v w ∷ below) g m e s = by w (fault_at program p below h v w c.number (fault_of c.check) e) g m.0
      where
        by : (w : Work) → AtFault h v c.number (fault_of c.check) w → IsGood h (In p v w ∷ below) → MatchOption (slice_get program p) ⊥ (λ r. IsWork p r.code w) → ⊥
        by (Do d w) (at_do f k) g m = safe_here h p v d w below g (on_top p d w m f) k s
        by (Test n x b w) at_test g m = no_test p x b w m
        by (Ret q) f g m = elim f [ ]
        by (Done n i w) f g m = elim f [ ]

    dead_here : (h : Heap) (p : ℕ) (v : Variables) (d : Code) (w : Work) (below : List Frame) → IsGood h (In p v (Do d w) ∷ below) → Begins c d → IsDead (answer dom engine program (Before c.number) []) → ⊥
    dead_here h p v d w below g b e = by (answer dom engine program (Before c.number) []) refl e
      where
        by : (a : Answer S) → answer dom engine program (Before c.number) [] ≡ a → IsDead a → ⊥
        by a i no_chain = good_chain dom engine covers laws keeps program checked places h p v c.number c.effect b.rest w below (subst (λ d. IsGood h (In p v (Do d w) ∷ below)) b.is g) i
        by a i (dead_state s k) =
            let x = good_described dom engine covers laws keeps program checked places h p v c.number c.effect b.rest w below (subst (λ d. IsGood h (In p v (Do d w) ∷ below)) b.is g) s i in
            laws.dead_verdict c.effect c.check x.layout [] s h (v ∷ []) (has_check program c member) x.suits x.fits x.proper k x.covered

    dead_frames : (h : Heap) (fs : List Frame) → IsGood h fs → DoTheirWork program fs → standing program fs ≡ Some (Before c.number) → IsDead (answer dom engine program (Before c.number) []) → ⊥
    dead_frames h [] g m e s = cc
    dead_frames h (In p v (Ret q) ∷ below) g m e s = ended (slice_get program q) e
      where
        ended : (o : Option Routine) → option_map (λ (r : Routine). End r.name) o ≡ Some (Before c.number) → ⊥
        ended None e = cc
        ended (Some r) e = cc
    dead_frames h (In p v (Done n i w) ∷ below) g m e s = cc
    dead_frames h (In p v (Test n x b w) ∷ below) g m e s = cc
    dead_frames h (In p v (Do d w) ∷ below) g m e s = dead_here h p v d w below g (on_top p d w m.0 (number_at d e)) s
      where
        number_at : (d : Code) → location_of program (Do d w) ≡ Some (Before c.number) → first_number d ≡ Some c.number
        number_at Stop e = absurd cc
        number_at (Simple n x r) e = cc
        number_at (If n x t y r) e = cc
        number_at (While n x b r) e = cc
        number_at (Call n i q r) e = cc
        number_at (Break n r) e = cc

failing_is : (c : Check) → failing (kind_of c) ≡ fault_of c
failing_is (Within a e) = refl
failing_is (IsCell p) = refl
failing_is (Claims g) = refl

module _ {S : Type 0} (dom : Operations S) (covers : S → Heap → List Variables → Type 0) (laws : Laws dom covers) (keeps : Kept) (places : PlacesAreFound) (form : StepsKeepForm) (starts : StartIsWellFormed) where
  pub reports_sound : AreReportsSound dom
  reports_sound engine program f checked held =
      let m = made (finding dom engine program) (checked_statements program) f held in
      let c = m.from_item in
      let id : c.number ≡ f.id = ap (λ (f : Finding). f.id) m.is in
      let kind : fault_of c.check ≡ failing f.check = sym (failing_is c.check) ∙ ap (λ (f : Finding). failing f.check) m.is in
      let verdict : verdict_on dom engine c.effect (answer dom engine program (Before c.number) []) ≡ f.verdict = ap (λ (f : Finding). f.verdict) m.is in
      record {
        safe = λ e r.
            let ff = r.faults in
            safe_frames dom engine covers laws keeps places form starts program checked c m.member r.last.heap r.last.frames
            (reached_good dom engine covers laws keeps program checked places r.inputs r.words r.steps r.last r.comes)
            (formed dom engine covers laws keeps places form starts program checked r.inputs r.words r.steps r.last r.comes).work
            (ff ∙ ap (λ n. Faulted n (failing f.check)) (sym id) ∙ ap (Faulted c.number) (sym kind))
            (verdict ∙ e);
        dead = λ e d r.
            dead_frames dom engine covers laws keeps places form starts program checked c m.member d.heap d.frames
            (reached_good dom engine covers laws keeps program checked places r.inputs r.words r.steps d r.comes)
            (formed dom engine covers laws keeps places form starts program checked r.inputs r.words r.steps d r.comes).work
            (r.location ∙ ap (λ n. Some (Before n)) (sym id))
            (dead_means dom engine covers laws keeps places form starts program checked c m.member (answer dom engine program (Before c.number) []) (verdict ∙ e));
      }
