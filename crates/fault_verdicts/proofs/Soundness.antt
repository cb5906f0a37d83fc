-- What reports of faults say of runs.
use Rattle.std.specs.Prelude.{◌≡◌, ℕ, zero, suc, ℤ, List, [], ◌∷◌, reverse, slice_get, Some, All, Contains, ◌⊎◌}
use Rattle.std.proofs.Common.{refl, sym, ap, ◌∙◌, subst, inl, inr}
use Rattle.imp_slots.specs.Plain.{Routine}
use Rattle.imp_slots.specs.Fits.{IsChecked}
use Rattle.imp_words.specs.declared.fault.FaultKind.{FaultKind}
use Rattle.imp_words.specs.declared.refusal.QueryRefusal.TheVariants.{LongString, NoProcedure, NoStatement, WrongStatement, NoChain}
use Rattle.imp_chains.specs.Claims.{PlacesAreFound}
use Rattle.concrete_sem.specs.Values.{Variables, Heap, IsWord}
use Rattle.concrete_sem.specs.Steps.{Work, Frame, In, Config, Next, Faulted, step_frames, step, start}
use Rattle.concrete_sem.specs.Reach.{standing, after_steps}
use Rattle.concrete_sem.specs.WellFormed.{IsWork, IsWellFormed, DoTheirWork}
use Rattle.concrete_sem.specs.Claims.{StepsKeepForm, StartIsWellFormed}
use Rattle.concrete_sem.proofs.Programs.{from_match}
use Rattle.domain_laws.specs.Operations.{Operations}
use Rattle.domain_laws.specs.Laws.{Laws}
use Rattle.batch_meaning.specs.Values.{State, Over}
use Rattle.batch_meaning.specs.Batch.{LoopOptions}
use Rattle.batch_meaning.specs.Answers.{Answer, Refuses, Answers, answer}
use Rattle.batch_sound.specs.Theorem.{EndsWithFault}
use Rattle.batch_sound.proofs.Steps.{Kept, Good, stepped}
use Rattle.batch_sound.proofs.Reached.{same_in_turn, reached_good}
use Rattle.batch_sound.proofs.Unique.{made}
use Rattle.base_values.proofs.Members.{Member, here, there, in_left, in_right, in_map, either, contains_of, member_of}
use Rattle.std.proofs.lemmas.Option.{same_Some}
use Rattle.fault_points.specs.Exact.{SomeFails, PointsAreExact}
use Rattle.fault_words.specs.declared.finding.FaultVerdict.{FaultVerdict}
use Rattle.fault_words.specs.declared.finding.FaultVerdict.TheVariants.{Dead, Safe, May, Fails}
use Rattle.fault_words.specs.declared.finding.FaultFinding.{FaultFinding}
use Rattle.fault_verdicts.specs.declared.statement.Evaluated.{Evaluated}
use Rattle.fault_verdicts.specs.Verdicts.{verdict_of, kinds_of}
use Rattle.fault_verdicts.specs.Statements.{evaluated_statements, place_of}
use Rattle.fault_verdicts.specs.Report.{verdict_in, fault_finding, findings_by, findings_of, faults}
use Rattle.fault_verdicts.specs.Theorem.{Comes, IsTold, NoneWarns, IsReportSound, AreFaultsSound}
use Rattle.fault_verdicts.proofs.Judged.{kind_told, safe_of, dead_of, fails_of}
use Rattle.fault_verdicts.proofs.Items.{Evaluates, located, belongs, in_program, exactly, faulting, standing_at, one_of_number}
use Rattle.fault_verdicts.proofs.Fitted.{good_topped, good_described, good_chain}

module _ {S : Type 0} (dom : Operations S) (covers : S → Heap → List Variables → Type 0) (laws : Laws dom covers) (keeps : Kept) (places : PlacesAreFound) (form : StepsKeepForm) (starts : StartIsWellFormed) (exact : PointsAreExact) (engine : LoopOptions) (program : List Routine) (checked : IsChecked program) where
  run_formed : (k : ℕ) (c d : Config) → IsWellFormed program c → after_steps program k c ≡ Some d → IsWellFormed program d
  run_formed zero c d i g = subst (IsWellFormed program) (same_Some c d g) i
  run_formed (suc k) c d i g =
      let s = stepped (step program c) (after_steps program k) d g in run_formed k s.0 d (form program checked c s.0 i s.1) s.2

  formed : (inputs : List ℤ) → All IsWord inputs → (k : ℕ) (c : Config) → after_steps program k (start program inputs) ≡ Some c → IsWellFormed program c
  formed inputs words k c e = run_formed k (start program inputs) c (starts program checked inputs words) e

  abbrev IsGood : Heap → List Frame → Type 0
  IsGood = Good dom engine covers laws keeps program (reverse program) (same_in_turn program)

  abbrev found : Evaluated → Answer S
  found x = answer dom engine program (place_of x) []

  -- what a verdict says of the answer
  safe_means : (a : Answer S) (k : FaultKind) (x : Evaluated) → verdict_in dom a k x.points ≡ Safe → (s : S) × (a ≡ Answers (State s)) × (verdict_of dom s k x.points ≡ Safe)
  safe_means (Refuses LongString) k x e = absurd cc
  safe_means (Refuses NoProcedure) k x e = absurd cc
  safe_means (Refuses NoStatement) k x e = absurd cc
  safe_means (Refuses WrongStatement) k x e = absurd cc
  safe_means (Refuses NoChain) k x e = absurd cc
  safe_means (Answers (Over n z)) k x e = absurd cc
  safe_means (Answers (State s)) k x e = (s, refl, e)

  fails_means : (a : Answer S) (k : FaultKind) (x : Evaluated) → verdict_in dom a k x.points ≡ Fails → (s : S) × (a ≡ Answers (State s)) × (verdict_of dom s k x.points ≡ Fails)
  fails_means (Refuses LongString) k x e = absurd cc
  fails_means (Refuses NoProcedure) k x e = absurd cc
  fails_means (Refuses NoStatement) k x e = absurd cc
  fails_means (Refuses WrongStatement) k x e = absurd cc
  fails_means (Refuses NoChain) k x e = absurd cc
  fails_means (Answers (Over n z)) k x e = absurd cc
  fails_means (Answers (State s)) k x e = (s, refl, e)

  dead_means : (a : Answer S) (k : FaultKind) (x : Evaluated) → verdict_in dom a k x.points ≡ Dead → (a ≡ Refuses NoChain) ⊎ ((s : S) × (a ≡ Answers (State s)) × (verdict_of dom s k x.points ≡ Dead))
  dead_means (Refuses LongString) k x e = absurd cc
  dead_means (Refuses NoProcedure) k x e = absurd cc
  dead_means (Refuses NoStatement) k x e = absurd cc
  dead_means (Refuses WrongStatement) k x e = absurd cc
  dead_means (Refuses NoChain) k x e = inl refl
  dead_means (Answers (Over n z)) k x e = absurd cc
  dead_means (Answers (State s)) k x e = inr (s, refl, e)

  -- A configuration of a run whose last frame evaluates a statement.
  module _ (h : Heap) (p : ℕ) (v : Variables) (w : Work) (below : List Frame) (x : Evaluated) (good : IsGood h (In p v w ∷ below)) (e : Evaluates x w) where
    safe_here : (k : FaultKind) (n : ℕ) → verdict_in dom (found x) k x.points ≡ Safe → step_frames program h (In p v w ∷ below) ≡ Faulted n k → ⊥
    safe_here k n i f =
        let m = safe_means (found x) k x i in
        let d = good_described dom engine covers laws keeps program checked places h p v w below good (place_of x) (located program x w e) m.0 m.1 in
        let t = exactly program p below h v d.topped.before d.topped.layout x w e d.topped.suits (exact d.topped.layout h v d.topped.proper) in
        safe_of dom covers laws d.topped.layout m.0 h v d.fits d.topped.proper d.covered k x.points t.claims m.2 (t.fails n k f).1

    dead_here : (k : FaultKind) → verdict_in dom (found x) k x.points ≡ Dead → ⊥
    dead_here k i = elim (dead_means (found x) k x i) [
      | inl a ↦ good_chain dom engine covers laws keeps program checked places h p v w below good (place_of x) (located program x w e) a
      | inr m ↦
          let d = good_described dom engine covers laws keeps program checked places h p v w below good (place_of x) (located program x w e) m.0 m.1 in
          let t = exactly program p below h v d.topped.before d.topped.layout x w e d.topped.suits (exact d.topped.layout h v d.topped.proper) in
          dead_of dom covers laws d.topped.layout m.0 h v d.fits d.topped.proper d.covered k x.points t.claims m.2
    ]

    fails_here : (k : FaultKind) (d : Config) → verdict_in dom (found x) k x.points ≡ Fails → step_frames program h (In p v w ∷ below) ≡ Next d → ⊥
    fails_here k d i f =
        let m = fails_means (found x) k x i in
        let y = good_described dom engine covers laws keeps program checked places h p v w below good (place_of x) (located program x w e) m.0 m.1 in
        let t = exactly program p below h v y.topped.before y.topped.layout x w e y.topped.suits (exact y.topped.layout h v y.topped.proper) in
        fails_of dom covers laws y.topped.layout m.0 h v y.fits y.topped.proper y.covered k x.points t.claims m.2 (t.passes d f)

    some_here : (k : FaultKind) (n : ℕ) → step_frames program h (In p v w ∷ below) ≡ Faulted n k → (x.number ≡ n) × SomeFails v k x.points
    some_here k n f =
        let d = good_topped dom engine covers laws keeps program checked places h p v w below good in
        (exactly program p below h v d.before d.layout x w e d.suits (exact d.layout h v d.proper)).fails n k f

  -- Where a step of a run faults, a statement of the program is evaluated.
  record Faulting (h : Heap) (fs : List Frame) (n : ℕ) (k : FaultKind) : Type 0 where
    statement : Evaluated
    of_program : Member statement (evaluated_statements program)
    number : statement.number ≡ n
    told : Member k (kinds_of statement.points)
    not_safe : verdict_in dom (found statement) k statement.points ≡ Safe → ⊥
    not_dead : verdict_in dom (found statement) k statement.points ≡ Dead → ⊥

  faulting_at : (h : Heap) (fs : List Frame) (n : ℕ) (k : FaultKind) → IsGood h fs → DoTheirWork program fs → step_frames program h fs ≡ Faulted n k → Faulting h fs n k
  faulting_at h [] n k fine work f = absurd cc
  faulting_at h (In p v w ∷ below) n k fine work f =
      let r = from_match (slice_get program p) (λ r. IsWork p r.code w) work.0 in
      let x = faulting program p below h v w n k f in
      let s = some_here h p v w below x.0 fine x.1 k n f in
      record {
        statement = x.0;
        of_program = in_program program p r.0 x.0 r.1 (belongs p r.0.code x.0 w x.1 r.2);
        number = s.0;
        told = kind_told v k x.0.points s.1;
        not_safe = λ i. safe_here h p v w below x.0 fine x.1 k n i f;
        not_dead = λ i. dead_here h p v w below x.0 fine x.1 k i;
      }

  ended : (n : ℕ) (k : FaultKind) (r : EndsWithFault program n k) → Faulting r.last.heap r.last.frames n k
  ended n k r =
      faulting_at r.last.heap r.last.frames n k
      (reached_good dom engine covers laws keeps program checked places r.inputs r.words r.steps r.last r.comes)
      (formed r.inputs r.words r.steps r.last r.comes).work r.faults

  -- Where a run comes to a statement of the program.
  record Coming (fs : List Frame) (h : Heap) (x : Evaluated) : Type 0 where
    p : ℕ
    v : Variables
    w : Work
    below : List Frame
    is : fs ≡ In p v w ∷ below
    good : IsGood h (In p v w ∷ below)
    evaluates : Evaluates x w

  coming_at : (h : Heap) (fs : List Frame) (x : Evaluated) → Member x (evaluated_statements program) → IsGood h fs → DoTheirWork program fs → standing program fs ≡ Some (place_of x) → Coming fs h x
  coming_at h [] x m fine work e = absurd cc
  coming_at h (In p v w ∷ below) x m fine work e =
      let r = from_match (slice_get program p) (λ r. IsWork p r.code w) work.0 in
      record { p = p; v = v; w = w; below = below; is = refl; good = fine; evaluates = standing_at program checked x m p r.0 r.1 w r.2 e }

  comes : (n : ℕ) (c : Config) (r : Comes program n c) → Coming c.frames c.heap r.statement
  comes n c r =
      coming_at c.heap c.frames r.statement (member_of r.statement (evaluated_statements program) r.of_program)
      (reached_good dom engine covers laws keeps program checked places r.reach.inputs r.reach.words r.reach.steps c r.reach.comes)
      (formed r.reach.inputs r.reach.words r.reach.steps c r.reach.comes).work r.reach.location

  -- A finding is of a statement.
  record Of (f : FaultFinding) : Type 0 where
    statement : Evaluated
    of_program : Member statement (evaluated_statements program)
    fault : FaultKind
    is : fault_finding dom (found statement) statement fault ≡ f

  finding_in : (xs : List Evaluated) (f : FaultFinding) → ((x : Evaluated) → Member x xs → Member x (evaluated_statements program)) → Member f (findings_of dom engine program xs) → Of f
  finding_in [] f all m = elim m [ ]
  finding_in (x ∷ xs) f all m = by (λ k. finding_in xs f (λ y n. all y (there n)) k) (either f (findings_by dom (found x) x) (findings_of dom engine program xs) m)
    where
      by : (Member f (findings_of dom engine program xs) → Of f) → Member f (findings_by dom (found x) x) ⊎ Member f (findings_of dom engine program xs) → Of f
      by more (inl k) = let t = made (fault_finding dom (found x) x) (kinds_of x.points) f (contains_of f (findings_by dom (found x) x) k) in record { statement = x; of_program = all x here; fault = t.from_item; is = t.is }
      by more (inr k) = more k

  of_report : (f : FaultFinding) → Contains (faults dom engine program) f → Of f
  of_report f c = finding_in (evaluated_statements program) f (λ x m. m) (member_of f (faults dom engine program) c)

  in_report : (xs : List Evaluated) (x : Evaluated) (k : FaultKind) → Member x xs → Member k (kinds_of x.points) → Member (fault_finding dom (found x) x k) (findings_of dom engine program xs)
  in_report [] x k m n = elim m [ ]
  in_report (y ∷ xs) x k here n = in_left (findings_of dom engine program xs) (in_map (fault_finding dom (found x) x) k (kinds_of x.points) n)
  in_report (y ∷ xs) x k (there m) n = in_right (findings_by dom (found y) y) (in_report xs x k m n)

  -- the same statement, by its number
  verdict_same : (x y : Evaluated) (k : FaultKind) (w : FaultVerdict) → x ≡ y → verdict_in dom (found x) k x.points ≡ w → verdict_in dom (found y) k y.points ≡ w
  verdict_same x y k w e i = subst (λ (x : Evaluated). verdict_in dom (found x) k x.points ≡ w) e i

  module _ (f : FaultFinding) (o : Of f) where
    id_is : o.statement.number ≡ f.id
    id_is = ap (λ (f : FaultFinding). f.id) o.is

    fault_is : o.fault ≡ f.fault
    fault_is = ap (λ (f : FaultFinding). f.fault) o.is

    verdict_is : verdict_in dom (found o.statement) f.fault o.statement.points ≡ f.verdict
    verdict_is = ap (λ k. verdict_in dom (found o.statement) k o.statement.points) (sym fault_is) ∙ ap (λ (f : FaultFinding). f.verdict) o.is

    same_statement : (y : Evaluated) → Member y (evaluated_statements program) → y.number ≡ f.id → o.statement ≡ y
    same_statement y m e = one_of_number program checked o.statement y o.of_program m (id_is ∙ sym e)

    is_safe : f.verdict ≡ Safe → EndsWithFault program f.id f.fault → ⊥
    is_safe e r =
        let t = ended f.id f.fault r in
        t.not_safe (verdict_same o.statement t.statement f.fault Safe (same_statement t.statement t.of_program t.number) (verdict_is ∙ e))

    is_dead : f.verdict ≡ Dead → (c : Config) → Comes program f.id c → ⊥
    is_dead e c r =
        let t = comes f.id c r in
        dead_here c.heap t.p t.v t.w t.below r.statement t.good t.evaluates f.fault
        (verdict_same o.statement r.statement f.fault Dead (same_statement r.statement (member_of r.statement (evaluated_statements program) r.of_program) r.number) (verdict_is ∙ e))

    is_failing : f.verdict ≡ Fails → (c d : Config) → Comes program f.id c → step program c ≡ Next d → ⊥
    is_failing e c d r s =
        let t = comes f.id c r in
        fails_here c.heap t.p t.v t.w t.below r.statement t.good t.evaluates f.fault d
        (verdict_same o.statement r.statement f.fault Fails (same_statement r.statement (member_of r.statement (evaluated_statements program) r.of_program) r.number) (verdict_is ∙ e))
        (subst (λ fs. step_frames program c.heap fs ≡ Next d) t.is s)

  warns : (v : FaultVerdict) → (v ≡ Safe → ⊥) → (v ≡ Dead → ⊥) → (v ≡ May) ⊎ (v ≡ Fails)
  warns Dead s d = absurd (d refl)
  warns Safe s d = absurd (s refl)
  warns May s d = inl refl
  warns Fails s d = inr refl

  is_told : (n : ℕ) (k : FaultKind) → EndsWithFault program n k → IsTold (faults dom engine program) n k
  is_told n k r =
      let t = ended n k r in
      let f : FaultFinding = fault_finding dom (found t.statement) t.statement k in
      record {
        finding = f;
        of_report = contains_of f (faults dom engine program) (in_report (evaluated_statements program) t.statement k t.of_program t.told);
        id = t.number;
        fault = refl;
        verdict = warns (verdict_in dom (found t.statement) k t.statement.points) t.not_safe t.not_dead;
      }

  never : NoneWarns (faults dom engine program) → (n : ℕ) (k : FaultKind) → EndsWithFault program n k → ⊥
  never none n k r =
      let t = ended n k r in
      let f : FaultFinding = fault_finding dom (found t.statement) t.statement k in
      elim (none f (contains_of f (faults dom engine program) (in_report (evaluated_statements program) t.statement k t.of_program t.told))) [
        | inl s ↦ t.not_safe s
        | inr d ↦ t.not_dead d
      ]

  report_sound : IsReportSound program (faults dom engine program)
  report_sound = record {
    each = λ f c. let o = of_report f c in record { safe = is_safe f o; dead = is_dead f o; fails = is_failing f o };
    complete = is_told;
    never = never;
  }

pub faults_sound : {S : Type 0} (dom : Operations S) (covers : S → Heap → List Variables → Type 0) → Laws dom covers → Kept → PlacesAreFound → StepsKeepForm → StartIsWellFormed → PointsAreExact → AreFaultsSound dom
faults_sound dom covers laws keeps places form starts exact engine program checked = report_sound dom covers laws keeps places form starts exact engine program checked
