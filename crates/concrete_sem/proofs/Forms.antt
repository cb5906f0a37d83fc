-- Steps keep well-formedness, and well-formed configurations go on until main is done.
use Rattle.std.specs.Prelude.{◌≡◌, ◌≢◌, ℕ, suc, ◌-◌, ◌<◌, List, [], ◌∷◌, length, slice_get, Option, Some, None, Bool, true, false, ◌||◌, ◌⊎◌, ◌≤◌, get_or}
use Rattle.std.proofs.Common.{refl, sym, ap, ◌∙◌, subst, inl, inr, arith}
use Rattle.std.proofs.lemmas.Option.{slice_get_within, slice_get_cases, same_Some}
use Rattle.std.proofs.lemmas.Bool.{or_left, or_right, false≢true}
use Rattle.imp_slots.specs.Plain.{Layout, Guard, Invoke, Code, Stop, Simple, If, While, Call, Break, Routine}
use Rattle.imp_slots.specs.Fits.{breaks, fits_invoke, FitsCode, IsChecked}
use Rattle.concrete_sem.specs.Values.{Variables, Heap, Attempt, Gives, Faults, LacksInput}
use Rattle.concrete_sem.specs.Evaluation.{truth_of}
use Rattle.concrete_sem.specs.Effects.{effect_of}
use Rattle.concrete_sem.specs.Passing.{first_variables, pass, back}
use Rattle.concrete_sem.specs.Steps.{Work, Ret, Do, Done, Test, Frame, In, Config, Step, Next, Ended, push, leave_loop, chosen, goes_on, step_at, step_if_some, turn, returns_to, enters, step_frame, step_frames, main, started}
use Rattle.concrete_sem.specs.Reach.{first_number}
use Rattle.concrete_sem.specs.Proper.{IsProper}
use Rattle.concrete_sem.specs.WellFormed.{StandsIn, whole, behind_simple, then_block, else_block, behind_if, loop_body, behind_loop, behind_call, has_test, first_call, IsWork, Awaits, AreStacked, DoTheirWork, layout_at, layouts_of, variables_of, IsWellFormed, IsEnded}
use Rattle.concrete_sem.specs.Claims.{StepsGoOn, StepsKeepForm, StartIsWellFormed}
use Rattle.concrete_sem.proofs.Keeps.{effects_keep, passing_keeps, returns_keep, start_keeps}
use Rattle.concrete_sem.proofs.Programs.{Known, known, block_fits, from_match, to_match}

-- Blocks before work.
push_work : (p : ℕ) (body c : Code) (w : Work) → StandsIn body c → (breaks c ≡ true → has_test w ≡ true) → IsWork p body w → IsWork p body (push c w)
push_work p body Stop w s b i = i
push_work p body (Simple n e r) w s b i = (s, λ e. cc, b, i)
push_work p body (If n g t e r) w s b i = (s, λ e. cc, b, i)
push_work p body (While n g t r) w s b i = (s, λ e. cc, b, i)
push_work p body (Call n j q r) w s b i = (s, λ e. cc, b, i)
push_work p body (Break n r) w s b i = (s, λ e. cc, b, i)

push_test : (c : Code) (w : Work) → has_test (push c w) ≡ has_test w
push_test Stop w = refl
push_test (Simple n e r) w = refl
push_test (If n g t e r) w = refl
push_test (While n g b r) w = refl
push_test (Call n i q r) w = refl
push_test (Break n r) w = refl

chosen_stands : {n : ℕ} {g : Guard} (body t e r : Code) (b : Bool) → StandsIn body (If n g t e r) → StandsIn body (chosen b t e)
chosen_stands body t e r true s = then_block s
chosen_stands body t e r false s = else_block s

chosen_breaks : (t e r : Code) (b : Bool) → breaks (chosen b t e) ≡ true → (breaks t || (breaks e || breaks r)) ≡ true
chosen_breaks t e r true h = or_left (breaks t) (breaks e || breaks r) h
chosen_breaks t e r false h = or_right (breaks t) (breaks e || breaks r) (or_left (breaks e) (breaks r) h)

-- Where a Test stands after, a break leaves a loop.
record Left (p : ℕ) (body : Code) (w : Work) : Type 0 where
  rest : Work
  is : leave_loop w ≡ Some rest
  work : IsWork p body rest

leaves : (p : ℕ) (body : Code) (w : Work) → has_test w ≡ true → IsWork p body w → Left p body w
leaves p body (Ret q) t i = absurd cc
leaves p body (Do c w) t i = let k = leaves p body w t i.3 in record { rest = k.rest; is = k.is; work = k.work }
leaves p body (Done n o w) t i = let k = leaves p body w t i.1 in record { rest = k.rest; is = k.is; work = k.work }
leaves p body (Test n g b w) t i = record { rest = Done n None w; is = refl; work = ((While n g b i.0.0, i.0.1, refl, refl), i.1) }

-- One step of a frame.
pub data AtNext {A : Type 0} (o : Attempt A) (f : A → Step) (d : Config) : Type 0 where
  at_next : (a : A) → o ≡ Gives a → f a ≡ Next d → AtNext o f d

pub next_of : {A : Type 0} (n : ℕ) (o : Attempt A) (f : A → Step) (d : Config) → step_at n o f ≡ Next d → AtNext o f d
next_of n (Gives a) f d e = at_next a refl e
next_of n (Faults k) f d e = absurd cc
next_of n LacksInput f d e = absurd cc

module _ (program : List Routine) (checked : IsChecked program) where
  -- A well-formed configuration, by its last frame.
  record Top (h : Heap) (p : ℕ) (v : Variables) (w : Work) (below : List Frame) : Type 0 where
    routine : Routine
    at : slice_get program p ≡ Some routine
    stacked : AreStacked program (In p v w ∷ below)
    work : IsWork p routine.code w
    rest : DoTheirWork program below
    proper : IsProper h (v ∷ variables_of below) (routine.layout ∷ layouts_of program below)

  opened : (h : Heap) (p : ℕ) (v : Variables) (w : Work) (below : List Frame) → IsWellFormed program (record { heap = h; frames = In p v w ∷ below }) → Top h p v w below
  opened h p v w below f =
      let m = from_match (slice_get program p) (λ r. IsWork p r.code w) f.work.0 in
      record {
        routine = m.0;
        at = m.1;
        stacked = f.stacked;
        work = m.2;
        rest = f.work.1;
        proper = subst (λ o. IsProper h (v ∷ variables_of below) (layout_at o ∷ layouts_of program below)) m.1 f.proper;
      }

  closed : (h : Heap) (p : ℕ) (v : Variables) (w : Work) (below : List Frame) → Top h p v w below → IsWellFormed program (record { heap = h; frames = In p v w ∷ below })
  closed h p v w below t =
      record {
        stacked = t.stacked;
        work = (to_match (slice_get program p) (λ r. IsWork p r.code w) t.routine t.at t.work, t.rest);
        proper = subst (λ o. IsProper h (v ∷ variables_of below) (layout_at o ∷ layouts_of program below)) (sym t.at) t.proper;
      }

  same_stack : (p : ℕ) (v u : Variables) (w t : Work) (below : List Frame) → AreStacked program (In p v w ∷ below) → AreStacked program (In p u t ∷ below)
  same_stack p v u w t [] s = s
  same_stack p v u w t (In q x y ∷ below) s = s

  -- The frame goes on: its work, or also the heap and its variables, become others.
  goes : (h k : Heap) (p : ℕ) (v u : Variables) (w t : Work) (below : List Frame) → (x : Top h p v w below) → IsProper k (u ∷ variables_of below) (x.routine.layout ∷ layouts_of program below) → IsWork p x.routine.code t → IsWellFormed program (goes_on p below k u t)
  goes h k p v u w t below x r i = closed k p u t below (record { routine = x.routine; at = x.at; stacked = same_stack p v u w t below x.stacked; work = i; rest = x.rest; proper = r })

  goes_same : (h : Heap) (p : ℕ) (v : Variables) (w t : Work) (below : List Frame) → (x : Top h p v w below) → IsWork p x.routine.code t → IsWellFormed program (goes_on p below h v t)
  goes_same h p v w t below x i = goes h h p v v w t below x x.proper i

  code_fits : (h : Heap) (p : ℕ) (v : Variables) (w : Work) (below : List Frame) → (x : Top h p v w below) → (c : Code) → StandsIn x.routine.code c → (k : Known program p x.routine) × FitsCode k.before x.routine.layout c
  code_fits h p v w below x c s =
      let k = known program p x.routine checked x.at in (k, block_fits k.before x.routine.layout x.routine.code c k.fits.code s)

  well : (c d : Config) → Next c ≡ Next d → IsWellFormed program c → IsWellFormed program d
  well c d e i = let k : c ≡ d = cc in subst (IsWellFormed program) k i

  done_work : (p : ℕ) (body c r : Code) (n : ℕ) (i : Option Invoke) (w : Work) → StandsIn body c → first_number c ≡ Some n → first_call c ≡ i → StandsIn body r → (breaks r ≡ true → has_test w ≡ true) → IsWork p body w → IsWork p body (Done n i (push r w))
  done_work p body c r n i w s a b t k j = ((c, s, a, b), push_work p body r w t k j)

  -- the callee's layout is the one that the call names
  record Callee (p : ℕ) (l : Layout) (i : Invoke) (q : ℕ) : Type 0 where
    routine : Routine
    at : slice_get program q ≡ Some routine
    layout : routine.layout ≡ i.entering.layout
    fits : fits_invoke l i ≡ true
    earlier : q < p

  callee : (p : ℕ) (r : Routine) → slice_get program p ≡ Some r → (n : ℕ) (i : Invoke) (q : ℕ) (c : Code) → StandsIn r.code (Call n i q c) → Callee p r.layout i q
  callee p r e n i q c s =
      let k = known program p r checked e in
      let f = block_fits k.before r.layout r.code (Call n i q c) k.fits.code s in
      let m = from_match (slice_get k.before q) (λ r2. (r2.layout ≡ i.entering.layout) × (fits_invoke r.layout i ≡ true)) f.0 in
      let b = k.earlier q m.0 m.1 in
      record { routine = m.0; at = b.0; layout = m.2.0; fits = m.2.1; earlier = b.1 }

  keeps_return : (h : Heap) (p : ℕ) (v : Variables) (q : ℕ) (below : List Frame) → Top h p v (Ret q) below → (d : Config) → returns_to h v below ≡ Next d → IsWellFormed program d
  keeps_return h p v q [] x d e = absurd cc
  keeps_return h p v q (In s u (Ret t) ∷ below) x d e = absurd cc
  keeps_return h p v q (In s u (Do c w) ∷ below) x d e = absurd cc
  keeps_return h p v q (In s u (Test n g b w) ∷ below) x d e = absurd cc
  keeps_return h p v q (In s u (Done n None w) ∷ below) x d e = absurd cc
  keeps_return h p v q (In s u (Done n (Some i) w) ∷ below) x d e =
      let m = from_match (slice_get program s) (λ r. Awaits r.code (Done n (Some i) w) p) x.stacked.1 in
      let k = callee s m.0 m.1 n i p m.2.0 m.2.1 in
      let same : x.routine ≡ k.routine = same_Some x.routine k.routine (sym x.at ∙ k.at) in
      let l : x.routine.layout ≡ i.entering.layout = ap (λ (r : Routine). r.layout) same ∙ k.layout in
      let r1 = subst (λ l. IsProper h (v ∷ u ∷ variables_of below) (l ∷ layout_at (slice_get program s) ∷ layouts_of program below)) l x.proper in
      let r2 = subst (λ o. IsProper h (v ∷ u ∷ variables_of below) (i.entering.layout ∷ layout_at o ∷ layouts_of program below)) m.1 r1 in
      let r3 = returns_keep i m.0.layout (layouts_of program below) h u v (variables_of below) k.fits r2 in
      let y = from_match (slice_get program s) (λ r. IsWork s r.code (Done n (Some i) w)) x.rest.0 in
      let z : m.0 ≡ y.0 = same_Some m.0 y.0 (sym m.1 ∙ y.1) in
      well _ d e
      (closed h s (back i.returning u v) (Done n (Some i) w) below
      (record {
        routine = m.0;
        at = m.1;
        stacked = same_stack s u (back i.returning u v) (Done n (Some i) w) (Done n (Some i) w) below x.stacked.2;
        work = subst (λ (r : Routine). IsWork s r.code (Done n (Some i) w)) (sym z) y.2;
        rest = x.rest.1;
        proper = r3;
      }))

  keeps_test : (h : Heap) (p : ℕ) (v : Variables) (n : ℕ) (g : Guard) (b : Code) (w : Work) (below : List Frame) → Top h p v (Test n g b w) below → (t : Bool) → IsWellFormed program (turn p below h v n g b w t)
  keeps_test h p v n g b w below x true =
      goes_same h p v _ _ below x (push_work p x.routine.code b (Test n g b w) (loop_body x.work.0.1) (λ e. refl) x.work)
  keeps_test h p v n g b w below x false =
      goes_same h p v _ _ below x ((While n g b x.work.0.0, x.work.0.1, refl, refl), x.work.1)

  keeps_if : (h : Heap) (p : ℕ) (v : Variables) (n : ℕ) (g : Guard) (t e r : Code) (w : Work) (below : List Frame) → Top h p v (Do (If n g t e r) w) below → (b : Bool) → IsWellFormed program (goes_on p below h v (push (chosen b t e) (Done n None (push r w))))
  keeps_if h p v n g t e r w below x b =
      let breaks_rest : breaks r ≡ true → has_test w ≡ true = λ k. x.work.2 (or_right (breaks t) (breaks e || breaks r) (or_right (breaks e) (breaks r) k)) in
      let d = done_work p x.routine.code (If n g t e r) r n None w x.work.0 refl refl (behind_if x.work.0) breaks_rest x.work.3 in
      goes_same h p v _ _ below x
      (push_work p x.routine.code (chosen b t e) (Done n None (push r w)) (chosen_stands x.routine.code t e r b x.work.0) (λ k. push_test r w ∙ x.work.2 (chosen_breaks t e r b k)) d)

  keeps_call : (h : Heap) (p : ℕ) (v u : Variables) (n : ℕ) (i : Invoke) (q : ℕ) (r : Code) (w : Work) (below : List Frame) → Top h p v (Do (Call n i q r) w) below → pass i.entering v ≡ Gives u → (o : Option Routine) → slice_get program q ≡ o → (d : Config) → step_if_some o (λ c. Next (enters q (In p v (Done n (Some i) (push r w)) ∷ below) h u c)) ≡ Next d → IsWellFormed program d
  keeps_call h p v u n i q r w below x g None o d e = absurd cc
  keeps_call h p v u n i q r w below x g (Some c) o d e =
      let k = callee p x.routine x.at n i q r x.work.0 in
      let same : c ≡ k.routine = same_Some c k.routine (sym o ∙ k.at) in
      let l : i.entering.layout ≡ c.layout = sym k.layout ∙ ap (λ (r : Routine). r.layout) (sym same) in
      let r1 = passing_keeps i x.routine.layout (layouts_of program below) h v u (variables_of below) k.fits g x.proper in
      let r2 = subst (λ l. IsProper h (u ∷ v ∷ variables_of below) (l ∷ x.routine.layout ∷ layouts_of program below)) l r1 in
      let r3 = subst (λ o. IsProper h (u ∷ v ∷ variables_of below) (c.layout ∷ layout_at o ∷ layouts_of program below)) (sym x.at) r2 in
      let long : p < length program = slice_get_within program p x.routine x.at in
      let d1 = done_work p x.routine.code (Call n i q r) r n (Some i) w x.work.0 refl refl (behind_call x.work.0) x.work.2 x.work.3 in
      let kc = known program q c checked o in
      well _ d e
      (closed h q u (push c.code (Ret q)) (In p v (Done n (Some i) (push r w)) ∷ below)
      (record {
        routine = c;
        at = o;
        stacked = (not_last q p k.earlier long, to_match (slice_get program p) (λ r2. Awaits r2.code (Done n (Some i) (push r w)) q) x.routine x.at (r, x.work.0), same_stack p v v (Do (Call n i q r) w) (Done n (Some i) (push r w)) below x.stacked);
        work = push_work q c.code c.code (Ret q) whole (λ b. absurd (false≢true (sym kc.fits.no_break ∙ b))) refl;
        rest = (to_match (slice_get program p) (λ r2. IsWork p r2.code (Done n (Some i) (push r w))) x.routine x.at d1, x.rest);
        proper = r3;
      }))
    where
      not_last : (q p : ℕ) → q < p → p < length program → suc q ≢ length program
      not_last q p a b = λ e. omega arith

  keeps_step : (h : Heap) (p : ℕ) (v : Variables) (w : Work) (below : List Frame) → Top h p v w below → (d : Config) → step_frame program p below h v w ≡ Next d → IsWellFormed program d
  keeps_step h p v (Ret q) below x d e = keeps_return h p v q below x d e
  keeps_step h p v (Done n i w) below x d e = well _ d e (goes_same h p v _ w below x x.work.1)
  keeps_step h p v (Test n g b w) below x d e = by (next_of n (truth_of v g) (λ t. Next (turn p below h v n g b w t)) d e)
    where
      by : AtNext (truth_of v g) (λ t. Next (turn p below h v n g b w t)) d → IsWellFormed program d
      by (at_next t o k) = well _ d k (keeps_test h p v n g b w below x t)
  keeps_step h p v (Do Stop w) below x d e = absurd cc
  keeps_step h p v (Do (Simple n a r) w) below x d e = by (next_of n (effect_of a h v) (λ y. Next (goes_on p below y.0 y.1 (Done n None (push r w)))) d e)
    where
      by : AtNext (effect_of a h v) (λ y. Next (goes_on p below y.0 y.1 (Done n None (push r w)))) d → IsWellFormed program d
      by (at_next y o k) =
          let f = code_fits h p v _ below x (Simple n a r) x.work.0 in
          well _ d k
          (goes h y.0 p v y.1 _ (Done n None (push r w)) below x (effects_keep a x.routine.layout (layouts_of program below) h v (variables_of below) y f.1.0 o x.proper)
          (done_work p x.routine.code (Simple n a r) r n None w x.work.0 refl refl (behind_simple x.work.0) x.work.2 x.work.3))
  keeps_step h p v (Do (If n g t z r) w) below x d e = by (next_of n (truth_of v g) (λ b. Next (goes_on p below h v (push (chosen b t z) (Done n None (push r w))))) d e)
    where
      by : AtNext (truth_of v g) (λ b. Next (goes_on p below h v (push (chosen b t z) (Done n None (push r w))))) d → IsWellFormed program d
      by (at_next b o k) = well _ d k (keeps_if h p v n g t z r w below x b)
  keeps_step h p v (Do (While n g b r) w) below x d e =
      well _ d e (goes_same h p v _ (Test n g b (push r w)) below x ((r, x.work.0), push_work p x.routine.code r w (behind_loop x.work.0) x.work.2 x.work.3))
  keeps_step h p v (Do (Call n i q r) w) below x d e = by (next_of n (pass i.entering v) (λ u. step_if_some (slice_get program q) (λ c. Next (enters q (In p v (Done n (Some i) (push r w)) ∷ below) h u c))) d e)
    where
      by : AtNext (pass i.entering v) (λ u. step_if_some (slice_get program q) (λ c. Next (enters q (In p v (Done n (Some i) (push r w)) ∷ below) h u c))) d → IsWellFormed program d
      by (at_next u o k) = keeps_call h p v u n i q r w below x o (slice_get program q) refl d k
  keeps_step h p v (Do (Break n r) w) below x d e =
      let l = leaves p x.routine.code w (x.work.2 refl) x.work.3 in
      let k = subst (λ o. step_if_some o (λ u. Next (goes_on p below h v u)) ≡ Next d) l.is e in
      well _ d k (goes_same h p v _ l.rest below x l.work)

  keeps_frames : (h : Heap) (fs : List Frame) → IsWellFormed program (record { heap = h; frames = fs }) → (d : Config) → step_frames program h fs ≡ Next d → IsWellFormed program d
  keeps_frames h [] f d e = absurd cc
  keeps_frames h (In p v w ∷ below) f d e = keeps_step h p v w below (opened h p v w below f) d e

pub steps_keep_form : StepsKeepForm
steps_keep_form program checked c d f e = keeps_frames program checked c.heap c.frames f d e

-- Well-formed configurations go on until main is done.
never : {A : Type 0} (n : ℕ) (o : Attempt A) (f : A → Step) → ((a : A) → f a ≡ Ended → ⊥) → step_at n o f ≡ Ended → ⊥
never n (Gives a) f k e = k a e
never n (Faults j) f k e = cc
never n LacksInput f k e = cc

not_next : (c : Config) → Next c ≡ Ended → ⊥
not_next c e = cc

module _ (program : List Routine) (checked : IsChecked program) where
  found_next : {A : Type 0} (o : Option A) (f : A → Config) (a : A) → o ≡ Some a → step_if_some o (λ x. Next (f x)) ≡ Ended → ⊥
  found_next None f a i e = cc
  found_next (Some b) f a i e = cc

  ends_return : (h : Heap) (p : ℕ) (v : Variables) (q : ℕ) (below : List Frame) → Top program checked h p v (Ret q) below → returns_to h v below ≡ Ended → IsEnded program (record { heap = h; frames = In p v (Ret q) ∷ below })
  ends_return h p v q [] x e =
      let k : suc p ≡ length program = x.stacked in
      let i : q ≡ p = x.work in
      let j : p ≡ length program - 1 = omega arith in
      record { variables = v; frames = ap (λ q. In p v (Ret q) ∷ []) i ∙ ap (λ p. In p v (Ret p) ∷ []) j }
  ends_return h p v q (In s u (Done n (Some i) w) ∷ below) x e = absurd cc
  ends_return h p v q (In s u (Done n None w) ∷ below) x e = absurd ((from_match (slice_get program s) (λ r. ⊥) x.stacked.1).2)
  ends_return h p v q (In s u (Ret t) ∷ below) x e = absurd ((from_match (slice_get program s) (λ r. ⊥) x.stacked.1).2)
  ends_return h p v q (In s u (Do c w) ∷ below) x e = absurd ((from_match (slice_get program s) (λ r. ⊥) x.stacked.1).2)
  ends_return h p v q (In s u (Test n g b w) ∷ below) x e = absurd ((from_match (slice_get program s) (λ r. ⊥) x.stacked.1).2)

  ends_step : (h : Heap) (p : ℕ) (v : Variables) (w : Work) (below : List Frame) → Top program checked h p v w below → step_frame program p below h v w ≡ Ended → IsEnded program (record { heap = h; frames = In p v w ∷ below })
  ends_step h p v (Ret q) below x e = ends_return h p v q below x e
  ends_step h p v (Done n i w) below x e = absurd cc
  ends_step h p v (Test n g b w) below x e = absurd (never n (truth_of v g) (λ t. Next (turn p below h v n g b w t)) (λ t k. not_next _ k) e)
  ends_step h p v (Do Stop w) below x e = absurd (x.work.1 refl)
  ends_step h p v (Do (Simple n a r) w) below x e = absurd (never n (effect_of a h v) (λ y. Next (goes_on p below y.0 y.1 (Done n None (push r w)))) (λ y k. not_next _ k) e)
  ends_step h p v (Do (If n g t z r) w) below x e = absurd (never n (truth_of v g) (λ b. Next (goes_on p below h v (push (chosen b t z) (Done n None (push r w))))) (λ b k. not_next _ k) e)
  ends_step h p v (Do (While n g b r) w) below x e = absurd cc
  ends_step h p v (Do (Call n i q r) w) below x e =
      let k = callee program checked p x.routine x.at n i q r x.work.0 in
      absurd (never n (pass i.entering v) (λ u. step_if_some (slice_get program q) (λ c. Next (enters q (In p v (Done n (Some i) (push r w)) ∷ below) h u c)))
      (λ u g. found_next (slice_get program q) (λ c. enters q (In p v (Done n (Some i) (push r w)) ∷ below) h u c) k.routine k.at g) e)
  ends_step h p v (Do (Break n r) w) below x e =
      let l = leaves p x.routine.code w (x.work.2 refl) x.work.3 in
      absurd (found_next (leave_loop w) (λ u. goes_on p below h v u) l.rest l.is e)

  ends_frames : (h : Heap) (fs : List Frame) → IsWellFormed program (record { heap = h; frames = fs }) → step_frames program h fs ≡ Ended → IsEnded program (record { heap = h; frames = fs })
  ends_frames h [] f e = absurd f.stacked
  ends_frames h (In p v w ∷ below) f e = ends_step h p v w below (opened program checked h p v w below f) e

pub steps_go_on : StepsGoOn
steps_go_on program checked c f =
    (λ e. ends_frames program checked c.heap c.frames f e, λ e. subst (λ fs. step_frames program c.heap fs ≡ Ended) (sym e.frames) refl)

last_is : (xs : List Routine) → 0 < length xs → (r : Routine) × (slice_get xs (length xs - 1) ≡ Some r)
last_is xs h = by (slice_get_cases xs (length xs - 1)).1
  where
    by : ((x : Routine) × (length xs - 1 < length xs) × (slice_get xs (length xs - 1) ≡ Some x) × (get_or xs (length xs - 1) x ≡ x)) ⊎ ((length xs ≤ length xs - 1) × (slice_get xs (length xs - 1) ≡ None)) → (r : Routine) × (slice_get xs (length xs - 1) ≡ Some r)
    by (inl (x, l, e, g)) = (x, e)
    by (inr (l, e)) = absurd (omega arith)

pub start_is_well_formed : StartIsWellFormed
start_is_well_formed program checked inputs words =
    let l = last_is program checked.some in
    let k = known program (main program) l.0 checked l.1 in
    let h : Heap = record { cells = []; inputs = inputs } in
    let lt : 0 < length program = checked.some in
    subst (λ o. IsWellFormed program (started program h o)) (sym l.1)
    (closed program checked h (main program) (first_variables l.0.layout) (push l.0.code (Ret (main program))) []
    (record {
      routine = l.0;
      at = l.1;
      stacked = omega arith;
      work = push_work (main program) l.0.code l.0.code (Ret (main program)) whole (λ b. absurd (false≢true (sym k.fits.no_break ∙ b))) refl;
      rest = tt;
      proper = start_keeps l.0.layout inputs words;
    }))
