-- Runs from a state that following passes are safe.
use Rattle.std.specs.Prelude.{◌≡◌, ℕ, zero, suc, List, [], ◌∷◌, ◌++◌, length, reverse, slice_get, option_map, Option, Some, None, Bool, true, false, if◌then◌else◌}
use Rattle.std.proofs.Common.{refl, sym, ap, ◌∙◌, subst}
use Rattle.imp_syntax.specs.declared.edit.Location.TheVariants.{Head, End}
use Rattle.imp_slots.specs.Plain.{Layout, Guard, Effect, DoBreak, Does, Invoke, Code, Stop, Simple, If, While, Call, Break, Routine, code_numbers}
use Rattle.imp_slots.specs.Fits.{fits_guard, fits_invoke, FitsCode, IsChecked}
use Rattle.concrete_sem.specs.Values.{Variables, Heap, Attempt, Gives, Faults, LacksInput}
use Rattle.concrete_sem.specs.Evaluation.{truth_of}
use Rattle.concrete_sem.specs.Effects.{effect_of}
use Rattle.concrete_sem.specs.Passing.{pass, back}
use Rattle.concrete_sem.specs.Steps.{Work, Ret, Done, Test, Frame, In, Config, Step, Next, push, leave_loop, chosen, goes_on, turn, step_at, step_if_some, enters, step}
use Rattle.concrete_sem.specs.Reach.{standing, sites, call_sites, after_steps}
use Rattle.concrete_sem.specs.WellFormed.{variables_of}
use Rattle.concrete_sem.specs.Proper.{IsProper}
use Rattle.imp_chains.specs.Claims.{PlacesAreFound}
use Rattle.domain_laws.specs.Operations.{Operations}
use Rattle.domain_laws.specs.Laws.{Laws}
use Rattle.base_values.proofs.Cases.{by_test}
use Rattle.base_values.proofs.Members.{here, there, in_left, in_right}
use Rattle.batch_meaning.proofs.Procedures.{look, look_get, FitBack}
use Rattle.batch_sound.proofs.Fitting.{callee}
use Rattle.batch_sound.proofs.Steps.{Kept, stepped, next_inj}
use Rattle.cert_meaning.specs.Portable.{IsSoundOrder}
use Rattle.cert_meaning.specs.Followed.{Missing, Entry, Step as Again, Followed, Passes, Fails, with_leaving, joined, followed, followed_procedure}
use Rattle.cert_meaning.specs.Chained.{layouts_around}
use Rattle.cert_sound.specs.Theorem.{AreOfFrames, IsCovered}
use Rattle.cert_sound.proofs.Fitting.{InProgram, earlier_in, last_at, AreOf, are_of, EachFit, DoesFit, fit_joined, written_fits, block_fit, procedure_fit}
use Rattle.cert_sound.proofs.Inverted.{passed, held, found}
use Rattle.std.proofs.lemmas.Option.{same_Some}

-- A frame: the place of its procedure, the frames below it, its layout and theirs.
pub record Place : Type 0 where
  pub p : ℕ
  pub below : List Frame
  pub layout : Layout
  pub lower : List Layout

abbrev pub layouts : Place → List Layout
layouts f = f.layout ∷ f.lower

-- no location of a procedure's end is a loop's head
no_head_end : (o : Option Routine) (n : ℕ) → option_map (λ (r : Routine). End r.name) o ≡ Some (Head n) → ⊥
no_head_end None n e = cc
no_head_end (Some r) n e = cc

-- breaks out of a block and out of what is after it go to the same work
leave_push : (c : Code) (w : Work) → leave_loop (push c w) ≡ leave_loop w
leave_push Stop w = refl
leave_push (Simple n e r) w = refl
leave_push (If n g t e r) w = refl
leave_push (While n g b r) w = refl
leave_push (Call n i q r) w = refl
leave_push (Break n r) w = refl

module _ {S : Type 0} (dom : Operations S) (leq : S → S → Bool) (written : List ℕ → ℕ → Option S) (covers : S → Heap → List Variables → Type 0) (laws : Laws dom covers) (order : IsSoundOrder dom covers leq) (keeps : Kept) (places : PlacesAreFound) (program : List Routine) (checked : IsChecked program) (frames : AreOfFrames dom program written) where
  -- where the configuration stands at the test of a loop, the state that is written there describes it
  abbrev pub Met : Config → Type 0
  Met c = (n : ℕ) → standing program c.frames ≡ Some (Head n) → IsCovered covers (written (call_sites c.frames) n) c.heap (variables_of c.frames)

  -- so do the configurations of that many steps more
  abbrev pub IsSafe : ℕ → Config → Type 0
  IsSafe zero c = Met c
  IsSafe (suc k) c = Met c × ((d : Config) → step program c ≡ Next d → IsSafe k d)

  safe_less : (k : ℕ) (c : Config) → IsSafe (suc k) c → IsSafe k c
  safe_less zero c s = s.0
  safe_less (suc k) c s = (s.0, λ d e. safe_less k d (s.1 d e))

  pub safe_reached : (k : ℕ) (c d : Config) → IsSafe k c → after_steps program k c ≡ Some d → Met d
  safe_reached zero c d s e = subst Met (same_Some c d e) s
  safe_reached (suc k) c d s e = let t = stepped (step program c) (after_steps program k) d e in safe_reached k t.0 d (s.1 t.0 t.1) t.2

  -- a step from a configuration that is described is to a safe one
  pub safe_by : (k : ℕ) (c : Config) → Met c → ((j : ℕ) → k ≡ suc j → (d : Config) → step program c ≡ Next d → IsSafe j d) → IsSafe k c
  safe_by zero c m s = m
  safe_by (suc k) c m s = (m, s k refl)

  now : (k : ℕ) (c d : Config) → IsSafe k c → Next c ≡ Next d → IsSafe k d
  now k c d s e = subst (IsSafe k) (next_inj c d e) s

  step_safe : {A : Type 0} (n : ℕ) (o : Attempt A) (f : A → Step) (k : ℕ) → ((a : A) → o ≡ Gives a → (d : Config) → f a ≡ Next d → IsSafe k d) → (d : Config) → step_at n o f ≡ Next d → IsSafe k d
  step_safe n (Gives a) f k s d e = s a refl d e
  step_safe n (Faults x) f k s d e = absurd cc
  step_safe n LacksInput f k s d e = absurd cc

  some_safe : {A : Type 0} (o : Option A) (f : A → Step) (k : ℕ) → ((a : A) → o ≡ Some a → (d : Config) → f a ≡ Next d → IsSafe k d) → (d : Config) → step_if_some o f ≡ Next d → IsSafe k d
  some_safe None f k s d e = absurd cc
  some_safe (Some a) f k s d e = s a refl d e

  -- the frame goes on with this work, safe for so many steps, wherever the state describes it
  abbrev pub Runs : Place → ℕ → Work → S → Type 0
  Runs f k w s = (h : Heap) (v : Variables) → IsProper h (v ∷ variables_of f.below) (f.layout ∷ f.lower) → covers s h (v ∷ variables_of f.below) → IsSafe k (goes_on f.p f.below h v w)

  -- and with the work after a loop, where there is one, from each of these states
  abbrev pub Leaves : Place → ℕ → Option Work → List S → Type 0
  Leaves f k o [] = Unit {0}
  Leaves f k o (s ∷ ss) = ((u : Work) → o ≡ Some u → Runs f k u s) × Leaves f k o ss

  -- What is after a block that is followed is safe.
  abbrev pub Ready : Place → ℕ → Work → Followed S → Type 0
  Ready f k w (Passes b es) = Runs f k w b × Leaves f k (leave_loop w) es
  Ready f k w (Fails n z why) = ⊥

  no_fault : (f : Place) (k : ℕ) (w : Work) (r : Followed S) → Ready f k w r → (n : ℕ) (z : List ℕ) (why : _) → r ≡ Fails n z why → ⊥
  no_fault f k w r g n z why e = subst (Ready f k w) e g

  leaves_less : (f : Place) (k : ℕ) (o : Option Work) (es : List S) → Leaves f (suc k) o es → Leaves f k o es
  leaves_less f k o [] g = tt
  leaves_less f k o (e ∷ es) g = (λ u i h v p c. safe_less k _ (g.0 u i h v p c), leaves_less f k o es g.1)

  ready_less : (f : Place) (k : ℕ) (w : Work) (r : Followed S) → Ready f (suc k) w r → Ready f k w r
  ready_less f k w (Passes b es) g = (λ h v p c. safe_less k _ (g.0 h v p c), leaves_less f k (leave_loop w) es g.1)
  ready_less f k w (Fails n z why) g = g

  ready_then : (f : Place) (k j : ℕ) (w : Work) (r : Followed S) → k ≡ suc j → Ready f k w r → Ready f j w r
  ready_then f k j w r i g = ready_less f j w r (subst (λ k. Ready f k w r) i g)

  leaves_left : (f : Place) (k : ℕ) (o : Option Work) (xs ys : List S) → Leaves f k o (xs ++ ys) → Leaves f k o xs
  leaves_left f k o [] ys g = tt
  leaves_left f k o (x ∷ xs) ys g = (g.0, leaves_left f k o xs ys g.1)

  leaves_right : (f : Place) (k : ℕ) (o : Option Work) (xs ys : List S) → Leaves f k o (xs ++ ys) → Leaves f k o ys
  leaves_right f k o [] ys g = g
  leaves_right f k o (x ∷ xs) ys g = leaves_right f k o xs ys g.1

  ready_after : (f : Place) (k : ℕ) (w : Work) (xs : List S) (r : Followed S) → Ready f k w (with_leaving xs r) → Leaves f k (leave_loop w) xs × Ready f k w r
  ready_after f k w xs (Passes b es) g = (leaves_left f k (leave_loop w) xs es g.1, (g.0, leaves_right f k (leave_loop w) xs es g.1))
  ready_after f k w xs (Fails n z why) g = absurd g

  leaves_none : (f : Place) (k : ℕ) (es : List S) → Leaves f k None es
  leaves_none f k [] = tt
  leaves_none f k (e ∷ es) = (λ u i. absurd cc, leaves_none f k es)

  -- a Done is taken off
  done_runs : (f : Place) (k n : ℕ) (i : Option Invoke) (w : Work) (s : S) → Runs f k w s → Runs f k (Done n i w) s
  done_runs f zero n i w s g h v p c = λ m e. absurd cc
  done_runs f (suc k) n i w s g h v p c = (λ m e. absurd cc, λ d e. now k _ d (safe_less k _ (g h v p c)) e)

  -- what one state describes, the other does
  abbrev Under : Place → S → S → Type 0
  Under f s t = (h : Heap) (vs : List Variables) → IsProper h vs (f.layout ∷ f.lower) → covers s h vs → covers t h vs

  runs_under : (f : Place) (k : ℕ) (w : Work) (s t : S) → Under f s t → Runs f k w t → Runs f k w s
  runs_under f k w s t u g h v p c = g h v p (u h (v ∷ variables_of f.below) p c)

  joined_first : (f : Place) (s : S) (xs : List S) → dom.fits s (layouts f) ≡ true → EachFit dom leq written covers laws program frames (layouts f) xs → Under f s (joined dom s xs)
  joined_first f s [] fs fx h vs p c = c
  joined_first f s (x ∷ xs) fs fx h vs p c =
      joined_first f (dom.join s x) xs (laws.fitting.join (layouts f) s x fs fx.0) fx.1 h vs p (laws.join_left (layouts f) s x h vs fs fx.0 p c)

  -- from each of these states, with the work after a loop, since it is safe from their join
  joined_leaves : (f : Place) (k : ℕ) (u : Work) (s : S) (xs : List S) → dom.fits s (layouts f) ≡ true → EachFit dom leq written covers laws program frames (layouts f) xs → Runs f k u (joined dom s xs) → Leaves f k (Some u) xs
  joined_leaves f k u s [] fs fx g = tt
  joined_leaves f k u s (x ∷ xs) fs fx g =
      let fj = laws.fitting.join (layouts f) s x fs fx.0 in (
        λ t i. subst (λ t. Runs f k t x) (same_Some u t i)
            (runs_under f k u x (joined dom (dom.join s x) xs) (λ h vs p c. joined_first f (dom.join s x) xs fj fx.1 h vs p (laws.join_right (layouts f) s x h vs fs fx.0 p c)) g),
        joined_leaves f k u (dom.join s x) xs fj fx.1 g,
      )

  -- A procedure's body is safe before its Ret is.
  abbrev pub AreSafe : List Routine → Type 0
  AreSafe earlier =
      (q : ℕ) (t : Routine) → look earlier q ≡ Some t → (f : Place) → f.layout ≡ t.layout → layouts_around program (sites f.below) ≡ f.lower → (k : ℕ) (a : S) → dom.fits a (f.layout ∷ f.lower) ≡ true →
      Ready f k (Ret q) (followed_procedure dom leq written earlier (sites f.below) q a) → Runs f k (push t.code (Ret q)) a

  module _ (f : Place) (known : layouts_around program (sites f.below) ≡ f.lower) (earlier : List Routine) (fb : FitBack earlier) (inp : InProgram program earlier) (inner : AreSafe earlier) where
    abbrev B : Code → S → Followed S
    B = followed dom leq written (sites f.below) (λ n. followed_procedure dom leq written earlier (n ∷ sites f.below))

    abbrev Fit : S → Type 0
    Fit s = dom.fits s (f.layout ∷ f.lower) ≡ true

    fit_block : (c : Code) (a b : S) (es : List S) → FitsCode (reverse earlier) f.layout c → AreOf program f.layout c → Fit a → B c a ≡ Passes b es → DoesFit dom leq written covers laws program frames (layouts f) (Passes b es)
    fit_block c a b es suits own fa e =
        subst (DoesFit dom leq written covers laws program frames (layouts f)) e
        (block_fit dom leq written covers laws program frames (sites f.below) f.layout f.lower known earlier (procedure_fit dom leq written covers laws program frames checked places earlier fb inp f.layout f.lower (sites f.below) known) c a suits own fa)

    -- a block is safe from a state where what is after it is
    abbrev IsBlock : Code → S → Type 0
    IsBlock c a = (k : ℕ) (w : Work) → Ready f k w (B c a) → Runs f k (push c w) a

    simple_safe : (n : ℕ) (e : Effect) (r : Code) (a : S) → FitsCode (reverse earlier) f.layout (Simple n e r) → Fit a → IsBlock r (dom.post (Does e) a) → IsBlock (Simple n e r) a
    simple_safe n e r a suits fa rest k w g h v p c =
        safe_by k _ (λ m i. absurd cc)
        (λ j i.
        step_safe n (effect_of e h v) _ j
        (λ x o d. now j _ d
        (done_runs f j n None (push r w) (dom.post (Does e) a) (rest j w (ready_then f k j w _ i g)) x.0 x.1
        (keeps.effects e f.layout f.lower h v (variables_of f.below) x suits.0 o p)
        (laws.post e f.layout f.lower a h v (variables_of f.below) x suits.0 fa p o c))))

    -- A branch of an if: after it comes the join.
    branch_safe : (n : ℕ) (c r : Code) (a x z : S) (xs : List S) → B c a ≡ Passes x xs → Under f x z → IsBlock c a → IsBlock r z → (k : ℕ) (w : Work) → Leaves f k (leave_loop w) xs → Ready f k w (B r z) → Runs f k (push c (Done n None (push r w))) a
    branch_safe n c r a x z xs was under block rest k w out g =
        block k (Done n None (push r w))
        (subst (Ready f k (Done n None (push r w))) (sym was)
        (done_runs f k n None (push r w) x (runs_under f k (push r w) x z under (rest k w g)), subst (λ o. Leaves f k o xs) (sym (leave_push r w)) out))

    if_safe : (n : ℕ) (b : Guard) (t e r : Code) (a : S) → FitsCode (reverse earlier) f.layout (If n b t e r) → AreOf program f.layout (If n b t e r) → Fit a → IsBlock t (dom.assume b true a) → IsBlock e (dom.assume b false a) → ((z : S) → Fit z → IsBlock r z) → IsBlock (If n b t e r) a
    if_safe n b t e r a suits own fa first second rest k w g h v p c =
        let one = passed (Ready f k w) (no_fault f k w) (B t (dom.assume b true a)) _ g in
        let two = passed (Ready f k w) (no_fault f k w) (B e (dom.assume b false a)) _ one.rest in
        let x = one.behind in
        let y = two.behind in
        let end = ready_after f k w (one.leaving ++ two.leaving) (B r (dom.join x y)) two.rest in
        let fx = fit_block t (dom.assume b true a) x one.leaving suits.1 (λ k m. own k (there (in_left _ m))) (laws.fitting.assume b true f.layout f.lower a suits.0 fa) one.was in
        let fy = fit_block e (dom.assume b false a) y two.leaving suits.2 (λ k m. own k (there (in_right (code_numbers t) (in_left _ m)))) (laws.fitting.assume b false f.layout f.lower a suits.0 fa) two.was in
        let block = rest (dom.join x y) (laws.fitting.join (layouts f) x y fx.0 fy.0) in
        safe_by k _ (λ m i. absurd cc)
        (λ j i.
        let go = ready_then f k j w _ i end.1 in
        let out = leaves_less f j (leave_loop w) (one.leaving ++ two.leaving) (subst (λ k. Leaves f k (leave_loop w) (one.leaving ++ two.leaving)) i end.0) in
        step_safe n (truth_of v b) _ j
        (λ s o d. now j _ d
        ((elim s as (λ s. truth_of v b ≡ Gives s → IsSafe j (goes_on f.p f.below h v (push (chosen s t e) (Done n None (push r w))))) [
          | true ↦ λ o.
              branch_safe n t r (dom.assume b true a) x (dom.join x y) one.leaving one.was
              (λ h vs p c. laws.join_left (layouts f) x y h vs fx.0 fy.0 p c) first block j w (leaves_left f j (leave_loop w) one.leaving two.leaving out) go h v p
              (laws.assume b true f.layout f.lower a h v (variables_of f.below) suits.0 fa p o c)
          | false ↦ λ o.
              branch_safe n e r (dom.assume b false a) y (dom.join x y) two.leaving two.was
              (λ h vs p c. laws.join_right (layouts f) x y h vs fx.0 fy.0 p c) second block j w (leaves_right f j (leave_loop w) one.leaving two.leaving out) go h v p
              (laws.assume b false f.layout f.lower a h v (variables_of f.below) suits.0 fa p o c)
        ]) o)))

    -- at the test of a loop stands what is described by the state that is written there
    test_met : (n : ℕ) (b : Guard) (c : Code) (x : S) (w : Work) → written (sites f.below) n ≡ Some x → (h : Heap) (v : Variables) → covers x h (v ∷ variables_of f.below) → Met (goes_on f.p f.below h v (Test n b c w))
    test_met n b c x w at h v i m e =
        let same : n ≡ m = cc in
        subst (λ n. IsCovered covers (written (sites f.below) n) h (v ∷ variables_of f.below)) same (subst (λ o. IsCovered covers o h (v ∷ variables_of f.below)) (sym at) i)

    -- The test of a loop at which x is written: a round leads back to it, and what leaves it is after it.
    test_safe : (n : ℕ) (b : Guard) (c r : Code) (x y : S) (ys : List S) → fits_guard f.layout b ≡ true → Fit x → Fit y → EachFit dom leq written covers laws program frames (layouts f) ys → written (sites f.below) n ≡ Some x → B c (dom.assume b true x) ≡ Passes y ys → leq y x ≡ true → IsBlock c (dom.assume b true x) → IsBlock r (joined dom (dom.assume b false x) ys) →
        (k : ℕ) (w : Work) → Ready f k w (B r (joined dom (dom.assume b false x) ys)) → Runs f k (Test n b c (push r w)) x
    test_safe n b c r x y ys suits fx fy fys at was le round rest zero w g h v p i = test_met n b c x (push r w) at h v i
    test_safe n b c r x y ys suits fx fy fys at was le round rest (suc k) w g h v p i =
        let z = joined dom (dom.assume b false x) ys in
        let fo = laws.fitting.assume b false f.layout f.lower x suits fx in
        let out = done_runs f k n None (push r w) z (rest k w (ready_less f k w (B r z) g)) in
        let again = runs_under f k (Test n b c (push r w)) y x (λ h vs p i. order (layouts f) y x h vs fy fx p le i) (test_safe n b c r x y ys suits fx fy fys at was le round rest k w (ready_less f k w (B r z) g)) in (
          test_met n b c x (push r w) at h v i,
          step_safe n (truth_of v b) _ k
              (λ s o d. now k _ d
              ((elim s as (λ s. truth_of v b ≡ Gives s → IsSafe k (turn f.p f.below h v n b c (push r w) s)) [
                | true ↦ λ o.
                    round k (Test n b c (push r w))
                    (subst (Ready f k (Test n b c (push r w))) (sym was) (again, joined_leaves f k (Done n None (push r w)) (dom.assume b false x) ys fo fys out)) h v p
                    (laws.assume b true f.layout f.lower x h v (variables_of f.below) suits fx p o i)
                | false ↦ λ o.
                    runs_under f k (Done n None (push r w)) (dom.assume b false x) z (joined_first f (dom.assume b false x) ys fo fys) out h v p
                    (laws.assume b false f.layout f.lower x h v (variables_of f.below) suits fx p o i)
              ]) o)),
        )

    while_safe : (n : ℕ) (b : Guard) (c r : Code) (a : S) → FitsCode (reverse earlier) f.layout (While n b c r) → AreOf program f.layout (While n b c r) → Fit a → ((x : S) → Fit x → IsBlock c x) → ((z : S) → Fit z → IsBlock r z) → IsBlock (While n b c r) a
    while_safe n b c r a suits own fa round rest k w g h v p i =
        let at = found (Ready f k w) (no_fault f k w) (written (sites f.below) n) n (sites f.below) Missing _ g in
        let x = at.state in
        let entry = held (Ready f k w) (no_fault f k w) (leq a x) n (sites f.below) Entry _ at.rest in
        let one = passed (Ready f k w) (no_fault f k w) (B c (dom.assume b true x)) _ entry.1 in
        let y = one.behind in
        let again = held (Ready f k w) (no_fault f k w) (leq y x) n (sites f.below) Again (B r (joined dom (dom.assume b false x) one.leaving)) one.rest in
        let fx = written_fits dom leq written covers laws program frames (sites f.below) f.layout f.lower n x known (own n here) at.was in
        let ft = laws.fitting.assume b true f.layout f.lower x suits.0 fx in
        let fy = fit_block c (dom.assume b true x) y one.leaving suits.1 (λ k m. own k (there (in_left _ m))) ft one.was in
        let fz = fit_joined dom leq written covers laws program frames (layouts f) (dom.assume b false x) one.leaving (laws.fitting.assume b false f.layout f.lower x suits.0 fx) fy.1 in
        safe_by k _ (λ m e. absurd cc)
        (λ j e d. now j _ d
        (test_safe n b c r x y one.leaving suits.0 fx fy.0 fy.1 at.was one.was again.0 (round (dom.assume b true x) ft) (rest (joined dom (dom.assume b false x) one.leaving) fz) j w (ready_then f k j w _ e again.1) h v p
        (order (layouts f) a x h (v ∷ variables_of f.below) fa fx p entry.0 i)))

    -- the frame of a callee, below it this one at the call
    abbrev callee_place : (n : ℕ) → Invoke → (q : ℕ) → Layout → Variables → Work → Place
    callee_place n i q l v w = record { p = q; below = In f.p v (Done n (Some i) w) ∷ f.below; layout = l; lower = f.layout ∷ f.lower }

    -- After the callee's body, at its Ret: the caller takes the result.
    return_runs : (n : ℕ) (i : Invoke) (q : ℕ) (l : Layout) (w : Work) (a d : S) (h : Heap) (v u : Variables) → l ≡ i.entering.layout → fits_invoke f.layout i ≡ true → Fit a → dom.fits d (i.entering.layout ∷ f.layout ∷ f.lower) ≡ true →
        IsProper h (v ∷ variables_of f.below) (f.layout ∷ f.lower) → pass i.entering v ≡ Gives u → covers a h (v ∷ variables_of f.below) →
        (j : ℕ) → ((b : ℕ) → j ≡ suc b → Runs f b w (dom.leave i.returning a d)) → Runs (callee_place n i q l v w) j (Ret q) d
    return_runs n i q l w a d h v u lay suits fa fd p s y j rest k m p1 y1 =
        let p2 = subst (λ l. IsProper k (m ∷ v ∷ variables_of f.below) (l ∷ f.layout ∷ f.lower)) lay p1 in
        safe_by j _ (λ n e. absurd (no_head_end (slice_get program q) n e))
        (λ b e c. now b _ c
        (done_runs f b n (Some i) w (dom.leave i.returning a d) (rest b e) k (back i.returning v m)
        (keeps.returns i f.layout f.lower k v m (variables_of f.below) suits p2)
        (laws.leave i f.layout f.lower a d h k v u m (variables_of f.below) suits fa fd p p2 s y y1)))

    call_safe : (n : ℕ) (i : Invoke) (q : ℕ) (r : Code) (a : S) → FitsCode (reverse earlier) f.layout (Call n i q r) → AreOf program f.layout (Call n i q r) → Fit a → ((z : S) → Fit z → IsBlock r z) → IsBlock (Call n i q r) a
    call_safe n i q r a suits own fa rest k w g h v p y =
        let o = callee (reverse earlier) f.layout i q suits.0 in
        let a1 = dom.enter i.entering a in
        let at : look earlier q ≡ Some o.routine = look_get earlier q ∙ o.at in
        let one = passed (Ready f k w) (no_fault f k w) (followed_procedure dom leq written earlier (n ∷ sites f.below) q a1) _ g in
        let f1 = subst (λ l. dom.fits a1 (l ∷ f.layout ∷ f.lower) ≡ true) (sym o.layout) (laws.fitting.enter i f.layout f.lower a o.fits fa) in
        let fd = subst (DoesFit dom leq written covers laws program frames (o.routine.layout ∷ f.layout ∷ f.lower)) one.was (procedure_fit dom leq written covers laws program frames checked places earlier fb inp f.layout f.lower (sites f.below) known n q o.routine a1 (own n here) at f1) in
        let fd2 = subst (λ l. dom.fits one.behind (l ∷ f.layout ∷ f.lower) ≡ true) o.layout fd.0 in
        let z = dom.leave i.returning a one.behind in
        let fz = laws.fitting.leave i f.layout f.lower a one.behind o.fits fa fd2 in
        let around : layouts_around program (n ∷ sites f.below) ≡ f.layout ∷ f.lower = ap (λ l. l ∷ layouts_around program (sites f.below)) (own n here) ∙ ap (λ ls. f.layout ∷ ls) known in
        let f2 = callee_place n i q o.routine.layout v (push r w) in
        safe_by k _ (λ m e. absurd cc)
        (λ j e. step_safe n (pass i.entering v) _ j
        (λ u s. some_safe (slice_get program q) _ j
        (λ t is c. now j _ c
        (subst (λ (t : Routine). IsSafe j (enters q f2.below h u t)) (same_Some o.routine t (sym (inp q o.routine at) ∙ is))
        (inner q o.routine at f2 refl around j a1 f1
        (subst (Ready f2 j (Ret q)) (sym one.was) (
          return_runs n i q o.routine.layout (push r w) a one.behind h v u o.layout o.fits fa fd2 p s y j
              (λ b e2. rest z fz b w (ready_then f j b w _ e2 (ready_then f k j w _ e one.rest))),
          leaves_none f2 j one.leaving,
        )) h u
        (subst (λ l. IsProper h (u ∷ v ∷ variables_of f.below) (l ∷ f.layout ∷ f.lower)) (sym o.layout) (keeps.calls i f.layout f.lower h v u (variables_of f.below) o.fits s p))
        (laws.enter i f.layout f.lower a h v u (variables_of f.below) o.fits fa p s y))))))

    break_safe : (n : ℕ) (r : Code) (a : S) → IsBlock (Break n r) a
    break_safe n r a k w g h v p y =
        let out = ready_after f k w (a ∷ []) (B r (dom.post DoBreak a)) g in
        safe_by k _ (λ m e. absurd cc)
        (λ j e. some_safe (leave_loop w) _ j (λ u o d. now j _ d ((leaves_less f j (leave_loop w) (a ∷ []) (subst (λ k. Leaves f k (leave_loop w) (a ∷ [])) e out.0)).0 u o h v p y)))

    pub block_safe : (c : Code) (a : S) → FitsCode (reverse earlier) f.layout c → AreOf program f.layout c → Fit a → IsBlock c a
    block_safe Stop a suits own fa = λ k w g. g.0
    block_safe (Simple n e r) a suits own fa = simple_safe n e r a suits fa (block_safe r (dom.post (Does e) a) suits.1 (λ k m. own k (there m)) (laws.fitting.post (Does e) f.layout f.lower a suits.0 fa))
    block_safe (If n b t e r) a suits own fa =
        if_safe n b t e r a suits own fa
        (block_safe t (dom.assume b true a) suits.1 (λ k m. own k (there (in_left _ m))) (laws.fitting.assume b true f.layout f.lower a suits.0 fa))
        (block_safe e (dom.assume b false a) suits.2 (λ k m. own k (there (in_right (code_numbers t) (in_left _ m)))) (laws.fitting.assume b false f.layout f.lower a suits.0 fa))
        (λ z fz. block_safe r z suits.3 (λ k m. own k (there (in_right (code_numbers t) (in_right (code_numbers e) m)))) fz)
    block_safe (While n b c r) a suits own fa =
        while_safe n b c r a suits own fa
        (λ x fx. block_safe c x suits.1 (λ k m. own k (there (in_left _ m))) fx)
        (λ z fz. block_safe r z suits.2 (λ k m. own k (there (in_right (code_numbers c) m))) fz)
    block_safe (Call n i q r) a suits own fa = call_safe n i q r a suits own fa (λ z fz. block_safe r z suits.1 (λ k m. own k (there m)) fz)
    block_safe (Break n r) a suits own fa = break_safe n r a

  pub procedures_safe : (earlier : List Routine) → FitBack earlier → InProgram program earlier → AreSafe earlier
  procedures_safe [] fb inp q t at f same known k a fa g = absurd cc
  procedures_safe (r ∷ earlier) fb inp q t at f same known k a fa g =
      let inner = procedures_safe earlier fb.1 (earlier_in program r earlier inp) in
      (by_test q (length earlier)
      (λ c. (if c then Some r else look earlier q) ≡ Some t → Ready f k (Ret q) (if c then followed dom leq written (sites f.below) (λ m. followed_procedure dom leq written earlier (m ∷ sites f.below)) r.code a else followed_procedure dom leq written earlier (sites f.below) q a) → Runs f k (push t.code (Ret q)) a)
      (λ e at g. body (same_Some r t at) inner g)
      (λ e at g. inner q t at f same known k a fa g)) at g
    where
      body : r ≡ t → AreSafe earlier → Ready f k (Ret q) (followed dom leq written (sites f.below) (λ m. followed_procedure dom leq written earlier (m ∷ sites f.below)) r.code a) → Runs f k (push t.code (Ret q)) a
      body e inner g =
          let le : r.layout ≡ f.layout = ap (λ (r : Routine). r.layout) e ∙ sym same in
          subst (λ (t : Routine). Runs f k (push t.code (Ret q)) a) e
          (block_safe f known earlier fb.1 (earlier_in program r earlier inp) inner r.code a
          (subst (λ l. FitsCode (reverse earlier) l r.code) le fb.0)
          (subst (λ l. AreOf program l r.code) le (are_of program checked places (length earlier) r (inp (length earlier) r (last_at r earlier))))
          fa k (Ret q) g)

  -- main's body, before its Ret
  pub main_safe : (r : Routine) (earlier : List Routine) → FitBack (r ∷ earlier) → InProgram program (r ∷ earlier) → (p : ℕ) (a s : S) (ss : List S) → dom.fits a (r.layout ∷ []) ≡ true → followed dom leq written [] (λ n. followed_procedure dom leq written earlier (n ∷ [])) r.code a ≡ Passes s ss → (k : ℕ) (h : Heap) (v : Variables) → IsProper h (v ∷ []) (r.layout ∷ []) → covers a h (v ∷ []) → IsSafe k (goes_on p [] h v (push r.code (Ret p)))
  main_safe r earlier fb inp p a s ss fa e k h v proper y =
      let f : Place = record { p = p; below = []; layout = r.layout; lower = [] } in
      let ends : Runs f k (Ret p) s = λ h v q z. safe_by k _ (λ n i. absurd (no_head_end (slice_get program p) n i)) (λ j i d t. absurd cc) in
      block_safe f refl earlier fb.1 (earlier_in program r earlier inp) (procedures_safe earlier fb.1 (earlier_in program r earlier inp)) r.code a fb.0
      (are_of program checked places (length earlier) r (inp (length earlier) r (last_at r earlier))) fa k (Ret p)
      (subst (Ready f k (Ret p)) (sym e) (ends, leaves_none f k ss)) h v proper y
