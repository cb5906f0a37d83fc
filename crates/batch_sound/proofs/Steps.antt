-- Each configuration of a run is good: its frames fit the values that batch interpretation has at their statements.
use Rattle.std.specs.Prelude.{◌≡◌, ◌<◌, ◌≤◌, ℕ, zero, suc, List, [], ◌∷◌, ◌++◌, length, reverse, slice_get, Option, Some, None, Bool, true, false}
use Rattle.std.proofs.Common.{refl, sym, ap, ◌∙◌, arith, subst}
use Rattle.imp_slots.specs.Plain.{Layout, Guard, Effect, Does, Invoke, Code, Stop, Simple, If, While, Call, Break, Routine}
use Rattle.imp_slots.specs.Fits.{fits_guard, fits_invoke, FitsCode}
use Rattle.concrete_sem.specs.Values.{Variables, Heap, Gives}
use Rattle.concrete_sem.specs.Evaluation.{truth_of}
use Rattle.concrete_sem.specs.Effects.{effect_of}
use Rattle.concrete_sem.specs.Passing.{pass, back}
use Rattle.concrete_sem.specs.Steps.{Work, Ret, Do, Done, Test, Frame, In, Config, Step, Next, Faulted, InputsUsedUp, Ended, push, leave_loop, chosen, goes_on, step_if_some, turn, returns_to, enters, step_frame, step_frames, step}
use Rattle.concrete_sem.specs.Reach.{after_step, after_steps}
use Rattle.concrete_sem.specs.Proper.{IsProper}
use Rattle.concrete_sem.specs.Keeping.{EffectsKeep, PassingKeeps, ReturnsKeep, LastAloneKeeps, StartKeeps}
use Rattle.imp_chains.specs.Thresholds.{thresholds}
use Rattle.imp_chains.specs.Claims.{ThresholdsRise}
use Rattle.domain_laws.specs.Operations.{Operations}
use Rattle.domain_laws.specs.Laws.{Laws}
use Rattle.batch_meaning.specs.Values.{Value, State, Over, lift, lift2}
use Rattle.batch_meaning.specs.Batch.{LoopOptions, Passed, head_of, batch, procedure, calls_of}
use Rattle.batch_meaning.specs.Places.{Spot, spots, from, main_layout, head_value}
use Rattle.batch_sound.proofs.Values.{Says, Fit, fit_post, fit_assume, fit_join, fit_enter, fit_leave, says_post, says_assume, says_enter, says_leave, Below, below_self, below_left, below_right, fix_is_head, EachBelow, each_left, each_right, each_over, fit_joined, joined_first, joined_each}
use Rattle.batch_meaning.proofs.Procedures.{look, look_get, look_from, from_look, look_below, length_from, from_behind, from_from, from_place, from_self, FitBack, fit_back_from, procedure_from}
use Rattle.base_values.proofs.Members.{Member, here, there, in_left, in_right}
use Rattle.batch_sound.proofs.Fitting.{callee, FitPassed, block_fit, procedure_fit}
use Rattle.std.proofs.lemmas.Option.{same_Some}
use Rattle.concrete_sem.proofs.Forms.{AtNext, at_next, next_of}

-- What steps keep, and that thresholds rise.
pub record Kept : Type 0 where
  pub effects : EffectsKeep
  pub calls : PassingKeeps
  pub returns : ReturnsKeep
  pub last_alone : LastAloneKeeps
  pub starts : StartKeeps
  pub rises : ThresholdsRise

-- A step that is taken.
record AtSome {A : Type 0} (o : Option A) (f : A → Step) (d : Config) : Type 0 where
  value : A
  was : o ≡ Some value
  gives : f value ≡ Next d

some_of : {A : Type 0} (o : Option A) (f : A → Step) (d : Config) → step_if_some o f ≡ Next d → AtSome o f d
some_of None f d e = absurd cc
some_of (Some a) f d e = record { value = a; was = refl; gives = e }

pub next_inj : (c d : Config) → Next c ≡ Next d → c ≡ d
next_inj c d e = cc

pub stepped : (s : Step) (f : Config → Option Config) (d : Config) → after_step s f ≡ Some d → (b : Config) × (s ≡ Next b) × (f b ≡ Some d)
stepped (Next b) f d e = (b, refl, e)
stepped (Faulted n k) f d e = absurd cc
stepped (InputsUsedUp n) f d e = absurd cc
stepped Ended f d e = absurd cc

-- A program, the procedures of which stand in `back` with the last one first.
module _ {S : Type 0} (dom : Operations S) (engine : LoopOptions) (covers : S → Heap → List Variables → Type 0) (laws : Laws dom covers) (keeps : Kept) (program back_list : List Routine) (same_list : (q : ℕ) → slice_get program q ≡ look back_list q) where
  abbrev pub Yes : Value S → Heap → List Variables → Type 0
  Yes = Says dom engine covers laws

  abbrev pub Fine : Value S → List Layout → Type 0
  Fine = Fit dom engine covers laws

  abbrev pub Under : List Layout → Value S → Value S → Type 0
  Under = Below dom engine covers laws

  pub self : (ps : List Layout) (v : Value S) → Under ps v v
  self = below_self dom engine covers laws

  abbrev pub Leave : List Layout → List (Value S) → Value S → Type 0
  Leave = EachBelow dom engine covers laws

  -- A frame: its chain, the layouts of the frames below it, the procedures before its own, its procedure, and the value in
  -- front of its body.
  pub record Place : Type 0 where
    pub z : List ℕ
    pub below : List Layout
    pub earlier : List Routine
    pub routine : Routine
    pub first : Value S

  abbrev pub before : Place → List Routine
  before a = reverse a.earlier

  abbrev pub layout : Place → Layout
  layout a = a.routine.layout

  abbrev pub layouts : Place → List Layout
  layouts a = a.routine.layout ∷ a.below

  abbrev pub B : Place → Code → Value S → Passed S
  B a = batch dom engine (thresholds engine.widening a.routine) a.z (calls_of dom engine a.earlier a.z)

  abbrev pub Spots : Place → Code → Value S → List (ℕ × Spot S)
  Spots a = spots dom engine (thresholds engine.widening a.routine) a.z (calls_of dom engine a.earlier a.z)

  -- The statement n of the procedure has these values.
  abbrev pub At : Place → ℕ → Spot S → Type 0
  At a n x = Member (n, x) (Spots a a.routine.code a.first)

  module _ (a : Place) where
    -- The statements of this block, from this value, are statements of the procedure.
    pub record Sub (c : Code) (v : Value S) : Type 0 where
      pub at : (x : ℕ × Spot S) → Member x (Spots a c v) → Member x (Spots a a.routine.code a.first)

    -- A block to be done from v: e is the value after the innermost loop, u the one after the block.
    pub record Block (c : Code) (v e u : Value S) : Type 0 where
      pub sub : Sub c v
      pub suits : FitsCode (reverse a.earlier) a.routine.layout c
      pub fine : Fine v (layouts a)
      pub leave : Leave (layouts a) (B a c v).leaving e
      pub behind : Under (layouts a) (B a c v).value u

    -- A loop at whose head the value is v, and after which it is e.
    pub record Loop (n : ℕ) (g : Guard) (b : Code) (v e : Value S) : Type 0 where
      pub spot : Spot S
      pub at : At a n spot
      pub head : head_value spot ≡ Some v
      pub after : spot.after ≡ e
      pub suits : fits_guard a.routine.layout g ≡ true
      pub fine : Fine v (layouts a)
      pub body : Block b (lift (dom.assume g true) v) e v
      pub exit : Under (layouts a) (lift (dom.assume g false) v) e

    -- What is left to do fits the value v before it.
    pub data Fits : Work → Value S → Value S → Type 0 where
      fits_ret : {p : ℕ} {v e : Value S} → p ≡ length a.earlier → Under (layouts a) v (B a a.routine.code a.first).value → Fits (Ret p) v e
      fits_done : {n : ℕ} {o : Option Invoke} {w : Work} {v u e : Value S} {x : Spot S} → At a n x → x.after ≡ v → Under (layouts a) v u → Fits w u e → Fits (Done n o w) v e
      fits_do : {c : Code} {w : Work} {v u e : Value S} → Block c v e u → Fits w u e → Fits (Do c w) v e
      fits_test : {n : ℕ} {g : Guard} {b : Code} {w : Work} {v u e d : Value S} → Loop n g b v e → Under (layouts a) e u → Fits w u d → Fits (Test n g b w) v e

    -- The same, for a value that v is under.
    pub record Ahead (w : Work) (v e : Value S) : Type 0 where
      pub value : Value S
      pub below : Under (layouts a) v value
      pub fits : Fits w value e

    pub ahead_push : (c : Code) (w : Work) (v u e : Value S) → Block c v e u → Fits w u e → Ahead (push c w) v e
    ahead_push Stop w v u e b f = record { value = u; below = b.behind; fits = f }
    ahead_push (Simple n x r) w v u e b f = record { value = v; below = self _ v; fits = fits_do b f }
    ahead_push (If n g t x r) w v u e b f = record { value = v; below = self _ v; fits = fits_do b f }
    ahead_push (While n g x r) w v u e b f = record { value = v; below = self _ v; fits = fits_do b f }
    ahead_push (Call n i q r) w v u e b f = record { value = v; below = self _ v; fits = fits_do b f }
    ahead_push (Break n r) w v u e b f = record { value = v; below = self _ v; fits = fits_do b f }

    -- After the innermost loop its Done fits.
    record Left (w : Work) (e : Value S) : Type 0 where
      outer : Value S
      fits : Fits w e outer

    left_loop : (w w1 : Work) (v e : Value S) → Fits w v e → leave_loop w ≡ Some w1 → Left w1 e
    left_loop (Ret p) w1 v e f k = absurd cc
    left_loop (Do c w) w1 v e (fits_do b f) k = left_loop w w1 _ e f k
    left_loop (Done n o w) w1 v e (fits_done at i b f) k = left_loop w w1 _ e f k
    left_loop (Test n g b w) w1 v e (fits_test {d = d} l bu f) k =
        subst (λ x. Left x e) (same_Some _ _ k) (record { outer = d; fits = fits_done l.at l.after bu f })

  -- The procedures that a frame sees are the program's.
  pub record Seen (ps : List Routine) : Type 0 where
    pub checked : FitBack ps
    pub same : (q : ℕ) → q < length ps → from back_list q ≡ from ps q
    pub long : length ps ≤ length back_list

  pub seen_behind : (b : Routine) (earlier : List Routine) (q : ℕ) → Seen (b ∷ earlier) → Seen (from earlier q)
  seen_behind b earlier q s = record {
    checked = fit_back_from earlier q s.checked.1;
    same = λ r h. let k : r < length earlier = omega (arith, h, length_from earlier q) in s.same r (omega arith) ∙ from_behind b earlier r k ∙ from_from earlier q r h;
    long = omega (arith, s.long, length_from earlier q);
  }

  abbrev pub Known : Place → Type 0
  Known a = Seen (a.routine ∷ a.earlier)

  -- a frame's procedure is where the program has it
  pub place_of : (a : Place) → Known a → slice_get program (length a.earlier) ≡ Some a.routine
  place_of a s =
      let h : length a.earlier < length (a.routine ∷ a.earlier) = omega arith in
      same_list (length a.earlier) ∙ look_from back_list (length a.earlier) a.routine a.earlier (s.same (length a.earlier) h ∙ from_self a.routine a.earlier)

  -- The frames below the last one: each stands at a call of what is above it, and its value there said yes to the
  -- configuration that made the call.
  pub data Stack : List Frame → List ℕ → List Layout → List Routine → Value S → List Variables → Type 0 where
    bottom : Stack [] [] [] back_list (State (dom.init (main_layout back_list))) []
    above : {below : List Frame} {c : Routine} {ps : List Routine} {a1 u e : Value S} {n q p : ℕ} {i : Invoke} {w : Work} {m m1 : Variables} {ms : List Variables} {h : Heap} (a : Place) →
        Known a →
        Stack below a.z a.below (a.routine ∷ a.earlier) a.first ms →
        (x : Spot S) → At a n x → x.call ≡ Some (i, q) → from a.earlier q ≡ c ∷ ps → a1 ≡ lift (dom.enter i.entering) x.before →
        c.layout ≡ i.entering.layout → fits_invoke a.routine.layout i ≡ true → Fine x.before (layouts a) →
        Fits a (Done n (Some i) w) u e →
        Under (layouts a) (lift2 (dom.leave i.returning) x.before (procedure dom engine a.earlier (n ∷ a.z) q a1)) u →
        pass i.entering m ≡ Gives m1 → IsProper h (m ∷ ms) (layouts a) → Yes x.before h (m ∷ ms) →
        Stack (In p m (Done n (Some i) w) ∷ below) (n ∷ a.z) (layouts a) (c ∷ ps) a1 (m ∷ ms)

  abbrev pub Stands : Place → List Frame → List Variables → Type 0
  Stands a below ms = Stack below a.z a.below (a.routine ∷ a.earlier) a.first ms

  -- The last frame fits, and the value before its work says yes.
  pub data Good (h : Heap) : List Frame → Type 0 where
    good : {below : List Frame} {v e : Value S} {p : ℕ} {m : Variables} {w : Work} {ms : List Variables} (a : Place) →
        Known a → Stands a below ms → IsProper h (m ∷ ms) (layouts a) → Fits a w v e → Yes v h (m ∷ ms) → Good h (In p m w ∷ below)

  abbrev pub IsGood : Config → Type 0
  IsGood c = Good c.heap c.frames

  now : (c d : Config) → Next c ≡ Next d → IsGood c → IsGood d
  now c d e g = subst IsGood (next_inj c d e) g

  -- what is after a call's body fits
  pub behind_body : (a : Place) → Known a → (n : ℕ) (i : Invoke) (q : ℕ) (c : Routine) (v : Value S) → look a.earlier q ≡ Some c → c.layout ≡ i.entering.layout → Fine v (i.entering.layout ∷ layouts a) → Fine (procedure dom engine a.earlier (n ∷ a.z) q v) (i.entering.layout ∷ layouts a)
  behind_body a known n i q c v e l f =
      subst (λ k. Fine (procedure dom engine a.earlier (n ∷ a.z) q v) (k ∷ layouts a)) l
      (procedure_fit dom engine covers laws keeps.rises a.earlier (n ∷ a.z) q c (layouts a) v e known.checked.1 (subst (λ k. Fine v (k ∷ layouts a)) (sym l) f))

  -- One step of a frame.
  module _ (a : Place) (below : List Frame) (ms : List Variables) (known : Known a) (stack : Stands a below ms) (p : ℕ) (h : Heap) (m : Variables) (r : IsProper h (m ∷ ms) (layouts a)) where
    good_ahead : (w : Work) (v e : Value S) → Ahead a w v e → Yes v h (m ∷ ms) → Good h (In p m w ∷ below)
    good_ahead w v e x y = good a known stack r x.fits (x.below.says h (m ∷ ms) r y)

    -- Done is before what is ahead
    fits_behind : (n : ℕ) (o : Option Invoke) (c : Code) (w : Work) (v u e : Value S) (x : Spot S) → At a n x → x.after ≡ v → Block a c v e u → Fits a w u e → Fits a (Done n o (push c w)) v e
    fits_behind n o c w v u e x at i b f = let k = ahead_push a c w v u e b f in fits_done at i k.below k.fits

    step_test : (n : ℕ) (g : Guard) (b : Code) (w : Work) (v u e d : Value S) → Loop a n g b v e → Under (layouts a) e u → Fits a w u d → Yes v h (m ∷ ms) → (t : Bool) → truth_of m g ≡ Gives t → IsGood (turn p below h m n g b w t)
    step_test n g b w v u e d l bu f y true k =
        good_ahead _ _ e (ahead_push a b (Test n g b w) _ v e l.body (fits_test l bu f)) (says_assume dom engine covers laws g true a.routine.layout a.below v h m ms l.suits l.fine r k y)
    step_test n g b w v u e d l bu f y false k =
        good a known stack r (fits_done l.at l.after bu f) (l.exit.says h (m ∷ ms) r (says_assume dom engine covers laws g false a.routine.layout a.below v h m ms l.suits l.fine r k y))

    sub_rest : {c d : Code} {v x : Value S} → Sub a c v → ((y : ℕ × Spot S) → Member y (Spots a d x) → Member y (Spots a c v)) → Sub a d x
    sub_rest s f = record { at = λ y k. s.at y (f y k) }

    fit_block : (c : Code) (v : Value S) → FitsCode (reverse a.earlier) a.routine.layout c → Fine v (layouts a) → FitPassed dom engine covers laws (layouts a) (B a c v)
    fit_block =
        block_fit dom engine covers laws (thresholds engine.widening a.routine) (keeps.rises engine.widening (reverse a.earlier) a.routine known.checked.0) a.z (calls_of dom engine a.earlier a.z) (reverse a.earlier) a.routine.layout a.below
        (λ n q c v g f. procedure_fit dom engine covers laws keeps.rises a.earlier (n ∷ a.z) q c (layouts a) v (look_get a.earlier q ∙ g) known.checked.1 f)

    step_simple : (n : ℕ) (x : Effect) (c : Code) (w : Work) (v u e : Value S) → Block a (Simple n x c) v e u → Fits a w u e → Yes v h (m ∷ ms) → (t : Heap × Variables) → effect_of x h m ≡ Gives t → IsGood (goes_on p below t.0 t.1 (Done n None (push c w)))
    step_simple n x c w v u e b f y t k =
        let g = fit_post dom engine covers laws (Does x) a.routine.layout a.below v b.suits.0 b.fine in
        good a known stack (keeps.effects x a.routine.layout a.below h m ms t b.suits.0 k r)
        (fits_behind n None c w _ u e _ (b.sub.at _ here) refl (record { sub = sub_rest b.sub (λ y. there); suits = b.suits.1; fine = g; leave = b.leave; behind = b.behind }) f)
        (says_post dom engine covers laws x a.routine.layout a.below v h m ms t b.suits.0 b.fine r k y)

    step_if : (n : ℕ) (g : Guard) (c d z : Code) (w : Work) (v u e : Value S) → Block a (If n g c d z) v e u → Fits a w u e → Yes v h (m ∷ ms) → (t : Bool) → truth_of m g ≡ Gives t → IsGood (goes_on p below h m (push (chosen t c d) (Done n None (push z w))))
    step_if n g c d z w v u e b f y t k = by t k
      where
        fc : FitPassed dom engine covers laws (layouts a) (B a c (lift (dom.assume g true) v))
        fc = fit_block c _ b.suits.1 (fit_assume dom engine covers laws g true a.routine.layout a.below v b.suits.0 b.fine)

        fd : FitPassed dom engine covers laws (layouts a) (B a d (lift (dom.assume g false) v))
        fd = fit_block d _ b.suits.2 (fit_assume dom engine covers laws g false a.routine.layout a.below v b.suits.0 b.fine)

        both : Leave (layouts a) ((B a c (lift (dom.assume g true) v)).leaving ++ (B a d (lift (dom.assume g false) v)).leaving) e
        both = each_left dom engine covers laws (layouts a) _ _ e b.leave

        rest : Fits a (Done n None (push z w)) (lift2 dom.join (B a c (lift (dom.assume g true) v)).value (B a d (lift (dom.assume g false) v)).value) e
        rest =
            fits_behind n None z w _ u e _ (b.sub.at _ here) refl
            (record {
              sub = sub_rest b.sub (λ y k. there (in_right (Spots a c (lift (dom.assume g true) v)) (in_right (Spots a d (lift (dom.assume g false) v)) k)));
              suits = b.suits.3;
              fine = fit_join dom engine covers laws (layouts a) _ _ fc.value fd.value;
              leave = each_right dom engine covers laws (layouts a) ((B a c (lift (dom.assume g true) v)).leaving ++ (B a d (lift (dom.assume g false) v)).leaving) _ e b.leave;
              behind = b.behind;
            }) f

        by : (t : Bool) → truth_of m g ≡ Gives t → IsGood (goes_on p below h m (push (chosen t c d) (Done n None (push z w))))
        by true k =
            good_ahead _ _ e
            (ahead_push a c _ _ _ e
            (record {
              sub = sub_rest b.sub (λ y k. there (in_left _ k));
              suits = b.suits.1;
              fine = fit_assume dom engine covers laws g true a.routine.layout a.below v b.suits.0 b.fine;
              leave = each_left dom engine covers laws (layouts a) _ _ e both;
              behind = below_left dom engine covers laws (layouts a) _ _ fc.value fd.value;
            }) rest)
            (says_assume dom engine covers laws g true a.routine.layout a.below v h m ms b.suits.0 b.fine r k y)
        by false k =
            good_ahead _ _ e
            (ahead_push a d _ _ _ e
            (record {
              sub = sub_rest b.sub (λ y k. there (in_right (Spots a c (lift (dom.assume g true) v)) (in_left _ k)));
              suits = b.suits.2;
              fine = fit_assume dom engine covers laws g false a.routine.layout a.below v b.suits.0 b.fine;
              leave = each_right dom engine covers laws (layouts a) (B a c (lift (dom.assume g true) v)).leaving _ e both;
              behind = below_right dom engine covers laws (layouts a) _ _ fc.value fd.value;
            }) rest)
            (says_assume dom engine covers laws g false a.routine.layout a.below v h m ms b.suits.0 b.fine r k y)

    step_while : (n : ℕ) (g : Guard) (c z : Code) (w : Work) (v u e : Value S) → Block a (While n g c z) v e u → Fits a w u e → Yes v h (m ∷ ms) → IsGood (goes_on p below h m (Test n g c (push z w)))
    step_while n g c z w v u e b f y =
        let top = (head_of dom engine (thresholds engine.widening a.routine) a.z n g (B a c) v).value in
        let fit_in = λ (v : Value S) (k : Fine v (layouts a)). fit_block c (lift (dom.assume g true) v) b.suits.1 (fit_assume dom engine covers laws g true a.routine.layout a.below v b.suits.0 k) in
        let hd = fix_is_head dom engine covers laws (layouts a) (thresholds engine.widening a.routine) (keeps.rises engine.widening (reverse a.earlier) a.routine known.checked.0) (λ v. (B a c (lift (dom.assume g true) v)).value) n a.z v (λ v k. (fit_in v k).value) b.fine in
        let inner = lift (dom.assume g true) top in
        let out = lift (dom.assume g false) top in
        let fi = fit_in top hd.fit in
        let fo = fit_assume dom engine covers laws g false a.routine.layout a.below top b.suits.0 hd.fit in
        let k = ahead_push a z w _ u e (record { sub = sub_rest b.sub (λ y k. there (in_right (Spots a c inner) k)); suits = b.suits.2; fine = fit_joined dom engine covers laws (layouts a) out (B a c inner).leaving fo fi.leaving; leave = b.leave; behind = b.behind }) f in
        good a known stack r
        (fits_test
        (record {
          spot = _;
          at = b.sub.at _ here;
          head = refl;
          after = refl;
          suits = b.suits.0;
          fine = hd.fit;
          body = record { sub = sub_rest b.sub (λ y k. there (in_left _ k)); suits = b.suits.1; fine = fit_assume dom engine covers laws g true a.routine.layout a.below top b.suits.0 hd.fit; leave = joined_each dom engine covers laws (layouts a) out (B a c inner).leaving fo fi.leaving; behind = hd.again };
          exit = joined_first dom engine covers laws (layouts a) out (B a c inner).leaving fo fi.leaving;
        })
        k.below k.fits)
        (hd.first.says h (m ∷ ms) r y)

    step_break : (n : ℕ) (c : Code) (w w1 : Work) (v u e : Value S) → Block a (Break n c) v e u → Fits a w u e → Yes v h (m ∷ ms) → leave_loop w ≡ Some w1 → IsGood (goes_on p below h m w1)
    step_break n c w w1 v u e b f y k =
        good a known stack r (left_loop a w w1 u e f k).fits (b.leave.0.says h (m ∷ ms) r y)

    step_call : (n : ℕ) (i : Invoke) (q : ℕ) (c : Code) (w : Work) (v u e : Value S) → Block a (Call n i q c) v e u → Fits a w u e → Yes v h (m ∷ ms) → (m1 : Variables) → pass i.entering m ≡ Gives m1 → (t : Routine) → slice_get program q ≡ Some t → IsGood (enters q (In p m (Done n (Some i) (push c w)) ∷ below) h m1 t)
    step_call n i q c w v u e b f y m1 k t g =
        let o = callee (reverse a.earlier) a.routine.layout i q b.suits.0 in
        let at : look a.earlier q ≡ Some o.routine = look_get a.earlier q ∙ o.at in
        let lt : q < length a.earlier = look_below a.earlier q o.routine at in
        let fl = from_look a.earlier q o.routine at in
        let all : from back_list q ≡ o.routine ∷ fl.0 = known.same q (omega arith) ∙ from_behind a.routine a.earlier q lt ∙ fl.1 in
        let same : t ≡ o.routine = same_Some _ _ (sym g ∙ same_list q ∙ look_from back_list q o.routine fl.0 all) in
        let place = from_place a.earlier q o.routine fl.0 fl.1 in
        let v1 = lift (dom.enter i.entering) v in
        let fine1 = fit_enter dom engine covers laws i a.routine.layout a.below v o.fits b.fine in
        let fine2 = fit_leave dom engine covers laws i a.routine.layout a.below v _ o.fits b.fine (behind_body a known n i q o.routine v1 at o.layout fine1) in
        let a1 : Place = record { z = n ∷ a.z; below = layouts a; earlier = fl.0; routine = o.routine; first = v1 } in
        let fine3 = subst (λ l. Fine v1 (l ∷ layouts a)) (sym o.layout) fine1 in
        let r0 = keeps.calls i a.routine.layout a.below h m m1 ms o.fits k r in
        let r1 = subst (λ l. IsProper h (m1 ∷ m ∷ ms) (l ∷ layouts a)) (sym o.layout) r0 in
        let rest = fits_behind n (Some i) c w _ u e _ (b.sub.at _ here) refl (record { sub = sub_rest b.sub (λ y. there); suits = b.suits.1; fine = fine2; leave = b.leave; behind = b.behind }) f in
        let up = above {p = p} a known stack _ (b.sub.at _ here) refl fl.1 refl o.layout o.fits b.fine rest (self (layouts a) _) k r y in
        let seen : Known a1 = subst Seen fl.1 (seen_behind a.routine a.earlier q known) in
        let in_body = ahead_push a1 o.routine.code (Ret q) v1 _ (Over 0 []) (record { sub = record { at = λ y p. p }; suits = seen.checked.0; fine = fine3; leave = each_over dom engine covers laws (layouts a1) _ 0 []; behind = self (layouts a1) _ }) (fits_ret place (self (layouts a1) _)) in
        subst (λ (t : Routine). IsGood (enters q (In p m (Done n (Some i) (push c w)) ∷ below) h m1 t)) (sym same)
        (good a1 seen up r1 in_body.fits
        (in_body.below.says h (m1 ∷ m ∷ ms) r1
        (says_enter dom engine covers laws i a.routine.layout a.below v h m m1 ms o.fits b.fine r k y)))

  step_ret : (below : List Frame) (z : List ℕ) (ps : List Layout) (list : List Routine) (first : Value S) (ms : List Variables) → Stack below z ps list first ms → (earlier : List Routine) (t : Routine) → list ≡ t ∷ earlier → (h : Heap) (m : Variables) (v : Value S) → IsProper h (m ∷ ms) (t.layout ∷ ps) → Under (t.layout ∷ ps) v (batch dom engine (thresholds engine.widening t) z (calls_of dom engine earlier z) t.code first).value → Yes v h (m ∷ ms) → (c : Config) → returns_to h m below ≡ Next c → IsGood c
  step_ret below z ps list first ms bottom earlier t ep h m v r b y c g = absurd cc
  step_ret below z ps list first ms (above {c = o} {ps = os} {u = u} {n = n} {q = q} {i = i} {m = m0} {ms = ms0} {h = h0} a known stack x at ic fr ea lay suits fine f bu k r0 y0) earlier t ep h m v r b y c g =
      let same : o ≡ t = cc in
      let fr2 : from a.earlier q ≡ t ∷ earlier = fr ∙ ep in
      let d = procedure dom engine a.earlier (n ∷ a.z) q first in
      let fine1 = subst (λ v. Fine v (i.entering.layout ∷ layouts a)) (sym ea) (fit_enter dom engine covers laws i a.routine.layout a.below x.before suits fine) in
      let fine2 = behind_body a known n i q o first (look_from a.earlier q o os fr) lay fine1 in
      let tl : t.layout ≡ i.entering.layout = ap (λ (t : Routine). t.layout) (sym same) ∙ lay in
      let r1 = subst (λ l. IsProper h (m ∷ m0 ∷ ms0) (l ∷ layouts a)) tl r in
      let inside : Yes d h (m ∷ m0 ∷ ms0) = subst (λ x. Yes x h (m ∷ m0 ∷ ms0)) (sym (procedure_from dom engine a.earlier (n ∷ a.z) q first t earlier fr2)) (b.says h (m ∷ m0 ∷ ms0) r y) in
      let said = says_leave dom engine covers laws i a.routine.layout a.below x.before d h0 h m0 _ m ms0 suits fine fine2 r0 r1 k y0 inside in
      let r2 = keeps.returns i a.routine.layout a.below h m0 m ms0 suits r1 in
      now _ c g (good a known stack r2 f (bu.says h (back i.returning m0 m ∷ ms0) r2 said))

  step_of : (a : Place) (below : List Frame) (ms : List Variables) → Known a → Stands a below ms → (p : ℕ) (h : Heap) (m : Variables) → IsProper h (m ∷ ms) (layouts a) → (w : Work) (v e : Value S) → Fits a w v e → Yes v h (m ∷ ms) → (c : Config) → step_frame program p below h m w ≡ Next c → IsGood c
  step_of a below ms known stack p h m r (Ret q) v e (fits_ret i b) y c g = step_ret below a.z a.below (a.routine ∷ a.earlier) a.first ms stack a.earlier a.routine refl h m v r b y c g
  step_of a below ms known stack p h m r (Done n o w) v e (fits_done at i b f) y c g = now _ c g (good a known stack r f (b.says h (m ∷ ms) r y))
  step_of a below ms known stack p h m r (Test n x b w) v e (fits_test {e = e1} l bu f) y c g = by (next_of n (truth_of m x) (λ t. Next (turn p below h m n x b w t)) c g)
    where
      by : AtNext (truth_of m x) (λ t. Next (turn p below h m n x b w t)) c → IsGood c
      by (at_next t o k) = now _ c k (step_test a below ms known stack p h m r n x b w v _ _ _ l bu f y t o)
  step_of a below ms known stack p h m r (Do Stop w) v e f y c g = absurd cc
  step_of a below ms known stack p h m r (Do (Simple n x d) w) v e (fits_do b f) y c g = by (next_of n (effect_of x h m) (λ t. Next (goes_on p below t.0 t.1 (Done n None (push d w)))) c g)
    where
      by : AtNext (effect_of x h m) (λ t. Next (goes_on p below t.0 t.1 (Done n None (push d w)))) c → IsGood c
      by (at_next t o k) = now _ c k (step_simple a below ms known stack p h m r n x d w v _ e b f y t o)
  step_of a below ms known stack p h m r (Do (If n x s t d) w) v e (fits_do b f) y c g = by (next_of n (truth_of m x) (λ b. Next (goes_on p below h m (push (chosen b s t) (Done n None (push d w))))) c g)
    where
      by : AtNext (truth_of m x) (λ b. Next (goes_on p below h m (push (chosen b s t) (Done n None (push d w))))) c → IsGood c
      by (at_next z o k) = now _ c k (step_if a below ms known stack p h m r n x s t d w v _ e b f y z o)
  step_of a below ms known stack p h m r (Do (While n x s d) w) v e (fits_do b f) y c g = now _ c g (step_while a below ms known stack p h m r n x s d w v _ e b f y)
  step_of a below ms known stack p h m r (Do (Call n i q d) w) v e (fits_do b f) y c g = by (next_of n (pass i.entering m) (λ u. step_if_some (slice_get program q) (λ t. Next (enters q (In p m (Done n (Some i) (push d w)) ∷ below) h u t))) c g)
    where
      by : AtNext (pass i.entering m) (λ u. step_if_some (slice_get program q) (λ t. Next (enters q (In p m (Done n (Some i) (push d w)) ∷ below) h u t))) c → IsGood c
      by (at_next u o k) =
          let s = some_of (slice_get program q) (λ t. Next (enters q (In p m (Done n (Some i) (push d w)) ∷ below) h u t)) c k in
          now _ c s.gives (step_call a below ms known stack p h m r n i q d w v _ e b f y u o s.value s.was)
  step_of a below ms known stack p h m r (Do (Break n d) w) v e (fits_do b f) y c g =
      let s = some_of (leave_loop w) (λ u. Next (goes_on p below h m u)) c g in
      now _ c s.gives (step_break a below ms known stack p h m r n d w s.value v _ e b f y s.was)

  step_good : (h : Heap) (fs : List Frame) → Good h fs → (c : Config) → step_frames program h fs ≡ Next c → IsGood c
  step_good h fs (good {below = below} {v = v} {e = e} {p = p} {m = m} {w = w} {ms = ms} a known stack r f y) c g = step_of a below ms known stack p h m r w v e f y c g

  pub run_good : (k : ℕ) (c d : Config) → IsGood c → after_steps program k c ≡ Some d → IsGood d
  run_good zero c d i g = subst IsGood (same_Some c d g) i
  run_good (suc k) c d i g =
      let s = stepped (step program c) (after_steps program k) d g in run_good k s.0 d (step_good c.heap c.frames i s.0 s.1) s.2
