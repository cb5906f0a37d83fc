-- Blocks and procedures keep values that fit.
use Rattle.std.specs.Prelude.{◌≡◌, ℕ, ℤ, List, [], ◌∷◌, length, reverse, slice_get, Option, Some, None, true, false, if◌then◌else◌}
use Rattle.std.proofs.Common.{refl, sym, ◌∙◌, subst, ap}
use Rattle.imp_slots.specs.Plain.{Layout, DoBreak, Does, Invoke, Code, Stop, Simple, If, While, Call, Break, Routine}
use Rattle.imp_slots.specs.Fits.{fits_invoke, FitsCall, FitsCode}
use Rattle.concrete_sem.specs.Values.{Variables, Heap}
use Rattle.imp_chains.specs.Thresholds.{thresholds, IsRising}
use Rattle.imp_chains.specs.Claims.{ThresholdsRise}
use Rattle.domain_laws.specs.Operations.{Operations}
use Rattle.domain_laws.specs.Laws.{Laws}
use Rattle.batch_meaning.specs.Values.{Value, lift, lift2}
use Rattle.batch_meaning.specs.Batch.{LoopOptions, Passed, head_of, batch, procedure, calls_of}
use Rattle.batch_meaning.specs.Places.{Spot, spot, spots, head_value, from}
use Rattle.batch_sound.proofs.Values.{Fit, fit_post, fit_assume, fit_join, fit_enter, fit_leave, fix_is_head, EachFit, fit_both, fit_joined}
use Rattle.base_values.proofs.Cases.{by_test}
use Rattle.batch_meaning.proofs.Procedures.{look, look_get, FitBack, look_from}
use Rattle.base_values.proofs.Members.{Each, each_more, each_both, none_there}
use Rattle.std.proofs.lemmas.Option.{same_Some}

-- The callee of a call that fits.
pub record Callee (before : List Routine) (l : Layout) (i : Invoke) (q : ℕ) : Type 0 where
  pub routine : Routine
  pub at : slice_get before q ≡ Some routine
  pub layout : routine.layout ≡ i.entering.layout
  pub fits : fits_invoke l i ≡ true

callee_in : (before : List Routine) (l : Layout) (i : Invoke) (q : ℕ) (o : Option Routine) → slice_get before q ≡ o → FitsCall l i o → Callee before l i q
callee_in before l i q None e f = absurd f
callee_in before l i q (Some r) e f = record { routine = r; at = e; layout = f.0; fits = f.1 }

pub callee : (before : List Routine) (l : Layout) (i : Invoke) (q : ℕ) → FitsCall l i (slice_get before q) → Callee before l i q
callee before l i q f = callee_in before l i q (slice_get before q) refl f

module _ {S : Type 0} (dom : Operations S) (engine : LoopOptions) (covers : S → Heap → List Variables → Type 0) (laws : Laws dom covers) where
  abbrev Good : Value S → List Layout → Type 0
  Good = Fit dom engine covers laws

  -- What a block gives fits.
  pub record FitPassed (ls : List Layout) (r : Passed S) : Type 0 where
    pub value : Fit dom engine covers laws r.value ls
    pub leaving : EachFit dom engine covers laws ls r.leaving

  -- what a call hands over fits a frame of the routine that it comes to
  pub entered_fit : (earlier : List Routine) (l : Layout) (ls : List Layout) (i : Invoke) (q : ℕ) (a : Value S) → FitsCall l i (slice_get (reverse earlier) q) → Fit dom engine covers laws a (l ∷ ls) → (r : Routine) (rest : List Routine) → from earlier q ≡ r ∷ rest → Fit dom engine covers laws (lift (dom.enter i.entering) a) (r.layout ∷ l ∷ ls)
  entered_fit earlier l ls i q a s f r rest e =
      let c = callee (reverse earlier) l i q s in
      let same : c.routine ≡ r = same_Some _ _ (sym c.at ∙ sym (look_get earlier q) ∙ look_from earlier q r rest e) in
      subst (λ k. Good (lift (dom.enter i.entering) a) (k ∷ l ∷ ls)) (sym c.layout ∙ ap (λ (r : Routine). r.layout) same) (fit_enter dom engine covers laws i l ls a c.fits f)

  module _ (thresholds : List ℤ) (rising : IsRising thresholds) (z : List ℕ) (calls : ℕ → ℕ → Value S → Value S) (before : List Routine) (l : Layout) (ls : List Layout)
      (keep : (n q : ℕ) (c : Routine) (v : Value S) → slice_get before q ≡ Some c → Fit dom engine covers laws v (c.layout ∷ l ∷ ls) → Fit dom engine covers laws (calls n q v) (c.layout ∷ l ∷ ls)) where
    pub call_fit : (n : ℕ) (i : Invoke) (q : ℕ) (a : Value S) → FitsCall l i (slice_get before q) → Fit dom engine covers laws a (l ∷ ls) → Fit dom engine covers laws (calls n q (lift (dom.enter i.entering) a)) (i.entering.layout ∷ l ∷ ls)
    call_fit n i q a s f =
        let c = callee before l i q s in
        let v = lift (dom.enter i.entering) a in
        let e = fit_enter dom engine covers laws i l ls a c.fits f in
        subst (λ k. Good (calls n q v) (k ∷ l ∷ ls)) c.layout (keep n q c.routine v c.at (subst (λ k. Good v (k ∷ l ∷ ls)) (sym c.layout) e))

    pub behind_call : (n : ℕ) (i : Invoke) (q : ℕ) (a : Value S) → FitsCall l i (slice_get before q) → Fit dom engine covers laws a (l ∷ ls) → Fit dom engine covers laws (lift2 (dom.leave i.returning) a (calls n q (lift (dom.enter i.entering) a))) (l ∷ ls)
    behind_call n i q a s f = fit_leave dom engine covers laws i l ls a _ (callee before l i q s).fits f (call_fit n i q a s f)

    pub block_fit : (c : Code) (a : Value S) → FitsCode before l c → Fit dom engine covers laws a (l ∷ ls) → FitPassed (l ∷ ls) (batch dom engine thresholds z calls c a)
    block_fit Stop a s f = record { value = f; leaving = tt }
    block_fit (Simple n e r) a s f = block_fit r _ s.1 (fit_post dom engine covers laws (Does e) l ls a s.0 f)
    block_fit (If n g t e r) a s f =
        let x = block_fit t _ s.1 (fit_assume dom engine covers laws g true l ls a s.0 f) in
        let y = block_fit e _ s.2 (fit_assume dom engine covers laws g false l ls a s.0 f) in
        let w = block_fit r _ s.3 (fit_join dom engine covers laws (l ∷ ls) _ _ x.value y.value) in
        record { value = w.value; leaving = fit_both dom engine covers laws (l ∷ ls) _ _ (fit_both dom engine covers laws (l ∷ ls) _ _ x.leaving y.leaving) w.leaving }
    block_fit (While n g b r) a s f =
        let inner = λ (v : Value S) (k : Fit dom engine covers laws v (l ∷ ls)). block_fit b (lift (dom.assume g true) v) s.1 (fit_assume dom engine covers laws g true l ls v s.0 k) in
        let h = fix_is_head dom engine covers laws (l ∷ ls) thresholds rising (λ v. (batch dom engine thresholds z calls b (lift (dom.assume g true) v)).value) n z a (λ v k. (inner v k).value) f in
        let top = (head_of dom engine thresholds z n g (batch dom engine thresholds z calls b) a).value in
        block_fit r _ s.2 (fit_joined dom engine covers laws (l ∷ ls) _ (batch dom engine thresholds z calls b (lift (dom.assume g true) top)).leaving (fit_assume dom engine covers laws g false l ls top s.0 h.fit) (inner _ h.fit).leaving)
    block_fit (Call n i q r) a s f = block_fit r _ s.1 (behind_call n i q a s.0 f)
    block_fit (Break n r) a s f =
        let w = block_fit r _ s (fit_post dom engine covers laws DoBreak l ls a refl f) in record { value = w.value; leaving = (f, w.leaving) }

    -- what stands at a statement fits
    pub record SpotFit (x : ℕ × Spot S) : Type 0 where
      pub before_fit : Fit dom engine covers laws x.1.before (l ∷ ls)
      pub head_fit : (v : Value S) → head_value x.1 ≡ Some v → Fit dom engine covers laws v (l ∷ ls)
      pub after_fit : Fit dom engine covers laws x.1.after (l ∷ ls)
      pub call : (q : Invoke × ℕ) → x.1.call ≡ Some q → FitsCall l q.0 (slice_get before q.1)

    plain : (n : ℕ) (v w : Value S) → Good v (l ∷ ls) → Good w (l ∷ ls) → SpotFit (n, spot v None w None)
    plain n v w f g = record { before_fit = f; head_fit = λ x e. absurd cc; after_fit = g; call = λ q e. absurd cc }

    pub spots_fit : (c : Code) (a : Value S) → FitsCode before l c → Fit dom engine covers laws a (l ∷ ls) → Each SpotFit (spots dom engine thresholds z calls c a)
    spots_fit Stop a s f = none_there SpotFit
    spots_fit (Simple n e r) a s f =
        let k = fit_post dom engine covers laws (Does e) l ls a s.0 f in each_more SpotFit _ _ (plain n a _ f k) (spots_fit r _ s.1 k)
    spots_fit (If n g t e r) a s f =
        let ft = fit_assume dom engine covers laws g true l ls a s.0 f in
        let fe = fit_assume dom engine covers laws g false l ls a s.0 f in
        let k = fit_join dom engine covers laws (l ∷ ls) _ _ (block_fit t _ s.1 ft).value (block_fit e _ s.2 fe).value in
        each_more SpotFit _ _ (plain n a _ f k) (each_both SpotFit _ _ (spots_fit t _ s.1 ft) (each_both SpotFit _ _ (spots_fit e _ s.2 fe) (spots_fit r _ s.3 k)))
    spots_fit (While n g b r) a s f =
        let inner = λ (v : Value S) (k : Fit dom engine covers laws v (l ∷ ls)). block_fit b (lift (dom.assume g true) v) s.1 (fit_assume dom engine covers laws g true l ls v s.0 k) in
        let h = fix_is_head dom engine covers laws (l ∷ ls) thresholds rising (λ v. (batch dom engine thresholds z calls b (lift (dom.assume g true) v)).value) n z a (λ v k. (inner v k).value) f in
        let top = (head_of dom engine thresholds z n g (batch dom engine thresholds z calls b) a).value in
        let fi = fit_assume dom engine covers laws g true l ls top s.0 h.fit in
        let k = fit_joined dom engine covers laws (l ∷ ls) _ (batch dom engine thresholds z calls b (lift (dom.assume g true) top)).leaving (fit_assume dom engine covers laws g false l ls top s.0 h.fit) (inner top h.fit).leaving in
        each_more SpotFit _ _ (record { before_fit = f; head_fit = λ v e. subst (λ v. Good v (l ∷ ls)) (same_Some _ _ e) h.fit; after_fit = k; call = λ q e. absurd cc })
        (each_both SpotFit _ _ (spots_fit b _ s.1 fi) (spots_fit r _ s.2 k))
    spots_fit (Call n i q r) a s f =
        let k = behind_call n i q a s.0 f in
        each_more SpotFit _ _ (record { before_fit = f; head_fit = λ x e. absurd cc; after_fit = k; call = λ p e. subst (λ (p : Invoke × ℕ). FitsCall l p.0 (slice_get before p.1)) (same_Some _ _ e) s.0 }) (spots_fit r _ s.1 k)
    spots_fit (Break n r) a s f =
        let k = fit_post dom engine covers laws DoBreak l ls a refl f in each_more SpotFit _ _ (plain n a _ f k) (spots_fit r _ s k)

  module _ (rises : ThresholdsRise) where
    pub procedure_fit : (procs : List Routine) (z : List ℕ) (q : ℕ) (c : Routine) (ls : List Layout) (a : Value S) → look procs q ≡ Some c → FitBack procs → Fit dom engine covers laws a (c.layout ∷ ls) → Fit dom engine covers laws (procedure dom engine procs z q a) (c.layout ∷ ls)
    procedure_fit [] z q c ls a e k f = f
    procedure_fit (r ∷ earlier) z q c ls a e k f =
        (by_test q (length earlier) (λ t. (if t then Some r else look earlier q) ≡ Some c → Good (if t then (batch dom engine (thresholds engine.widening r) z (calls_of dom engine earlier z) r.code a).value else procedure dom engine earlier z q a) (c.layout ∷ ls))
        (λ i e.
        let same : r ≡ c = same_Some r c e in
        subst (λ (c : Routine). Good (batch dom engine (thresholds engine.widening r) z (calls_of dom engine earlier z) r.code a).value (c.layout ∷ ls)) same
        (block_fit (thresholds engine.widening r) (rises engine.widening (reverse earlier) r k.0) z (calls_of dom engine earlier z) (reverse earlier) r.layout ls
        (λ n q c v g h. procedure_fit earlier (n ∷ z) q c (r.layout ∷ ls) v (look_get earlier q ∙ g) k.1 h) r.code a k.0
        (subst (λ (c : Routine). Good a (c.layout ∷ ls)) (sym same) f)).value)
        (λ i e. procedure_fit earlier z q c ls a e k.1 f)) e
