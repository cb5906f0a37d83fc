-- Blocks and procedures of which no loop uses up its budget.
use Rattle.std.specs.Prelude.{◌≡◌, ℕ, ℤ, List, [], ◌∷◌, length, reverse, slice_get, Option, Some, None, true, false, if◌then◌else◌}
use Rattle.std.proofs.Common.{refl, sym, ◌∙◌, subst}
use Rattle.imp_slots.specs.Plain.{Layout, DoBreak, Does, Invoke, Code, Stop, Simple, If, While, Call, Break, Routine}
use Rattle.imp_slots.specs.Fits.{FitsCall, FitsCode}
use Rattle.concrete_sem.specs.Values.{Variables, Heap}
use Rattle.imp_chains.specs.Thresholds.{thresholds, IsRising}
use Rattle.imp_chains.specs.Claims.{ThresholdsRise}
use Rattle.domain_laws.specs.Operations.{Operations}
use Rattle.domain_laws.specs.Laws.{Laws}
use Rattle.batch_meaning.specs.Values.{Value, Over, lift, lift2}
use Rattle.batch_meaning.specs.Batch.{LoopOptions, Passed, head_of, batch, procedure, calls_of}
use Rattle.batch_meaning.specs.Places.{Spot, spot, spots, head_value}
use Rattle.batch_sound.proofs.Values.{Fit, fit_post, fit_assume, fit_join, fit_enter, fix_is_head, fit_joined}
use Rattle.base_values.proofs.Cases.{by_test}
use Rattle.batch_meaning.proofs.Procedures.{look, look_get, FitBack}
use Rattle.base_values.proofs.Members.{Each, each_more, each_both, none_there}
use Rattle.batch_sound.proofs.Fitting.{callee, block_fit, procedure_fit, behind_call}
use Rattle.batch_converges.specs.Converges.{Ending}
use Rattle.batch_converges.proofs.Known.{Known, EachKnown, known_lift, known_lift2, known_both, known_joined}
use Rattle.batch_converges.proofs.Rounds.{IsRoomy, fix_known}
use Rattle.std.proofs.lemmas.Option.{same_Some}

module _ {S : Type 0} (dom : Operations S) (engine : LoopOptions) (covers : S → Heap → List Variables → Type 0) (laws : Laws dom covers) (wait : ℕ → ℕ) (most : ℕ → ℕ → ℕ) (ending : Ending dom wait most) where
  abbrev Good : Value S → List Layout → Type 0
  Good = Fit dom engine covers laws

  -- What a block gives is known.
  pub record KnownPassed (r : Passed S) : Type 0 where
    pub value : Known r.value
    pub leaving : EachKnown r.leaving

  -- What stands at a statement is known.
  pub record SpotKnown (x : ℕ × Spot S) : Type 0 where
    pub before_known : Known x.1.before
    pub head_known : (v : Value S) → head_value x.1 ≡ Some v → Known v
    pub after_known : Known x.1.after

  plain : (n : ℕ) (v w : Value S) (c : Option (Invoke × ℕ)) → Known v → Known w → SpotKnown (n, spot v None w c)
  plain n v w c k j = record { before_known = k; head_known = λ x e. absurd cc; after_known = j }

  module _ (thresholds : List ℤ) (rising : IsRising thresholds) (z : List ℕ) (calls : ℕ → ℕ → Value S → Value S) (before : List Routine) (l : Layout) (ls : List Layout) (roomy : IsRoomy dom engine covers laws wait most ending l thresholds)
      (keep : (n q : ℕ) (c : Routine) (v : Value S) → slice_get before q ≡ Some c → Fit dom engine covers laws v (c.layout ∷ l ∷ ls) → Fit dom engine covers laws (calls n q v) (c.layout ∷ l ∷ ls))
      (knows : (n q : ℕ) (c : Routine) (v : Value S) → slice_get before q ≡ Some c → Fit dom engine covers laws v (c.layout ∷ l ∷ ls) → Known v → Known (calls n q v)) where
    abbrev fitting : (c : Code) (a : Value S) → FitsCode before l c → Fit dom engine covers laws a (l ∷ ls) → Good (batch dom engine thresholds z calls c a).value (l ∷ ls)
    fitting c a s f = (block_fit dom engine covers laws thresholds rising z calls before l ls keep c a s f).value

    behind_known : (n : ℕ) (i : Invoke) (q : ℕ) (a : Value S) → FitsCall l i (slice_get before q) → Fit dom engine covers laws a (l ∷ ls) → Known a → Known (lift2 (dom.leave i.returning) a (calls n q (lift (dom.enter i.entering) a)))
    behind_known n i q a s f k =
        let c = callee before l i q s in
        let v = lift (dom.enter i.entering) a in
        let e = fit_enter dom engine covers laws i l ls a c.fits f in
        known_lift2 (dom.leave i.returning) a (calls n q v) k
        (knows n q c.routine v c.at (subst (λ k. Good v (k ∷ l ∷ ls)) (sym c.layout) e) (known_lift (dom.enter i.entering) a k))

    pub block_known : (c : Code) (a : Value S) → FitsCode before l c → Fit dom engine covers laws a (l ∷ ls) → Known a → KnownPassed (batch dom engine thresholds z calls c a)
    block_known Stop a s f k = record { value = k; leaving = tt }
    block_known (Simple n e r) a s f k = block_known r _ s.1 (fit_post dom engine covers laws (Does e) l ls a s.0 f) (known_lift (dom.post (Does e)) a k)
    block_known (If n g t e r) a s f k =
        let ft = fit_assume dom engine covers laws g true l ls a s.0 f in
        let fe = fit_assume dom engine covers laws g false l ls a s.0 f in
        let x = block_known t _ s.1 ft (known_lift (dom.assume g true) a k) in
        let y = block_known e _ s.2 fe (known_lift (dom.assume g false) a k) in
        let w = block_known r _ s.3 (fit_join dom engine covers laws (l ∷ ls) _ _ (fitting t _ s.1 ft) (fitting e _ s.2 fe)) (known_lift2 dom.join _ _ x.value y.value) in
        record { value = w.value; leaving = known_both _ _ (known_both _ _ x.leaving y.leaving) w.leaving }
    block_known (While n g b r) a s f k =
        let keeps = λ (v : Value S) (fv : Fit dom engine covers laws v (l ∷ ls)). fitting b (lift (dom.assume g true) v) s.1 (fit_assume dom engine covers laws g true l ls v s.0 fv) in
        let inner = λ (v : Value S) (fv : Fit dom engine covers laws v (l ∷ ls)) (kv : Known v). block_known b (lift (dom.assume g true) v) s.1 (fit_assume dom engine covers laws g true l ls v s.0 fv) (known_lift (dom.assume g true) v kv) in
        let h = fix_is_head dom engine covers laws (l ∷ ls) thresholds rising (λ v. (batch dom engine thresholds z calls b (lift (dom.assume g true) v)).value) n z a keeps f in
        let j = fix_known dom engine covers laws wait most ending l ls thresholds rising roomy (λ v. (batch dom engine thresholds z calls b (lift (dom.assume g true) v)).value) (Over n z) a keeps (λ v fv kv. (inner v fv kv).value) f k in
        let top = (head_of dom engine thresholds z n g (batch dom engine thresholds z calls b) a).value in
        let leaves = (block_fit dom engine covers laws thresholds rising z calls before l ls keep b (lift (dom.assume g true) top) s.1 (fit_assume dom engine covers laws g true l ls top s.0 h.fit)).leaving in
        block_known r _ s.2
        (fit_joined dom engine covers laws (l ∷ ls) _ (batch dom engine thresholds z calls b (lift (dom.assume g true) top)).leaving (fit_assume dom engine covers laws g false l ls top s.0 h.fit) leaves)
        (known_joined dom engine (lift (dom.assume g false) top) _ (known_lift (dom.assume g false) top j) (inner top h.fit j).leaving)
    block_known (Call n i q r) a s f k =
        block_known r _ s.1 (behind_call dom engine covers laws thresholds rising z calls before l ls keep n i q a s.0 f) (behind_known n i q a s.0 f k)
    block_known (Break n r) a s f k =
        let w = block_known r _ s (fit_post dom engine covers laws DoBreak l ls a refl f) (known_lift (dom.post DoBreak) a k) in record { value = w.value; leaving = (k, w.leaving) }

    pub spots_known : (c : Code) (a : Value S) → FitsCode before l c → Fit dom engine covers laws a (l ∷ ls) → Known a → Each SpotKnown (spots dom engine thresholds z calls c a)
    spots_known Stop a s f k = none_there SpotKnown
    spots_known (Simple n e r) a s f k =
        let j = known_lift (dom.post (Does e)) a k in
        each_more SpotKnown _ _ (plain n a _ None k j) (spots_known r _ s.1 (fit_post dom engine covers laws (Does e) l ls a s.0 f) j)
    spots_known (If n g t e r) a s f k =
        let ft = fit_assume dom engine covers laws g true l ls a s.0 f in
        let fe = fit_assume dom engine covers laws g false l ls a s.0 f in
        let kt = known_lift (dom.assume g true) a k in
        let ke = known_lift (dom.assume g false) a k in
        let j = known_lift2 dom.join _ _ (block_known t _ s.1 ft kt).value (block_known e _ s.2 fe ke).value in
        each_more SpotKnown _ _ (plain n a _ None k j)
        (each_both SpotKnown _ _ (spots_known t _ s.1 ft kt) (each_both SpotKnown _ _ (spots_known e _ s.2 fe ke) (spots_known r _ s.3 (fit_join dom engine covers laws (l ∷ ls) _ _ (fitting t _ s.1 ft) (fitting e _ s.2 fe)) j)))
    spots_known (While n g b r) a s f k =
        let keeps = λ (v : Value S) (fv : Fit dom engine covers laws v (l ∷ ls)). fitting b (lift (dom.assume g true) v) s.1 (fit_assume dom engine covers laws g true l ls v s.0 fv) in
        let inner = λ (v : Value S) (fv : Fit dom engine covers laws v (l ∷ ls)) (kv : Known v). block_known b (lift (dom.assume g true) v) s.1 (fit_assume dom engine covers laws g true l ls v s.0 fv) (known_lift (dom.assume g true) v kv) in
        let h = fix_is_head dom engine covers laws (l ∷ ls) thresholds rising (λ v. (batch dom engine thresholds z calls b (lift (dom.assume g true) v)).value) n z a keeps f in
        let j = fix_known dom engine covers laws wait most ending l ls thresholds rising roomy (λ v. (batch dom engine thresholds z calls b (lift (dom.assume g true) v)).value) (Over n z) a keeps (λ v fv kv. (inner v fv kv).value) f k in
        let top = (head_of dom engine thresholds z n g (batch dom engine thresholds z calls b) a).value in
        let fi = fit_assume dom engine covers laws g true l ls top s.0 h.fit in
        let leaves = (block_fit dom engine covers laws thresholds rising z calls before l ls keep b (lift (dom.assume g true) top) s.1 fi).leaving in
        let w = known_joined dom engine (lift (dom.assume g false) top) _ (known_lift (dom.assume g false) top j) (inner top h.fit j).leaving in
        each_more SpotKnown _ _ (record { before_known = k; head_known = λ v e. subst (λ v. Known v) (same_Some _ _ e) j; after_known = w })
        (each_both SpotKnown _ _ (spots_known b _ s.1 fi (known_lift (dom.assume g true) top j))
        (spots_known r _ s.2 (fit_joined dom engine covers laws (l ∷ ls) _ (batch dom engine thresholds z calls b (lift (dom.assume g true) top)).leaving (fit_assume dom engine covers laws g false l ls top s.0 h.fit) leaves) w))
    spots_known (Call n i q r) a s f k =
        let j = behind_known n i q a s.0 f k in
        each_more SpotKnown _ _ (plain n a _ (Some (i, q)) k j) (spots_known r _ s.1 (behind_call dom engine covers laws thresholds rising z calls before l ls keep n i q a s.0 f) j)
    spots_known (Break n r) a s f k =
        let j = known_lift (dom.post DoBreak) a k in each_more SpotKnown _ _ (plain n a _ None k j) (spots_known r _ s (fit_post dom engine covers laws DoBreak l ls a refl f) j)

  -- The budget is enough for each of these procedures.
  abbrev pub EachRoomy : List Routine → Type 0
  EachRoomy [] = Unit {0}
  EachRoomy (r ∷ rs) = IsRoomy dom engine covers laws wait most ending r.layout (thresholds engine.widening r) × EachRoomy rs

  module _ (rises : ThresholdsRise) where
    pub procedure_known : (procs : List Routine) (z : List ℕ) (q : ℕ) (c : Routine) (ls : List Layout) (a : Value S) → look procs q ≡ Some c → FitBack procs → EachRoomy procs → Fit dom engine covers laws a (c.layout ∷ ls) → Known a → Known (procedure dom engine procs z q a)
    procedure_known [] z q c ls a e b m f k = k
    procedure_known (r ∷ earlier) z q c ls a e b m f k =
        (by_test q (length earlier) (λ t. (if t then Some r else look earlier q) ≡ Some c → Known (if t then (batch dom engine (thresholds engine.widening r) z (calls_of dom engine earlier z) r.code a).value else procedure dom engine earlier z q a))
        (λ i e.
        let same : r ≡ c = same_Some r c e in
        (block_known (thresholds engine.widening r) (rises engine.widening (reverse earlier) r b.0) z (calls_of dom engine earlier z) (reverse earlier) r.layout ls m.0
        (λ n q c v g h. procedure_fit dom engine covers laws rises earlier (n ∷ z) q c (r.layout ∷ ls) v (look_get earlier q ∙ g) b.1 h)
        (λ n q c v g h j. procedure_known earlier (n ∷ z) q c (r.layout ∷ ls) v (look_get earlier q ∙ g) b.1 m.1 h j)
        r.code a b.0 (subst (λ (c : Routine). Good a (c.layout ∷ ls)) (sym same) f) k).value)
        (λ i e. procedure_known earlier z q c ls a e b.1 m.1 f k)) e
