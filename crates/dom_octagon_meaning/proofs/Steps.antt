-- Simple statements: what a state describes stays described, and states that fit stay so.
use Rattle.std.proofs.Common.{◌≡◌, ◌≢◌, refl, sym, ap, ◌∙◌, subst, ℕ, zero, suc, ◌<◌, ℤ, pos, Bool, true, false, ◌&&◌, List, [], ◌∷◌, length, slice_get, slice_index_or, slice_set, Option, Some, None, arith, if◌then◌else◌, inl, inr, get_or-set_other, get_or-set_same}
use Rattle.std.proofs.lemmas.Bool.{and_parts, cases_eq}
use Rattle.std.specs.List.{AllZip}
use Rattle.imp_slots.specs.Plain.{Numeric, Layout, Effect, Skip, Assert, SetInt, Input, ReadElement, ReadItem, MakeArray, CopyArray, WriteElement, SetNull, MakeCell, CopyLink, ReadNext, WriteNext, WriteItem, Act, DoBreak, Does}
use Rattle.imp_slots.specs.Fits.{fits_term, fits_effect, is_int, is_array, is_link, is_kind}
use Rattle.imp_words.specs.declared.fault.FaultKind.TheVariants.{Assert as Failed}
use Rattle.concrete_sem.specs.Values.{Number, Int, Array, Variables, Heap, Gives, Faults, andthen, as_array, array_at, link_at, with_number, with_link}
use Rattle.concrete_sem.specs.Evaluation.{value_of, truth_of}
use Rattle.concrete_sem.specs.Effects.{effect_of, new_array, element, with_element, cell_of, take_input, with_cell}
use Rattle.concrete_sem.specs.Proper.{IsNumber}
use Rattle.domain_laws.specs.Checks.{Check, check_of, checked_guard}
use Rattle.domain_laws.specs.Guards.{past_check}
use Rattle.domain_laws.specs.Laws.{fits_act}
use Rattle.domain_laws.specs.Claims.{ChecksTo}
use Rattle.domain_laws.proofs.CheckLaws.{andthen-gives, FitsCheck, check-passed, check-fits}
use Rattle.num_bounds.specs.Bounds.{Within as Lies}
use Rattle.num_bounds.specs.Operations.{cut_of}
use Rattle.num_bounds.proofs.Ends.{cut-covers}
use Rattle.dbm_core.specs.Half.{HalfMatrix}
use Rattle.dbm_core.specs.Valuations.{AgreeButAt, IsSatisfiedBy}
use Rattle.dbm_close.specs.CloseOf.{close_of}
use Rattle.dbm_close.specs.Laws.{AreInSlots}
use Rattle.dbm_close.specs.declared.closed.Closed.{Closed}
use Rattle.dom_numeric.specs.Measures.{measure, longest}
use Rattle.dom_numeric.proofs.Changes.{held, new_array-length, with_element-length}
use Rattle.dom_numeric.proofs.Slots.{array-at}
use Rattle.dom_octagon_meaning.specs.Covers.{values}
use Rattle.dom_octagon_meaning.specs.Forms.{form_of, slot_form}
use Rattle.dom_octagon_meaning.specs.Matrices.{assigned, meets_range, without}
use Rattle.dom_octagon_meaning.specs.Operations.{kinds_of, assume, does, post}
use Rattle.dom_octagon_meaning.specs.Ranges.{range_at, range_of}
use Rattle.dom_octagon_meaning.specs.States.{closed}
use Rattle.dom_octagon_meaning.proofs.Fitting.{Ready, FitsMatrix, FitsState, Describes, fits-ready, close-fits, close-describes, closed-fits, closed-describes, after-fits, after-describes}
use Rattle.dom_octagon_meaning.proofs.Guards.{assume-fits, assume-describes, needs-fits, needs-describes}
use Rattle.dom_octagon_meaning.proofs.Matrices.{assigned-ready, assigned-satisfied, range-ready, range-satisfied, without-ready, without-satisfied, slot-value}
use Rattle.dom_octagon_meaning.proofs.Ranges.{proper, range_at-covers, range_of-covers, form_of-value}
use Rattle.concrete_sem.proofs.Numbers.{gives_same}

-- ---- states that fit

pub does-fits : (kinds : List Bool) (e : Effect) (m : HalfMatrix) → FitsMatrix kinds m → FitsState kinds (does e m)
unfolding does
does-fits kinds Skip m h = h
does-fits kinds (Assert g) m h = h
does-fits kinds (SetInt x e) m h = needs-fits kinds (range_of m e) _ (λ r. close-fits kinds _ (assigned-ready kinds m x (form_of e) r (fits-ready kinds m h)))
does-fits kinds (Input x) m h = close-fits kinds _ (without-ready kinds m x (fits-ready kinds m h))
does-fits kinds (ReadElement x a e) m h = close-fits kinds _ (without-ready kinds m x (fits-ready kinds m h))
does-fits kinds (ReadItem x q) m h = close-fits kinds _ (without-ready kinds m x (fits-ready kinds m h))
does-fits kinds (MakeArray a e) m h = needs-fits kinds (range_of m e) _ (λ r. needs-fits kinds (cut_of r (pos 0) longest) _ (λ c.
    close-fits kinds _ (range-ready kinds (assigned m a (form_of e) r) a c (assigned-ready kinds m a (form_of e) r (fits-ready kinds m h)))))
does-fits kinds (CopyArray a b) m h = close-fits kinds _ (assigned-ready kinds m a (Some (slot_form b)) (range_at m b) (fits-ready kinds m h))
does-fits kinds (WriteElement a e f) m h = needs-fits kinds (range_of m f) _ (λ r. h)
does-fits kinds (SetNull p) m h = h
does-fits kinds (MakeCell p) m h = h
does-fits kinds (CopyLink p q) m h = h
does-fits kinds (ReadNext p q) m h = h
does-fits kinds (WriteNext p q) m h = h
does-fits kinds (WriteItem p e) m h = needs-fits kinds (range_of m e) _ (λ r. h)

past_check-fits : (l : Layout) (o : Option Check) (s : Closed) → FitsCheck l o → FitsState (kinds_of l.numbers) s → FitsState (kinds_of l.numbers) (past_check assume o s)
past_check-fits l None s f h = h
past_check-fits l (Some c) s f h = assume-fits l (checked_guard c) true s f h

pub post-fits : (l : Layout) (a : Act) (s : Closed) → fits_act l a ≡ true → FitsState (kinds_of l.numbers) s → FitsState (kinds_of l.numbers) (post a s)
unfolding post
post-fits l DoBreak s f h = tt
post-fits l (Does e) s f h = after-fits (kinds_of l.numbers) (kinds_of l.numbers) (closed (past_check assume (check_of e) s)) (does e)
    (closed-fits (kinds_of l.numbers) (past_check assume (check_of e) s) (past_check-fits l (check_of e) s (check-fits l e f) h)) (λ m k. does-fits (kinds_of l.numbers) e m k)

-- ---- values after a statement

-- slot x gets another value, the others keep theirs
pub others-agree : (v : Variables) (x : ℕ) (n : Number) → AgreeButAt x (values v) (values (with_number v x n))
others-agree v x n q ne = ap measure (sym (elsewhere v.numbers x q n ne))
  where
    elsewhere : (ns : List Number) (x q : ℕ) (n : Number) → q ≢ x → slice_index_or (slice_set ns x n) q (Int (pos 0)) ≡ slice_index_or ns q (Int (pos 0))
    elsewhere ns x q n ne = rw get_or-set_other refl

kind-within : (b : Bool) (ks : List Numeric) (x : ℕ) → is_kind b (slice_get ks x) ≡ true → x < length ks
kind-within true [] x h = cc
kind-within false [] x h = cc
kind-within b (k ∷ ks) zero h = omega arith
kind-within b (k ∷ ks) (suc x) h = let l : x < length ks = kind-within b ks x h in omega arith

as-many : (ks : List Numeric) (ns : List Number) → AllZip IsNumber ks ns → length ks ≡ length ns
as-many [] [] h = refl
as-many [] (n ∷ ns) h = absurd h
as-many (k ∷ ks) [] h = absurd h
as-many (k ∷ ks) (n ∷ ns) h = ap suc (as-many ks ns h.1)

pub set-value : (l : Layout) (v : Variables) (b : Bool) (x : ℕ) (n : Number) → AllZip IsNumber l.numbers v.numbers → is_kind b (slice_get l.numbers x) ≡ true → values (with_number v x n) x ≡ measure n
set-value l v b x n h e =
    let k : x < length l.numbers = kind-within b l.numbers x e in
    let w : length l.numbers ≡ length v.numbers = as-many l.numbers v.numbers h in
    ap measure (here v.numbers x n (omega arith))
  where
    here : (ns : List Number) (x : ℕ) (n : Number) → x < length ns → slice_index_or (slice_set ns x n) x (Int (pos 0)) ≡ n
    here ns x n l = rw get_or-set_same refl

-- the same values satisfy the same matrices
pub same-satisfied : (m : HalfMatrix) (x y : ℕ → ℤ) → ((k : ℕ) → x k ≡ y k) → IsSatisfiedBy m x → IsSatisfiedBy m y
same-satisfied m x y e s = subst (IsSatisfiedBy m) (λ t k. e k t) s

module _ (l : Layout) (h : Heap) (v : Variables) (x : Heap × Variables) (numbers : AllZip IsNumber l.numbers v.numbers) (slots : AreInSlots (kinds_of l.numbers) (values x.1)) where
  -- the variables after a step
  moved : (k : Heap) (u : Variables) → Gives (k, u) ≡ Gives x → u ≡ x.1
  moved k u e = let w : (k, u) ≡ x = gives_same e in ap (λ (y : Heap × Variables). y.1) w

  -- a matrix that the variables u satisfy
  kept : (k : Heap) (u : Variables) (m : HalfMatrix) → Gives (k, u) ≡ Gives x → ((n : ℕ) → values v n ≡ values u n) → IsSatisfiedBy m (values v) → IsSatisfiedBy m (values x.1)
  kept k u m e f s = subst (λ w. IsSatisfiedBy m (values w)) (moved k u e) (same-satisfied m (values v) (values u) f s)

  reached : (k : Heap) (u : Variables) (m : HalfMatrix) → Gives (k, u) ≡ Gives x → Ready (kinds_of l.numbers) m → IsSatisfiedBy m (values u) → Describes (values x.1) (close_of m)
  reached k u m e r s = close-describes (kinds_of l.numbers) m (values x.1) r slots (subst (λ w. IsSatisfiedBy m (values w)) (moved k u e) s)

  freed : (k : Heap) (y : ℕ) (n : Number) (m : HalfMatrix) → Gives (k, with_number v y n) ≡ Gives x → FitsMatrix (kinds_of l.numbers) m → IsSatisfiedBy m (values v) → Describes (values x.1) (close_of (without m y))
  freed k y n m e f s = let r = fits-ready (kinds_of l.numbers) m f in
      reached k (with_number v y n) (without m y) e (without-ready (kinds_of l.numbers) m y r) (without-satisfied (kinds_of l.numbers) m y (values v) (values (with_number v y n)) r s (others-agree v y n))

  ranges : (m : HalfMatrix) → FitsMatrix (kinds_of l.numbers) m → IsSatisfiedBy m (values v) → (k : ℕ) → Lies (values v k) (range_at m k)
  ranges m f s = range_at-covers (kinds_of l.numbers) m (values v) f (proper l v numbers) s

  does-describes : (e : Effect) (m : HalfMatrix) → fits_effect l e ≡ true → FitsMatrix (kinds_of l.numbers) m → effect_of e h v ≡ Gives x → IsSatisfiedBy m (values v) → Describes (values x.1) (does e m)
  unfolding does fits_effect effect_of
  does-describes Skip m f k g s = kept h v m g (λ n. refl) s
  does-describes (Assert q) m f k g s =
      let b = andthen-gives (truth_of v q) (λ b. if b then Gives (h, v) else Faults Failed) x g in
      kept h v m (held b.0 (h, v) x b.2) (λ n. refl) s
  does-describes (SetInt y e) m f k g s =
      let p = and_parts (is_int l y) (fits_term l e) f in
      let z = andthen-gives (value_of v e) (λ z. Gives (h, with_number v y (Int z))) x g in
      let r = fits-ready (kinds_of l.numbers) m k in
      needs-describes (values x.1) (range_of m e) z.0 _ (range_of-covers l m v e z.0 p.1 numbers (ranges m k s) z.1) (λ b w.
      reached h (with_number v y (Int z.0)) (assigned m y (form_of e) b) z.2 (assigned-ready (kinds_of l.numbers) m y (form_of e) b r)
      (assigned-satisfied (kinds_of l.numbers) m y (form_of e) b (values v) (values (with_number v y (Int z.0))) z.0 r s (others-agree v y (Int z.0)) (set-value l v false y (Int z.0) numbers p.0) (form_of-value l v e z.0 p.1 numbers z.1) w))
  does-describes (Input y) m f k g s = by h.inputs g
    where
      by : (zs : List ℤ) → take_input h.cells zs v y ≡ Gives x → Describes (values x.1) (close_of (without m y))
      by [] t = cc
      by (z ∷ zs) t = freed (record { cells = h.cells; inputs = zs }) y (Int z) m t k s
  does-describes (ReadElement y a e) m f k g s =
      let i = andthen-gives (value_of v e) (λ i. andthen (element (array_at v a) i) (λ z. Gives (h, with_number v y (Int z)))) x g in
      let z = andthen-gives (element (array_at v a) i.0) (λ z. Gives (h, with_number v y (Int z))) x i.2 in
      freed h y (Int z.0) m z.2 k s
  does-describes (ReadItem y q) m f k g s =
      let c = andthen-gives (cell_of h.cells (link_at v q)) (λ c. Gives (h, with_number v y (Int c.1.item))) x g in
      freed h y (Int c.0.1.item) m c.2 k s
  does-describes (MakeArray a e) m f k g s =
      let p = and_parts (is_array l a) (fits_term l e) f in
      let n = andthen-gives (value_of v e) (λ n. andthen (new_array n) (λ zs. Gives (h, with_number v a (Array zs)))) x g in
      let zs = andthen-gives (new_array n.0) (λ zs. Gives (h, with_number v a (Array zs))) x n.2 in
      let w = new_array-length n.0 zs.0 zs.1 in
      let r = fits-ready (kinds_of l.numbers) m k in
      let y : values (with_number v a (Array zs.0)) a ≡ n.0 = set-value l v true a (Array zs.0) numbers p.0 ∙ w.0 in
      needs-describes (values x.1) (range_of m e) n.0 _ (range_of-covers l m v e n.0 p.1 numbers (ranges m k s) n.1) (λ b o.
      needs-describes (values x.1) (cut_of b (pos 0) longest) n.0 _ (cut-covers b (pos 0) longest n.0 o w.1 w.2) (λ c q.
      reached h (with_number v a (Array zs.0)) (meets_range (assigned m a (form_of e) b) a c) zs.2
      (range-ready (kinds_of l.numbers) (assigned m a (form_of e) b) a c (assigned-ready (kinds_of l.numbers) m a (form_of e) b r))
      (range-satisfied (kinds_of l.numbers) (assigned m a (form_of e) b) a c (values (with_number v a (Array zs.0))) (assigned-ready (kinds_of l.numbers) m a (form_of e) b r)
      (assigned-satisfied (kinds_of l.numbers) m a (form_of e) b (values v) (values (with_number v a (Array zs.0))) n.0 r s (others-agree v a (Array zs.0)) y (form_of-value l v e n.0 p.1 numbers n.1) o)
      (subst (λ u. Lies u c) (sym y) q))))
  does-describes (CopyArray a b) m f k g s =
      let p = and_parts (is_array l a) (is_array l b) f in
      let i = array-at l.numbers v.numbers b numbers p.1 in
      let r = fits-ready (kinds_of l.numbers) m k in
      let e : measure (Array (array_at v b)) ≡ values v b = ap (λ n. pos (length (as_array n))) i.1 ∙ sym (ap measure i.1) in
      reached h (with_number v a (Array (array_at v b))) (assigned m a (Some (slot_form b)) (range_at m b)) g (assigned-ready (kinds_of l.numbers) m a (Some (slot_form b)) (range_at m b) r)
      (assigned-satisfied (kinds_of l.numbers) m a (Some (slot_form b)) (range_at m b) (values v) (values (with_number v a (Array (array_at v b)))) (values v b) r s (others-agree v a (Array (array_at v b)))
      (set-value l v true a (Array (array_at v b)) numbers p.0 ∙ e) (slot-value (values v) b) (ranges m k s b))
  does-describes (WriteElement a e t) m f k g s =
      let p = and_parts (is_array l a) (fits_term l e && fits_term l t) f in
      let q = and_parts (fits_term l e) (fits_term l t) p.1 in
      let i = andthen-gives (value_of v e) (λ i. andthen (value_of v t) (λ z. andthen (with_element (array_at v a) i z) (λ zs. Gives (h, with_number v a (Array zs))))) x g in
      let z = andthen-gives (value_of v t) (λ z. andthen (with_element (array_at v a) i.0 z) (λ zs. Gives (h, with_number v a (Array zs)))) x i.2 in
      let ys = andthen-gives (with_element (array_at v a) i.0 z.0) (λ zs. Gives (h, with_number v a (Array zs))) x z.2 in
      needs-describes (values x.1) (range_of m t) z.0 _ (range_of-covers l m v t z.0 q.1 numbers (ranges m k s) z.1) (λ b w.
      kept h (with_number v a (Array ys.0)) m ys.2 (λ n. written a ys.0 p.0 (with_element-length (array_at v a) i.0 z.0 ys.0 ys.1) n) s)
    where
      written : (a : ℕ) (ys : List ℤ) → is_array l a ≡ true → length ys ≡ length (array_at v a) → (n : ℕ) → values v n ≡ values (with_number v a (Array ys)) n
      written a ys p e n = elim (cases_eq n a) [
        | inl c ↦ let i = array-at l.numbers v.numbers a numbers p in
            subst (λ n. values v n ≡ values (with_number v a (Array ys)) n) (sym c)
            (ap measure i.1 ∙ sym (ap (λ n. pos (length (as_array n))) i.1) ∙ ap pos (sym e) ∙ sym (set-value l v true a (Array ys) numbers p))
        | inr d ↦ others-agree v a (Array ys) n d
      ]
  does-describes (SetNull p) m f k g s = kept _ _ m g (λ n. refl) s
  does-describes (MakeCell p) m f k g s = kept _ _ m g (λ n. refl) s
  does-describes (CopyLink p q) m f k g s = kept _ _ m g (λ n. refl) s
  does-describes (ReadNext p q) m f k g s =
      let c = andthen-gives (cell_of h.cells (link_at v q)) (λ c. Gives (h, with_link v p c.1.next)) x g in
      kept h (with_link v p c.0.1.next) m c.2 (λ n. refl) s
  does-describes (WriteNext p q) m f k g s =
      let c = andthen-gives (cell_of h.cells (link_at v p)) (λ c. Gives (with_cell h c.0 (record { item = c.1.item; next = link_at v q }), v)) x g in
      kept _ v m c.2 (λ n. refl) s
  does-describes (WriteItem p e) m f k g s =
      let w = and_parts (is_link l p) (fits_term l e) f in
      let z = andthen-gives (value_of v e) (λ z. andthen (cell_of h.cells (link_at v p)) (λ c. Gives (with_cell h c.0 (record { item = z; next = c.1.next }), v))) x g in
      let c = andthen-gives (cell_of h.cells (link_at v p)) (λ c. Gives (with_cell h c.0 (record { item = z.0; next = c.1.next }), v)) x z.2 in
      needs-describes (values x.1) (range_of m e) z.0 _ (range_of-covers l m v e z.0 w.1 numbers (ranges m k s) z.1) (λ r q. kept _ v m c.2 (λ n. refl) s)

  past_check-describes : (o : Option Check) (s : Closed) → FitsCheck l o → ChecksTo v true o → FitsState (kinds_of l.numbers) s → Describes (values v) s → Describes (values v) (past_check assume o s)
  past_check-describes None s f t k d = d
  past_check-describes (Some c) s f t k d = assume-describes l v (checked_guard c) true s numbers f k t d

  pub post-describes : (e : Effect) (s : Closed) → fits_effect l e ≡ true → FitsState (kinds_of l.numbers) s → effect_of e h v ≡ Gives x → Describes (values v) s → Describes (values x.1) (post (Does e) s)
  unfolding post
  post-describes e s f k g d =
      let c = past_check-fits l (check_of e) s (check-fits l e f) k in
      let w = past_check-describes (check_of e) s (check-fits l e f) (check-passed e h v x g) k d in
      after-describes (kinds_of l.numbers) (values v) (values x.1) (closed (past_check assume (check_of e) s)) (does e) (closed-fits (kinds_of l.numbers) (past_check assume (check_of e) s) c)
      (closed-describes (kinds_of l.numbers) (past_check assume (check_of e) s) (values v) c (proper l v numbers).slots w) (λ m q i. does-describes e m f q g i)
