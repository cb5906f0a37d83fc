-- Simple statements: what a state describes stays described, and states that fit stay so.
use Rattle.std.proofs.Common.{◌≡◌, refl, sym, ap, ◌∙◌, subst, ℕ, zero, suc, ℤ, pos, Bool, true, false, ◌&&◌, List, [], ◌∷◌, length, slice_get, slice_index_or, slice_set, All, Option, Some, None, IfSome, arith, if◌then◌else◌}
use Rattle.std.proofs.lemmas.Int.{ints, clamps}
use Rattle.std.proofs.lemmas.Bool.{and_parts}
use Rattle.std.specs.Int.{int_max, int_min}
use Rattle.std.specs.List.{AllZip}
use Rattle.imp_slots.specs.Plain.{Numeric, Layout, Effect, Skip, Assert, SetInt, Input, ReadElement, ReadItem, MakeArray, CopyArray, WriteElement, SetNull, MakeCell, CopyLink, ReadNext, WriteNext, WriteItem, Act, DoBreak, Does}
use Rattle.imp_slots.specs.Fits.{fits_term, fits_effect, is_int, is_array, is_link, is_kind}
use Rattle.imp_words.specs.declared.fault.FaultKind.TheVariants.{Null, Assert as Failed}
use Rattle.concrete_sem.specs.Values.{Number, Int, Array, Variables, Cell, Heap, Gives, Faults, andthen, given_or, as_array, number_at, array_at, link_at, with_number, with_link, IsWord}
use Rattle.concrete_sem.specs.Evaluation.{value_of, truth_of}
use Rattle.concrete_sem.specs.Effects.{effect_of, new_array, element, with_element, cell_of, take_input, with_cell}
use Rattle.concrete_sem.specs.Proper.{IsNumber, IsCell}
use Rattle.domain_laws.specs.Checks.{Check, check_of, checked_guard}
use Rattle.domain_laws.specs.Guards.{past_check}
use Rattle.domain_laws.specs.Laws.{fits_act}
use Rattle.domain_laws.specs.Claims.{ChecksTo}
use Rattle.domain_laws.proofs.CheckLaws.{andthen-gives, FitsCheck, check-passed, check-fits}
use Rattle.num_bounds.specs.Bounds.{Bounds, IsRange, Within as Lies}
use Rattle.num_bounds.specs.Operations.{cut_of}
use Rattle.num_bounds.proofs.Ends.{cut-covers, between-left}
use Rattle.dom_numeric.specs.Measures.{measure, longest}
use Rattle.dom_numeric.proofs.Changes.{held, new_array-length, with_element-length}
use Rattle.dom_numeric.proofs.Slots.{array-at}
use Rattle.dom_interval_meaning.specs.State.{Intervals, Empty, Within}
use Rattle.dom_interval_meaning.specs.Ranges.{full, range_at, with_range, range_of}
use Rattle.dom_interval_meaning.specs.Operations.{unless_empty, assume, does, post}
use Rattle.dom_interval_meaning.specs.Covers.{Holds}
use Rattle.dom_interval_meaning.proofs.SlotLaws.{FitsSlot, FitsRange, range-fits, at-fits, at-kind, at-holds, set-fits, set-holds}
use Rattle.dom_interval_meaning.proofs.RangeLaws.{range_of-covers, range_of-range}
use Rattle.dom_interval_meaning.proofs.CompareLaws.{FitsState, Describes, after-fits, needs-fits, needs-describes, assume-fits, assume-describes}
use Rattle.dom_interval_meaning.specs.declared.slot_range.SlotRange.{SlotRange}
use Rattle.concrete_sem.proofs.Keeps.{element_is}
use Rattle.concrete_sem.proofs.Numbers.{gives_same}
use Rattle.base_values.proofs.Lists.{all_at}

-- A slot of this kind gets a range that fits the kind.
kind-set : (b : Bool) (l : Layout) (rs : List SlotRange) (x : ℕ) (r : Bounds) → is_kind b (slice_get l.numbers x) ≡ true → FitsRange b r → AllZip FitsSlot l.numbers rs → AllZip FitsSlot l.numbers (with_range rs x r)
kind-set b l rs x r e f h = set-fits l.numbers rs x r h (subst (λ c. FitsRange c r) (sym (at-kind b l.numbers rs x h e)) f)

full-fits : FitsRange false full
full-fits = record { low = omega (arith, ints); ordered = omega (arith, ints); high = omega (arith, ints) }

length-cut : (r : Bounds) → IfSome (cut_of r (pos 0) longest) (FitsRange true)
length-cut r = between-left (int_max r.lo (pos 0)) (int_min r.hi longest) (FitsRange true) (λ e. record { low = omega (arith, ints, clamps); ordered = e; high = omega (arith, ints, clamps) })

any-some : {A : Type 0} (o : Option A) → IfSome o (λ _. Unit {0})
any-some None = tt
any-some (Some a) = tt

does-fits : (l : Layout) (e : Effect) (rs : List SlotRange) → fits_effect l e ≡ true → AllZip FitsSlot l.numbers rs → FitsState l (does e rs)
unfolding does fits_effect
does-fits l Skip rs f h = h
does-fits l (Assert g) rs f h = h
does-fits l (SetInt x e) rs f h =
    let p = and_parts (is_int l x) (fits_term l e) f in
    needs-fits l (range_of rs e) IsRange _ (range_of-range l rs e p.1 h) (λ r i. kind-set false l rs x r p.0 (range-fits r i) h)
does-fits l (Input x) rs f h = kind-set false l rs x full f full-fits h
does-fits l (ReadElement x a e) rs f h = kind-set false l rs x full (and_parts (is_int l x) (is_array l a && fits_term l e) f).0 full-fits h
does-fits l (ReadItem x q) rs f h = kind-set false l rs x full (and_parts (is_int l x) (is_link l q) f).0 full-fits h
does-fits l (MakeArray a e) rs f h =
    let p = and_parts (is_array l a) (fits_term l e) f in
    needs-fits l (range_of rs e) (λ _. Unit {0}) _ (any-some (range_of rs e)) (λ r _.
    needs-fits l (cut_of r (pos 0) longest) (FitsRange true) _ (length-cut r) (λ c k. kind-set true l rs a c p.0 k h))
does-fits l (CopyArray a b) rs f h =
    let p = and_parts (is_array l a) (is_array l b) f in
    kind-set true l rs a (range_at rs b) p.0 (subst (λ c. FitsRange c (range_at rs b)) (at-kind true l.numbers rs b h p.1) (at-fits l.numbers rs b h)) h
does-fits l (WriteElement a e g) rs f h = needs-fits l (range_of rs g) (λ _. Unit {0}) _ (any-some (range_of rs g)) (λ r _. h)
does-fits l (SetNull p) rs f h = h
does-fits l (MakeCell p) rs f h = h
does-fits l (CopyLink p q) rs f h = h
does-fits l (ReadNext p q) rs f h = h
does-fits l (WriteNext p q) rs f h = h
does-fits l (WriteItem p e) rs f h = needs-fits l (range_of rs e) (λ _. Unit {0}) _ (any-some (range_of rs e)) (λ r _. h)

past_check-fits : (l : Layout) (o : Option Check) (s : Intervals) → FitsCheck l o → FitsState l s → FitsState l (past_check assume o s)
past_check-fits l None s f h = h
past_check-fits l (Some c) s f h = assume-fits l (checked_guard c) true s f h

pub post-fits : (l : Layout) (a : Act) (s : Intervals) → fits_act l a ≡ true → FitsState l s → FitsState l (post a s)
unfolding post
post-fits l DoBreak s f h = tt
post-fits l (Does e) s f h = after-fits l (past_check assume (check_of e) s) (does e) (past_check-fits l (check_of e) s (check-fits l e f) h) (λ rs k. does-fits l e rs f k)

-- What is read is an integer of 64 bits.
word-lies : (z : ℤ) → IsWord z → Lies z full
word-lies z h = (omega (arith, ints), omega (arith, ints))

cell-word : (cells : List Cell) (n : ℕ) (l : Option ℕ) (c : ℕ × Cell) → All (IsCell n) cells → cell_of cells l ≡ Gives c → IsWord c.1.item
cell-word cells n None c h e = cc
cell-word cells n (Some k) c h e = by (slice_get cells k) refl e
  where
    by : (o : Option Cell) → slice_get cells k ≡ o → andthen (given_or Null o) (λ d. Gives (k, d)) ≡ Gives c → IsWord c.1.item
    by None p q = cc
    by (Some d) p q = let w : (k, d) ≡ c = gives_same q in subst (λ (y : ℕ × Cell). IsWord y.1.item) w (all_at (IsCell n) cells k d h p).0

array-words : (ks : List Numeric) (ns : List Number) (a : ℕ) → AllZip IsNumber ks ns → All IsWord (as_array (slice_index_or ns a (Int (pos 0))))
array-words [] [] a h = λ k d lt. absurd (omega arith)
array-words [] (n ∷ ns) a h = absurd h
array-words (k ∷ ks) [] a h = absurd h
array-words (k ∷ ks) (Int z ∷ ns) zero h = λ k d lt. absurd (omega arith)
array-words (k ∷ ks) (Array zs ∷ ns) zero h = h.0.2
array-words (k ∷ ks) (n ∷ ns) (suc a) h = array-words ks ns a h.1

-- a variable gets a value of the same measure
same-holds : (rs : List SlotRange) (ns : List Number) (x : ℕ) (m : Number) → measure m ≡ measure (slice_index_or ns x (Int (pos 0))) → AllZip Holds rs ns → AllZip Holds rs (slice_set ns x m)
same-holds [] [] x m e h = tt
same-holds [] (n ∷ ns) x m e h = absurd h
same-holds (s ∷ rs) [] x m e h = absurd h
same-holds (s ∷ rs) (n ∷ ns) zero m e h = (subst (λ z. Lies z s.range) (sym e) h.0, h.1)
same-holds (s ∷ rs) (n ∷ ns) (suc x) m e h = (h.0, same-holds rs ns x m e h.1)

module _ (l : Layout) (h : Heap) (v : Variables) (x : Heap × Variables) (numbers : AllZip IsNumber l.numbers v.numbers) (inputs : All IsWord h.inputs) (cells : All (IsCell (length h.cells)) h.cells) where
  -- the variables after a step
  moved : (k : Heap) (u : Variables) (s : Intervals) → Gives (k, u) ≡ Gives x → Describes u s → Describes x.1 s
  moved k u s e d = let w : (k, u) ≡ x = gives_same e in subst (λ (y : Heap × Variables). Describes y.1 s) w d

  does-describes : (e : Effect) (rs : List SlotRange) → fits_effect l e ≡ true → AllZip FitsSlot l.numbers rs → effect_of e h v ≡ Gives x → AllZip Holds rs v.numbers → Describes x.1 (does e rs)
  unfolding does fits_effect effect_of
  does-describes Skip rs f k g d = moved h v (Within rs) g d
  does-describes (Assert q) rs f k g d =
      let b = andthen-gives (truth_of v q) (λ b. if b then Gives (h, v) else Faults Failed) x g in
      moved h v (Within rs) (held b.0 (h, v) x b.2) d
  does-describes (SetInt y e) rs f k g d =
      let p = and_parts (is_int l y) (fits_term l e) f in
      let z = andthen-gives (value_of v e) (λ z. Gives (h, with_number v y (Int z))) x g in
      needs-describes x.1 (range_of rs e) z.0 _ (range_of-covers l rs v e z.0 p.1 numbers d z.1) (λ r w. moved h (with_number v y (Int z.0)) (Within (with_range rs y r)) z.2 (set-holds rs v.numbers y r (Int z.0) d w))
  does-describes (Input y) rs f k g d = by h.inputs inputs g
    where
      by : (zs : List ℤ) → All IsWord zs → take_input h.cells zs v y ≡ Gives x → Describes x.1 (Within (with_range rs y full))
      by [] w t = cc
      by (z ∷ zs) w t = moved (record { cells = h.cells; inputs = zs }) (with_number v y (Int z)) (Within (with_range rs y full)) t (set-holds rs v.numbers y full (Int z) d (word-lies z (w 0 z (omega arith))))
  does-describes (ReadElement y a e) rs f k g d =
      let i = andthen-gives (value_of v e) (λ i. andthen (element (array_at v a) i) (λ z. Gives (h, with_number v y (Int z)))) x g in
      let z = andthen-gives (element (array_at v a) i.0) (λ z. Gives (h, with_number v y (Int z))) x i.2 in
      moved h (with_number v y (Int z.0)) (Within (with_range rs y full)) z.2 (set-holds rs v.numbers y full (Int z.0) d (word-lies z.0 (element_is (array_at v a) i.0 z.0 (array-words l.numbers v.numbers a numbers) z.1)))
  does-describes (ReadItem y q) rs f k g d =
      let c = andthen-gives (cell_of h.cells (link_at v q)) (λ c. Gives (h, with_number v y (Int c.1.item))) x g in
      moved h (with_number v y (Int c.0.1.item)) (Within (with_range rs y full)) c.2 (set-holds rs v.numbers y full (Int c.0.1.item) d (word-lies c.0.1.item (cell-word h.cells (length h.cells) (link_at v q) c.0 cells c.1)))
  does-describes (MakeArray a e) rs f k g d =
      let p = and_parts (is_array l a) (fits_term l e) f in
      let n = andthen-gives (value_of v e) (λ n. andthen (new_array n) (λ zs. Gives (h, with_number v a (Array zs)))) x g in
      let zs = andthen-gives (new_array n.0) (λ zs. Gives (h, with_number v a (Array zs))) x n.2 in
      let w = new_array-length n.0 zs.0 zs.1 in
      needs-describes x.1 (range_of rs e) n.0 _ (range_of-covers l rs v e n.0 p.1 numbers d n.1) (λ r m.
      needs-describes x.1 (cut_of r (pos 0) longest) n.0 _ (cut-covers r (pos 0) longest n.0 m w.1 w.2) (λ c q.
      moved h (with_number v a (Array zs.0)) (Within (with_range rs a c)) zs.2 (set-holds rs v.numbers a c (Array zs.0) d (subst (λ z. Lies z c) (sym w.0) q))))
  does-describes (CopyArray a b) rs f k g d =
      let p = and_parts (is_array l a) (is_array l b) f in
      let i = array-at l.numbers v.numbers b numbers p.1 in
      let e : measure (number_at v b) ≡ measure (Array (array_at v b)) = ap measure i.1 ∙ sym (ap (λ n. pos (length (as_array n))) i.1) in
      moved h (with_number v a (Array (array_at v b))) (Within (with_range rs a (range_at rs b))) g (set-holds rs v.numbers a (range_at rs b) (Array (array_at v b)) d (subst (λ z. Lies z (range_at rs b)) e (at-holds rs v.numbers b d)))
  does-describes (WriteElement a e t) rs f k g d =
      let p = and_parts (is_array l a) (fits_term l e && fits_term l t) f in
      let q = and_parts (fits_term l e) (fits_term l t) p.1 in
      let i = andthen-gives (value_of v e) (λ i. andthen (value_of v t) (λ z. andthen (with_element (array_at v a) i z) (λ zs. Gives (h, with_number v a (Array zs))))) x g in
      let z = andthen-gives (value_of v t) (λ z. andthen (with_element (array_at v a) i.0 z) (λ zs. Gives (h, with_number v a (Array zs)))) x i.2 in
      let ys = andthen-gives (with_element (array_at v a) i.0 z.0) (λ zs. Gives (h, with_number v a (Array zs))) x z.2 in
      let j = array-at l.numbers v.numbers a numbers p.0 in
      let m : measure (Array (array_at v a)) ≡ measure (number_at v a) = ap (λ n. pos (length (as_array n))) j.1 ∙ sym (ap measure j.1) in
      needs-describes x.1 (range_of rs t) z.0 _ (range_of-covers l rs v t z.0 q.1 numbers d z.1) (λ r w.
      moved h (with_number v a (Array ys.0)) (Within rs) ys.2 (same-holds rs v.numbers a (Array ys.0) (ap pos (with_element-length (array_at v a) i.0 z.0 ys.0 ys.1) ∙ m) d))
  does-describes (SetNull p) rs f k g d = moved _ _ (Within rs) g d
  does-describes (MakeCell p) rs f k g d = moved _ _ (Within rs) g d
  does-describes (CopyLink p q) rs f k g d = moved _ _ (Within rs) g d
  does-describes (ReadNext p q) rs f k g d =
      let c = andthen-gives (cell_of h.cells (link_at v q)) (λ c. Gives (h, with_link v p c.1.next)) x g in
      moved h (with_link v p c.0.1.next) (Within rs) c.2 d
  does-describes (WriteNext p q) rs f k g d =
      let c = andthen-gives (cell_of h.cells (link_at v p)) (λ c. Gives (with_cell h c.0 (record { item = c.1.item; next = link_at v q }), v)) x g in
      moved _ v (Within rs) c.2 d
  does-describes (WriteItem p e) rs f k g d =
      let w = and_parts (is_link l p) (fits_term l e) f in
      let z = andthen-gives (value_of v e) (λ z. andthen (cell_of h.cells (link_at v p)) (λ c. Gives (with_cell h c.0 (record { item = z; next = c.1.next }), v))) x g in
      let c = andthen-gives (cell_of h.cells (link_at v p)) (λ c. Gives (with_cell h c.0 (record { item = z.0; next = c.1.next }), v)) x z.2 in
      needs-describes x.1 (range_of rs e) z.0 _ (range_of-covers l rs v e z.0 w.1 numbers d z.1) (λ r q. moved _ v (Within rs) c.2 d)

  past_check-describes : (o : Option Check) (s : Intervals) → FitsCheck l o → ChecksTo v true o → FitsState l s → Describes v s → Describes v (past_check assume o s)
  past_check-describes None s f t k d = d
  past_check-describes (Some c) s f t k d = assume-describes l v (checked_guard c) true s numbers f k t d

  pub post-describes : (e : Effect) (s : Intervals) → fits_effect l e ≡ true → FitsState l s → effect_of e h v ≡ Gives x → Describes v s → Describes x.1 (post (Does e) s)
  unfolding post
  post-describes e s f k g d =
      let c = past_check-fits l (check_of e) s (check-fits l e f) k in
      let w = past_check-describes (check_of e) s (check-fits l e f) (check-passed e h v x g) k d in
      by (past_check assume (check_of e) s) c w
    where
      by : (s : Intervals) → FitsState l s → Describes v s → Describes x.1 (unless_empty s (does e))
      by Empty c w = absurd w
      by (Within rs) c w = does-describes e rs f c g w
