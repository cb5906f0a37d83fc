-- What a statement's effect makes of what a state describes, the statement's operation describes.
use Rattle.std.proofs.Common.{◌≡◌, ℕ, zero, suc, ℤ, pos, Bool, true, false, if◌then◌else◌, List, [], ◌∷◌, ◌++◌, inl, map, length, set, Option, None, Some, refl, sym, ◌∙◌, ap, subst}
use Rattle.std.specs.Prelude.{slice_get}
use Rattle.std.proofs.lemmas.List.{length-map, map-append, map-set}
use Rattle.imp_slots.specs.Plain.{Layout, Effect, Skip, Assert, SetInt, Input, ReadElement, ReadItem, MakeArray, CopyArray, WriteElement, SetNull, MakeCell, CopyLink, ReadNext, WriteNext, WriteItem, Does}
use Rattle.imp_slots.specs.Fits.{fits_effect}
use Rattle.imp_words.specs.declared.fault.FaultKind.TheVariants.{Null, Assert as Failed}
use Rattle.concrete_sem.specs.Values.{Int, Array, Variables, Cell, Heap, Gives, Faults, andthen, given_or, array_at, link_at, with_number, with_link}
use Rattle.concrete_sem.specs.Evaluation.{value_of, truth_of}
use Rattle.concrete_sem.specs.Effects.{new_array, element, with_element, cell_of, with_cell, take_input, effect_of}
use Rattle.domain_laws.specs.Checks.{Check, check_of, checked_guard}
use Rattle.domain_laws.specs.Claims.{ChecksTo}
use Rattle.domain_laws.specs.Guards.{past_check}
use Rattle.domain_laws.proofs.CheckLaws.{andthen-gives, FitsCheck, check-passed, check-fits}
use Rattle.shape_graph.specs.Shape.{Shape, IsGraph}
use Rattle.shape_graph.specs.Covers.{Covers}
use Rattle.shape_steps.specs.Steps.{set_last, AnyCovers, forget_of, new_cell_of, slot_of}
use Rattle.shape_steps.proofs.Concrete.{slot-null, Covers-null, Covers-copy, Covers-new, Covers-read_any, Covers-write_any}
use Rattle.dom_listseg_meaning.specs.State.{Segments}
use Rattle.dom_listseg_meaning.specs.Operations.{read_at, write_at, stepped, each, does, assume, post}
use Rattle.dom_listseg_meaning.specs.Covers.{main_first, nexts}
use Rattle.dom_listseg_meaning.proofs.Frames.{set_last-push, slot_of-push}
use Rattle.dom_listseg_meaning.proofs.Fitting.{FitsState}
use Rattle.dom_listseg_meaning.proofs.Covering.{Describes, each-describes}
use Rattle.dom_listseg_meaning.proofs.Links.{assume-describes}
use Rattle.dom_listseg_meaning.proofs.StepFits.{stepped-framed, past_check-fits}
use Rattle.concrete_sem.proofs.Numbers.{gives_same}
use Rattle.std.proofs.lemmas.Option.{same_Some}

next_of : Cell → Option ℕ
next_of c = c.next

cell-is : (cells : List Cell) (l : Option ℕ) (c : ℕ × Cell) → cell_of cells l ≡ Gives c → (l ≡ Some c.0) × (slice_get cells c.0 ≡ Some c.1)
cell-is cells None c h = cc
cell-is cells (Some k) c h = by (slice_get cells k) refl h
  where
    by : (o : Option Cell) → slice_get cells k ≡ o → andthen {B = ℕ × Cell} (given_or Null o) (λ d. Gives (k, d)) ≡ Gives c → (Some k ≡ Some c.0) × (slice_get cells c.0 ≡ Some c.1)
    by None e g = cc
    by (Some d) e g =
        let w : (k, d) ≡ c = gives_same g in
        (ap (λ (y : ℕ × Cell). Some y.0) w, subst (λ (y : ℕ × Cell). slice_get cells y.0 ≡ Some y.1) w e)

get-next : (cells : List Cell) (k : ℕ) (c : Cell) → slice_get cells k ≡ Some c → slice_get (map (λ (d : Cell). d.next) cells) k ≡ Some c.next
get-next [] zero c h = cc
get-next [] (suc k) c h = cc
get-next (d ∷ ds) zero c h = let e : d ≡ c = same_Some d c h in ap (λ (y : Cell). Some y.next) e
get-next (d ∷ ds) (suc k) c h = get-next ds k c h

set-self : (xs : List (Option ℕ)) (k : ℕ) (w : Option ℕ) → slice_get xs k ≡ Some w → set xs k w ≡ xs
set-self [] k w h = refl
set-self (x ∷ xs) zero w h = let e : x ≡ w = same_Some x w h in ap (λ y. y ∷ xs) (sym e)
set-self (x ∷ xs) (suc k) w h = ap (λ v. x ∷ v) (set-self xs k w h)

module _ (ns : List ℕ) (h : Heap) (v : Variables) (vs : List Variables) (x : Heap × Variables) where
  -- what is described before
  abbrev before : List (List (Option ℕ))
  before = main_first (v ∷ vs)

  -- a statement that gives another heap and other variables describes those
  behind : (k : Heap) (w : Variables) (s : Segments) → Gives (k, w) ≡ Gives x → Describes (main_first (w ∷ vs)) (nexts k) s → Describes (main_first (x.1 ∷ vs)) (nexts x.0) s
  behind k w s g d = let e : (k, w) ≡ x = gives_same g in subst (λ (y : Heap × Variables). Describes (main_first (y.1 ∷ vs)) (nexts y.0) s) e d

  -- each graph's step covers
  moved : (e : Effect) (s : Segments) (next : List (List (Option ℕ))) (after : List (Option ℕ)) → FitsState ns s
      → ((g : Shape) → IsGraph g → Covers g before (nexts h) → AnyCovers (stepped e g) next after) → Describes before (nexts h) s → Describes next after (each (stepped e) s)
  moved e s next after f k d =
      each-describes ns (stepped e) before next (nexts h) after s f
      (λ g m c. (let w = k g m.graph c in record { one = w.0; among = w.1; graph = (stepped-framed ns e g w.0 m w.1).graph; covers = w.2 })) d

  null-covers : (p : ℕ) (g : Shape) → IsGraph g → Covers g before (nexts h) → AnyCovers (stepped (SetNull p) g) (main_first (with_link v p None ∷ vs)) (nexts h)
  unfolding stepped
  null-covers p g ok c =
      (forget_of g p None, inl refl, subst (λ w. Covers (forget_of g p None) w (nexts h)) (set_last-push (main_first vs) v.links p None) (Covers-null g before (nexts h) p c))

  copy-covers : (p q : ℕ) (g : Shape) → IsGraph g → Covers g before (nexts h) → AnyCovers (stepped (CopyLink p q) g) (main_first (with_link v p (link_at v q) ∷ vs)) (nexts h)
  unfolding stepped
  copy-covers p q g ok c =
      let e : set_last before p (slot_of before q) ≡ main_first (with_link v p (link_at v q) ∷ vs) =
      ap (set_last before p) (slot_of-push (main_first vs) v.links q) ∙ set_last-push (main_first vs) v.links p (link_at v q) in
      (forget_of g p (slot_of g.frames q), inl refl, subst (λ w. Covers (forget_of g p (slot_of g.frames q)) w (nexts h)) e (Covers-copy g before (nexts h) p q c))

  abbrev fresh : Cell
  fresh = record { item = pos 0; next = None }

  new-covers : (p : ℕ) (g : Shape) → IsGraph g → Covers g before (nexts h)
      → AnyCovers (stepped (MakeCell p) g) (main_first (with_link v p (Some (length h.cells)) ∷ vs)) (nexts (record { cells = h.cells ++ fresh ∷ []; inputs = h.inputs }))
  unfolding stepped
  new-covers p g ok c =
      let n : length (nexts h) ≡ length h.cells = length-map h.cells (λ (d : Cell). d.next) in
      let e : set_last before p (Some (length (nexts h))) ≡ main_first (with_link v p (Some (length h.cells)) ∷ vs) =
      ap (λ k. set_last before p (Some k)) n ∙ set_last-push (main_first vs) v.links p (Some (length h.cells)) in
      let m : nexts h ++ None ∷ [] ≡ map (λ (d : Cell). d.next) (h.cells ++ fresh ∷ []) = sym (map-append (λ (d : Cell). d.next) h.cells (fresh ∷ [])) in (
        new_cell_of g p,
        inl refl,
        subst (λ k. Covers (new_cell_of g p) (main_first (with_link v p (Some (length h.cells)) ∷ vs)) k) m
            (subst (λ w. Covers (new_cell_of g p) w (nexts h ++ None ∷ [])) e (Covers-new g before (nexts h) p ok c)),
      )

  -- a slot that is a cell names a node
  no-nil : (q k : ℕ) (g : Shape) → Covers g before (nexts h) → link_at v q ≡ Some k → slot_of g.frames q ≡ None → ⊥
  no-nil q k g c l e = let d : None ≡ Some k = sym (slot-null g before (nexts h) q e c) ∙ slot_of-push (main_first vs) v.links q ∙ l in cc

  read-covers : (p q : ℕ) (c : ℕ × Cell) → link_at v q ≡ Some c.0 → slice_get h.cells c.0 ≡ Some c.1
      → (g : Shape) → IsGraph g → Covers g before (nexts h) → AnyCovers (stepped (ReadNext p q) g) (main_first (with_link v p c.1.next ∷ vs)) (nexts h)
  unfolding stepped
  read-covers p q c l r g ok d = by (slot_of g.frames q) refl
    where
      by : (t : Option ℕ) → slot_of g.frames q ≡ t → AnyCovers (read_at g p t) (main_first (with_link v p c.1.next ∷ vs)) (nexts h)
      by None e = absurd (no-nil q c.0 g d l e)
      by (Some k) e =
          subst (λ w. AnyCovers (read_at g p (Some k)) w (nexts h)) (set_last-push (main_first vs) v.links p c.1.next)
          (Covers-read_any g before (nexts h) k c.0 ok p q c.1.next e (slot_of-push (main_first vs) v.links q ∙ l) (get-next h.cells c.0 c.1 r) d)

  write-covers : (p q : ℕ) (c : ℕ × Cell) → link_at v p ≡ Some c.0 → slice_get h.cells c.0 ≡ Some c.1
      → (g : Shape) → IsGraph g → Covers g before (nexts h) → AnyCovers (stepped (WriteNext p q) g) before (nexts (with_cell h c.0 (record { item = c.1.item; next = link_at v q })))
  unfolding stepped
  write-covers p q c l r g ok d = by (slot_of g.frames p) refl
    where
      after : set (nexts h) c.0 (slot_of before q) ≡ nexts (with_cell h c.0 (record { item = c.1.item; next = link_at v q }))
      after =
          ap (set (nexts h) c.0) (slot_of-push (main_first vs) v.links q)
          ∙ sym (map-set (λ (d : Cell). d.next) h.cells c.0 (record { item = c.1.item; next = link_at v q }))

      by : (t : Option ℕ) → slot_of g.frames p ≡ t → AnyCovers (write_at g t q) before (nexts (with_cell h c.0 (record { item = c.1.item; next = link_at v q })))
      by None e = absurd (no-nil p c.0 g d l e)
      by (Some k) e =
          subst (AnyCovers (write_at g (Some k) q) before) after (Covers-write_any g before (nexts h) k c.0 ok p q e (slot_of-push (main_first vs) v.links p ∙ l) d)

  -- an item changed changes no link
  item-links : (c : ℕ × Cell) (z : ℤ) → slice_get h.cells c.0 ≡ Some c.1 → nexts h ≡ nexts (with_cell h c.0 (record { item = z; next = c.1.next }))
  item-links c z r =
      sym (set-self (nexts h) c.0 c.1.next (get-next h.cells c.0 c.1 r)) ∙ sym (map-set (λ (d : Cell). d.next) h.cells c.0 (record { item = z; next = c.1.next }))

  does-describes : (e : Effect) (s : Segments) → FitsState ns s → effect_of e h v ≡ Gives x → Describes before (nexts h) s → Describes (main_first (x.1 ∷ vs)) (nexts x.0) (does e s)
  unfolding does effect_of
  does-describes Skip s f g d = behind h v s g d
  does-describes (Assert t) s f g d =
      let b = andthen-gives (truth_of v t) (λ b. if b then Gives (h, v) else Faults Failed) x g in
      by b.0 b.2
    where
      by : (b : Bool) → (if b then Gives (h, v) else Faults Failed) ≡ Gives x → Describes (main_first (x.1 ∷ vs)) (nexts x.0) s
      by true k = behind h v s k d
      by false k = cc
  does-describes (SetInt y t) s f g d =
      let z = andthen-gives (value_of v t) (λ z. Gives (h, with_number v y (Int z))) x g in
      behind h (with_number v y (Int z.0)) s z.2 d
  does-describes (Input y) s f g d = by h.inputs g
    where
      by : (zs : List ℤ) → take_input h.cells zs v y ≡ Gives x → Describes (main_first (x.1 ∷ vs)) (nexts x.0) s
      by [] k = cc
      by (z ∷ zs) k = behind (record { cells = h.cells; inputs = zs }) (with_number v y (Int z)) s k d
  does-describes (ReadElement y a t) s f g d =
      let i = andthen-gives (value_of v t) (λ i. andthen (element (array_at v a) i) (λ z. Gives (h, with_number v y (Int z)))) x g in
      let z = andthen-gives (element (array_at v a) i.0) (λ z. Gives (h, with_number v y (Int z))) x i.2 in
      behind h (with_number v y (Int z.0)) s z.2 d
  does-describes (ReadItem y q) s f g d =
      let c = andthen-gives (cell_of h.cells (link_at v q)) (λ c. Gives (h, with_number v y (Int c.1.item))) x g in
      behind h (with_number v y (Int c.0.1.item)) s c.2 d
  does-describes (MakeArray a t) s f g d =
      let n = andthen-gives (value_of v t) (λ n. andthen (new_array n) (λ zs. Gives (h, with_number v a (Array zs)))) x g in
      let zs = andthen-gives (new_array n.0) (λ zs. Gives (h, with_number v a (Array zs))) x n.2 in
      behind h (with_number v a (Array zs.0)) s zs.2 d
  does-describes (CopyArray a b) s f g d = behind h (with_number v a (Array (array_at v b))) s g d
  does-describes (WriteElement a t u) s f g d =
      let i = andthen-gives (value_of v t) (λ i. andthen (value_of v u) (λ z. andthen (with_element (array_at v a) i z) (λ zs. Gives (h, with_number v a (Array zs))))) x g in
      let z = andthen-gives (value_of v u) (λ z. andthen (with_element (array_at v a) i.0 z) (λ zs. Gives (h, with_number v a (Array zs)))) x i.2 in
      let ys = andthen-gives (with_element (array_at v a) i.0 z.0) (λ zs. Gives (h, with_number v a (Array zs))) x z.2 in
      behind h (with_number v a (Array ys.0)) s ys.2 d
  does-describes (SetNull p) s f g d =
      behind h (with_link v p None) (each (stepped (SetNull p)) s) g (moved (SetNull p) s (main_first (with_link v p None ∷ vs)) (nexts h) f (null-covers p) d)
  does-describes (MakeCell p) s f g d =
      let k : Heap = record { cells = h.cells ++ fresh ∷ []; inputs = h.inputs } in
      behind k (with_link v p (Some (length h.cells))) (each (stepped (MakeCell p)) s) g
      (moved (MakeCell p) s (main_first (with_link v p (Some (length h.cells)) ∷ vs)) (nexts k) f (new-covers p) d)
  does-describes (CopyLink p q) s f g d =
      behind h (with_link v p (link_at v q)) (each (stepped (CopyLink p q)) s) g (moved (CopyLink p q) s (main_first (with_link v p (link_at v q) ∷ vs)) (nexts h) f (copy-covers p q) d)
  does-describes (ReadNext p q) s f g d =
      let c = andthen-gives (cell_of h.cells (link_at v q)) (λ c. Gives (h, with_link v p c.1.next)) x g in
      let i = cell-is h.cells (link_at v q) c.0 c.1 in
      behind h (with_link v p c.0.1.next) (each (stepped (ReadNext p q)) s) c.2
      (moved (ReadNext p q) s (main_first (with_link v p c.0.1.next ∷ vs)) (nexts h) f (read-covers p q c.0 i.0 i.1) d)
  does-describes (WriteNext p q) s f g d =
      let c = andthen-gives (cell_of h.cells (link_at v p)) (λ c. Gives (with_cell h c.0 (record { item = c.1.item; next = link_at v q }), v)) x g in
      let i = cell-is h.cells (link_at v p) c.0 c.1 in
      let k : Heap = with_cell h c.0.0 (record { item = c.0.1.item; next = link_at v q }) in
      behind k v (each (stepped (WriteNext p q)) s) c.2 (moved (WriteNext p q) s before (nexts k) f (write-covers p q c.0 i.0 i.1) d)
  does-describes (WriteItem p t) s f g d =
      let z = andthen-gives (value_of v t) (λ z. andthen (cell_of h.cells (link_at v p)) (λ c. Gives (with_cell h c.0 (record { item = z; next = c.1.next }), v))) x g in
      let c = andthen-gives (cell_of h.cells (link_at v p)) (λ c. Gives (with_cell h c.0 (record { item = z.0; next = c.1.next }), v)) x z.2 in
      let i = cell-is h.cells (link_at v p) c.0 c.1 in
      behind (with_cell h c.0.0 (record { item = z.0; next = c.0.1.next })) v s c.2 (subst (λ k. Describes before k s) (item-links c.0 z.0 i.1) d)

  past_check-describes : (l : Layout) (o : Option Check) (s : Segments) → FitsCheck l o → ChecksTo v true o → FitsState ns s → Describes before (nexts h) s → Describes before (nexts h) (past_check assume o s)
  past_check-describes l None s f t k d = d
  past_check-describes l (Some c) s f t k d = assume-describes ns l vs v (nexts h) (checked_guard c) true s f k t d

  pub post-describes : (l : Layout) (e : Effect) (s : Segments) → fits_effect l e ≡ true → FitsState ns s → effect_of e h v ≡ Gives x → Describes before (nexts h) s → Describes (main_first (x.1 ∷ vs)) (nexts x.0) (post (Does e) s)
  unfolding post
  post-describes l e s f k g d =
      does-describes e (past_check assume (check_of e) s) (past_check-fits ns l (check_of e) s (check-fits l e f) k) g
      (past_check-describes l (check_of e) s (check-fits l e f) (check-passed e h v x g) k d)
