-- Steps on graphs keep frames and targets.
use Rattle.std.proofs.Common.{◌≡◌, ℕ, ◌<◌, true, List, [], ◌∷◌, inl, inr, map, length, Option, None, Some, refl, sym, ◌∙◌, ap, subst, arith}
use Rattle.imp_slots.specs.Plain.{Layout, Effect, Skip, Assert, SetInt, Input, ReadElement, ReadItem, MakeArray, CopyArray, WriteElement, SetNull, MakeCell, CopyLink, ReadNext, WriteNext, WriteItem, Act, DoBreak, Does}
use Rattle.domain_laws.specs.Checks.{Check, check_of, checked_guard}
use Rattle.domain_laws.specs.Guards.{past_check}
use Rattle.domain_laws.proofs.CheckLaws.{FitsCheck, check-fits}
use Rattle.domain_laws.specs.Laws.{fits_act}
use Rattle.shape_graph.specs.Shape.{Shape, nodes, target_at, In}
use Rattle.shape_steps.specs.Steps.{IsTarget, forget_of, new_cell_of, set_next_of, expose_of, slot_of}
use Rattle.shape_steps.proofs.Graphs.{IsGraph-forget, IsGraph-new, IsGraph-next, target-of}
use Rattle.shape_steps.proofs.Concrete.{slot-node, slot-ok, IsExposed-all}
use Rattle.dom_listseg_meaning.specs.State.{Segments, Graphs}
use Rattle.dom_listseg_meaning.specs.Operations.{read_at, write_at, stepped, each, does, assume, post}
use Rattle.dom_listseg_meaning.proofs.Members.{In-from_map}
use Rattle.dom_listseg_meaning.proofs.Frames.{set_last-counts}
use Rattle.dom_listseg_meaning.proofs.Fitting.{Framed, FitsState, each-fits}
use Rattle.dom_listseg_meaning.proofs.Links.{assume-fits}

only : (ns : List ℕ) (g x : Shape) → Framed ns g → In x (g ∷ []) → Framed ns x
only ns g x f (inl e) = subst (Framed ns) (sym e) f
only ns g x f (inr i) = absurd i

forget-framed : (ns : List ℕ) (g : Shape) (p : ℕ) (t : Option ℕ) → Framed ns g → IsTarget (nodes g) t → Framed ns (forget_of g p t)
forget-framed ns g p t f i = record { graph = IsGraph-forget g p t f.graph i; frames = set_last-counts g.frames p t ∙ f.frames }

new-framed : (ns : List ℕ) (g : Shape) (p : ℕ) → Framed ns g → Framed ns (new_cell_of g p)
new-framed ns g p f = record { graph = IsGraph-new g p f.graph; frames = set_last-counts g.frames p (Some (nodes g)) ∙ f.frames }

read-framed : (ns : List ℕ) (g x : Shape) (p q : ℕ) (t : Option ℕ) → slot_of g.frames q ≡ t → Framed ns g → In x (read_at g p t) → Framed ns x
read-framed ns g x p q None e f i = absurd i
read-framed ns g x p q (Some k) e f i =
    let r = In-from_map (λ (h : Shape). forget_of h p (target_at h k)) x (expose_of g k) i in
    let w = IsExposed-all g k f.graph (slot-node g q k f.graph e) r.0 r.1 in
    subst (Framed ns) (sym r.2) (forget-framed ns r.0 p (target_at r.0 k) (record { graph = w.graph; frames = ap (map length) w.frames ∙ f.frames }) (target-of r.0 k (target_at r.0 k) w.graph refl))

write-framed : (ns : List ℕ) (g x : Shape) (p q : ℕ) (t : Option ℕ) → slot_of g.frames p ≡ t → Framed ns g → In x (write_at g t q) → Framed ns x
write-framed ns g x p q None e f i = absurd i
write-framed ns g x p q (Some k) e f i =
    let r = In-from_map (λ (h : Shape). set_next_of h k (slot_of h.frames q)) x (expose_of g k) i in
    let w = IsExposed-all g k f.graph (slot-node g p k f.graph e) r.0 r.1 in
    let inside : k < nodes r.0 = slot-node r.0 p k w.graph (ap (λ v. slot_of v p) w.frames ∙ e) in
    subst (Framed ns) (sym r.2) (record {
      graph = IsGraph-next r.0 k (slot_of r.0.frames q) w.graph inside (slot-ok r.0 q (slot_of r.0.frames q) w.graph refl);
      frames = ap (map length) w.frames ∙ f.frames;
    })

-- the graphs after a statement
pub stepped-framed : (ns : List ℕ) (e : Effect) (g x : Shape) → Framed ns g → In x (stepped e g) → Framed ns x
unfolding stepped
stepped-framed ns Skip g x f i = only ns g x f i
stepped-framed ns (Assert c) g x f i = only ns g x f i
stepped-framed ns (SetInt y t) g x f i = only ns g x f i
stepped-framed ns (Input y) g x f i = only ns g x f i
stepped-framed ns (ReadElement y a t) g x f i = only ns g x f i
stepped-framed ns (ReadItem y q) g x f i = only ns g x f i
stepped-framed ns (MakeArray a t) g x f i = only ns g x f i
stepped-framed ns (CopyArray a b) g x f i = only ns g x f i
stepped-framed ns (WriteElement a t u) g x f i = only ns g x f i
stepped-framed ns (SetNull p) g x f i = only ns (forget_of g p None) x (forget-framed ns g p None f tt) i
stepped-framed ns (MakeCell p) g x f i = only ns (new_cell_of g p) x (new-framed ns g p f) i
stepped-framed ns (CopyLink p q) g x f i = only ns (forget_of g p (slot_of g.frames q)) x (forget-framed ns g p (slot_of g.frames q) f (slot-ok g q (slot_of g.frames q) f.graph refl)) i
stepped-framed ns (ReadNext p q) g x f i = read-framed ns g x p q (slot_of g.frames q) refl f i
stepped-framed ns (WriteNext p q) g x f i = write-framed ns g x p q (slot_of g.frames p) refl f i
stepped-framed ns (WriteItem p t) g x f i = only ns g x f i

moved-fits : (ns : List ℕ) (e : Effect) (s : Segments) → FitsState ns s → FitsState ns (each (stepped e) s)
moved-fits ns e s h = each-fits ns ns (stepped e) s (λ g x f i. stepped-framed ns e g x f i) h

does-fits : (ns : List ℕ) (e : Effect) (s : Segments) → FitsState ns s → FitsState ns (does e s)
unfolding does
does-fits ns Skip s h = h
does-fits ns (Assert c) s h = h
does-fits ns (SetInt y t) s h = h
does-fits ns (Input y) s h = h
does-fits ns (ReadElement y a t) s h = h
does-fits ns (ReadItem y q) s h = h
does-fits ns (MakeArray a t) s h = h
does-fits ns (CopyArray a b) s h = h
does-fits ns (WriteElement a t u) s h = h
does-fits ns (SetNull p) s h = moved-fits ns (SetNull p) s h
does-fits ns (MakeCell p) s h = moved-fits ns (MakeCell p) s h
does-fits ns (CopyLink p q) s h = moved-fits ns (CopyLink p q) s h
does-fits ns (ReadNext p q) s h = moved-fits ns (ReadNext p q) s h
does-fits ns (WriteNext p q) s h = moved-fits ns (WriteNext p q) s h
does-fits ns (WriteItem p t) s h = h

pub past_check-fits : (ns : List ℕ) (l : Layout) (o : Option Check) (s : Segments) → FitsCheck l o → FitsState ns s → FitsState ns (past_check assume o s)
past_check-fits ns l None s f h = h
past_check-fits ns l (Some c) s f h = assume-fits ns l (checked_guard c) true s f h

no-graphs : (ns : List ℕ) → FitsState ns (Graphs [])
no-graphs ns = record { few = omega arith; rise = refl; each_fits = λ g i. absurd i }

pub post-fits : (ns : List ℕ) (l : Layout) (a : Act) (s : Segments) → fits_act l a ≡ true → FitsState ns s → FitsState ns (post a s)
unfolding post
post-fits ns l DoBreak s f h = no-graphs ns
post-fits ns l (Does e) s f h = does-fits ns e (past_check assume (check_of e) s) (past_check-fits ns l (check_of e) s (check-fits l e f) h)
