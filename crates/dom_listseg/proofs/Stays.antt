-- Steps that leave a graph as it is.
use Rattle.std.proofs.Common.{◌≡◌, ℕ, zero, suc, true, false, List, [], ◌∷◌, length, map, get_or, Option, None, Some, refl, sym, ◌∙◌, ap, arith}
use Rattle.std.specs.Prelude.{slice_set}
use Rattle.concrete_sem.specs.Evaluation.{same_link}
use Rattle.shape_graph.specs.declared.graph.Atom.{Atom}
use Rattle.shape_graph.specs.Shape.{Shape, shape_of, atom_at, target_at}
use Rattle.shape_steps.specs.Steps.{set_last, last_of, slot_of, forget_of, set_next_of, exposed, last_frame_of}
use Rattle.dom_listseg_meaning.specs.Operations.{read_at, write_at}
use Rattle.dom_listseg_meaning.proofs.Links.{same-is}

-- what stands there is set again
set-same : {X : Type 0} (xs : List X) (i : ℕ) (d : X) → slice_set xs i (get_or xs i d) ≡ xs
set-same [] i d = refl
set-same (x ∷ xs) zero d = refl
set-same (x ∷ xs) (suc i) d = ap (λ v. x ∷ v) (set-same xs i d)

last-same : (frames : List (List (Option ℕ))) (slot : ℕ) → set_last frames slot (slot_of frames slot) ≡ frames
last-same [] slot = refl
last-same (frame ∷ []) slot = ap (λ v. v ∷ []) (set-same frame slot None)
last-same (frame ∷ next ∷ frames) slot = ap (λ v. frame ∷ v) (last-same (next ∷ frames) slot)

slot-stays : (g : Shape) (slot : ℕ) (t : Option ℕ) → slot_of g.frames slot ≡ t → forget_of g slot t ≡ g
slot-stays g slot t e = ap (λ frames. shape_of frames g.atoms) (ap (set_last g.frames slot) (sym e) ∙ last-same g.frames slot)

pub slot_stays : (g : Shape) (slot : ℕ) (t : Option ℕ) → same_link (slot_of g.frames slot) t ≡ true → forget_of g slot t ≡ g
slot_stays g slot t e = slot-stays g slot t (same-is (slot_of g.frames slot) t e)

-- one cell with the target after it
pub behind_is : (a : Atom) (t : Option ℕ) → a.many ≡ false → same_link a.target t ≡ true → a ≡ record { many = false; target = t }
behind_is a t m e = λ i. record { many = m i; target = same-is a.target t e i }

next-stays : (g : Shape) (node : ℕ) (t : Option ℕ) → atom_at g.atoms node ≡ record { many = false; target = t } → set_next_of g node t ≡ g
next-stays g node t e = ap (shape_of g.frames) (ap (slice_set g.atoms node) (sym e) ∙ set-same g.atoms node (record { many = false; target = None }))

pub read_stays : (g : Shape) (p node : ℕ) (q : Option ℕ) → q ≡ Some node → atom_at g.atoms node ≡ record { many = false; target = slot_of g.frames p } → read_at g p q ≡ g ∷ []
read_stays g p node q w e =
    ap (read_at g p) w ∙
    ap (λ many. map (λ (h : Shape). forget_of h p (target_at h node)) (exposed many g node)) (ap (λ (a : Atom). a.many) e) ∙
    ap (λ v. v ∷ []) (slot-stays g p (target_at g node) (sym (ap (λ (a : Atom). a.target) e)))

pub write_stays : (g : Shape) (q node : ℕ) (p : Option ℕ) → p ≡ Some node → atom_at g.atoms node ≡ record { many = false; target = slot_of g.frames q } → write_at g p q ≡ g ∷ []
write_stays g q node p w e =
    ap (λ p. write_at g p q) w ∙
    ap (λ many. map (λ (h : Shape). set_next_of h node (slot_of h.frames q)) (exposed many g node)) (ap (λ (a : Atom). a.many) e) ∙
    ap (λ v. v ∷ []) (next-stays g node (slot_of g.frames q) e)

-- the one frame is the last
pub last_stays : (g : Shape) → length g.frames ≡ 1 → last_frame_of g ≡ g
last_stays g e = ap (λ frames. shape_of frames g.atoms) (by g.frames e)
  where
    by : (frames : List (List (Option ℕ))) → length frames ≡ 1 → last_of frames ∷ [] ≡ frames
    by [] e = absurd (omega arith)
    by (frame ∷ []) e = refl
    by (frame ∷ next ∷ frames) e = absurd (omega arith)
