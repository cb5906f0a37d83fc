-- Frames whose slots start with nil, or with arguments.
use Rattle.std.proofs.Common.{◌≡◌, ℕ, zero, suc, ◌+◌, ◌<◌, ◌≤◌, List, [], ◌∷◌, ◌++◌, length, map, replicate, drop, get_or, Option, None, refl, sym, ◌∙◌, ap, inl, arith, add-one}
use Rattle.std.proofs.lemmas.List.{append_assoc, append-nil, drop_all}
use Rattle.imp_slots.specs.Plain.{Layout}
use Rattle.concrete_sem.specs.Passing.{first_link, over}
use Rattle.shape_graph.specs.declared.graph.Atom.{Atom}
use Rattle.shape_graph.specs.Shape.{Shape, IsGraph, shape_of}
use Rattle.fold_laws.specs.Folding.{fold_of}
use Rattle.fold_laws.proofs.Function.{fold_of-self}
use Rattle.shape_steps.proofs.Graphs.{moved}
use Rattle.dom_listseg_meaning.specs.State.{Graphs}
use Rattle.dom_listseg_meaning.specs.Sets.{put}
use Rattle.dom_listseg_meaning.specs.Operations.{init}
use Rattle.dom_listseg_meaning.proofs.CallLaws.{init-fits}

pub nils_are : (names : List (List ℕ)) → replicate {A = Option ℕ} (length names) None ≡ map first_link names
nils_are [] = refl
nils_are (n ∷ names) = ap (λ v. None ∷ v) (nils_are names)

-- main's first graph
pub started-graph : (l : Layout) (frames : List (List (Option ℕ))) (atoms : List Atom) → frames ≡ map first_link l.links ∷ [] → atoms ≡ [] → IsGraph (shape_of frames atoms)
unfolding init
started-graph l frames atoms f a = moved (shape_of (map first_link l.links ∷ []) []) frames atoms ((init-fits l).each_fits (shape_of (map first_link l.links ∷ []) []) (inl refl)).framed.graph f a

-- and main's first state
pub started_state : (l : Layout) (g : Shape) (gs : List Shape) → g ≡ shape_of (map first_link l.links ∷ []) [] → gs ≡ put (fold_of g) [] → Graphs gs ≡ init l
unfolding init
started_state l g gs e p =
    let first : Shape = shape_of (map first_link l.links ∷ []) [] in
    let fits = (init-fits l).each_fits first (inl refl) in
    ap Graphs (p ∙ ap (λ x. fold_of x ∷ []) e ∙ ap (λ x. x ∷ []) (fold_of-self first fits.framed.graph fits.folded))

nil-next : (names : List (List ℕ)) (i : ℕ) → i < length names → map first_link (drop i names) ≡ None ∷ map first_link (drop (suc i) names)
nil-next [] i h = absurd (omega arith)
nil-next (n ∷ names) zero h = refl
nil-next (n ∷ names) (suc i) h = nil-next names i (omega arith)

side-next : (xs : List (Option ℕ)) (names : List (List ℕ)) (i : ℕ) → i < length names → over (drop i xs) (map first_link (drop i names)) ≡ get_or xs i None ∷ over (drop (suc i) xs) (map first_link (drop (suc i) names))
side-next xs [] i h = absurd (omega arith)
side-next [] (n ∷ names) zero h = refl
side-next [] (n ∷ names) (suc i) h = nil-next names i (omega arith)
side-next (x ∷ xs) (n ∷ names) zero h = refl
side-next (x ∷ xs) (n ∷ names) (suc i) h = side-next xs names i (omega arith)

-- the sides so far, and those to come
pub sides_next : (xs : List (Option ℕ)) (names : List (List ℕ)) (sides after whole : List (Option ℕ)) (i : ℕ) → i < length names → sides ++ over (drop i xs) (map first_link (drop i names)) ≡ whole → after ≡ sides ++ get_or xs i None ∷ []
    → after ++ over (drop (i + 1) xs) (map first_link (drop (i + 1) names)) ≡ whole
sides_next xs names sides after whole i h w e =
    rw add-one
    (ap (λ v. v ++ over (drop (suc i) xs) (map first_link (drop (suc i) names))) e
    ∙ append_assoc sides (get_or xs i None ∷ []) (over (drop (suc i) xs) (map first_link (drop (suc i) names)))
    ∙ ap (λ v. sides ++ v) (sym (side-next xs names i h)) ∙ w)

over-none : (xs : List (Option ℕ)) → over xs [] ≡ []
over-none [] = refl
over-none (x ∷ xs) = refl

-- after the last slot none are to come
pub sides_all : (xs : List (Option ℕ)) (names : List (List ℕ)) (sides whole : List (Option ℕ)) (i : ℕ) → length names ≤ i → sides ++ over (drop i xs) (map first_link (drop i names)) ≡ whole → sides ≡ whole
sides_all xs names sides whole i h w =
    sym (append-nil sides) ∙ ap (λ v. sides ++ v) (sym (ap (λ ns. over (drop i xs) (map first_link ns)) (drop_all i names h) ∙ over-none (drop i xs))) ∙ w
