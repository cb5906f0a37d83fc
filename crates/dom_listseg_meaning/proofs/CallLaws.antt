-- Entering and leaving calls, main's first state, and the last frame alone.
use Rattle.std.proofs.Common.{◌≡◌, ℕ, ◌<◌, ◌-◌, List, [], ◌∷◌, ◌++◌, inl, inr, map, length, Option, None, Some, refl, sym, ◌∙◌, ap, subst, arith}
use Rattle.std.specs.List.{remove}
use Rattle.std.proofs.lemmas.List.{length-map}
use Rattle.imp_slots.specs.Plain.{Layout, Argument, IntArgument, ArrayArgument, LinkArgument, Entering, Returning, NumericResult, LinkResult}
use Rattle.concrete_sem.specs.Values.{Int, Array, Variables, Gives, andthen, array_at, link_at, with_link}
use Rattle.concrete_sem.specs.Evaluation.{value_of, side_at}
use Rattle.concrete_sem.specs.Passing.{first_number, first_link, first_variables, passed, over, pass, back}
use Rattle.domain_laws.proofs.CheckLaws.{andthen-gives}
use Rattle.shape_graph.specs.Shape.{Shape, nodes, shape_of, IsGraph, In}
use Rattle.shape_graph.specs.Covers.{Covers, start_of}
use Rattle.shape_graph.specs.Folds.{InOrder}
use Rattle.shape_steps.specs.Steps.{push_frame_of, pop_frame_of, last_frame_of, leave_of, slot_of, argument_of, set_last}
use Rattle.shape_steps.proofs.Graphs.{IsGraph-forget, IsGraph-push, IsGraph-pop, IsGraph-last}
use Rattle.shape_steps.proofs.Concrete.{slot-node, slot-ok, Covers-enter, Covers-pop, Covers-last, Covers-leave}
use Rattle.dom_listseg_meaning.specs.State.{Segments, Top, Graphs}
use Rattle.dom_listseg_meaning.specs.Operations.{each, init, link_arguments, entered, enter, returned, leave, shed}
use Rattle.dom_listseg_meaning.specs.Covers.{main_first}
use Rattle.dom_listseg_meaning.proofs.Frames.{set_last-push, last_of-push, slot_of-push, remove-push, set_last-counts, push-counts, pop-counts, last-counts}
use Rattle.dom_listseg_meaning.proofs.Fitting.{Framed, FitsGraph, FitsState, each-fits}
use Rattle.dom_listseg_meaning.proofs.Covering.{Describes, each-describes}
use Rattle.dom_listseg_meaning.proofs.Links.{side-is}
use Rattle.concrete_sem.proofs.Keeps.{over_length}
use Rattle.concrete_sem.proofs.Numbers.{gives_same}

-- one graph for each
only : (ns : List ℕ) (f : Shape → Shape) (g x : Shape) → Framed ns (f g) → In x (f g ∷ []) → Framed ns x
only ns f g x k (inl e) = subst (Framed ns) (sym e) k
only ns f g x k (inr i) = absurd i

pub single-fits : (ns ms : List ℕ) (f : Shape → Shape) (s : Segments) → ((g : Shape) → Framed ns g → Framed ms (f g)) → FitsState ns s → FitsState ms (each (λ g. f g ∷ []) s)
single-fits ns ms f s k h = each-fits ns ms (λ g. f g ∷ []) s (λ g x m i. only ms f g x (k g m) i) h

pub single-describes : (ns ms : List ℕ) (f : Shape → Shape) (variables next : List (List (Option ℕ))) (heap : List (Option ℕ)) (s : Segments) → FitsState ns s
    → ((g : Shape) → Framed ns g → Framed ms (f g)) → ((g : Shape) → Framed ns g → Covers g variables heap → Covers (f g) next heap)
    → Describes variables heap s → Describes next heap (each (λ g. f g ∷ []) s)
single-describes ns ms f variables next heap s h k c d =
    each-describes ns (λ g. f g ∷ []) variables next heap heap s h (λ g m w. record { one = f g; among = inl refl; graph = (k g m).graph; covers = c g m w }) d

map-over : {A B : Type 0} (f : A → B) (xs ys : List A) → map f (over xs ys) ≡ over (map f xs) (map f ys)
map-over f [] ys = refl
map-over f (x ∷ xs) [] = refl
map-over f (x ∷ xs) (y ∷ ys) = ap (λ v. f x ∷ v) (map-over f xs ys)

nils : (frames : List (List (Option ℕ))) (names : List (List ℕ)) → map (argument_of frames) (map first_link names) ≡ map first_link names
nils frames [] = refl
nils frames (n ∷ names) = ap (λ v. None ∷ v) (nils frames names)

entered-length : (e : Entering) (frames : List (List (Option ℕ))) → length (map (argument_of frames) (entered e)) ≡ length e.layout.links
entered-length e frames =
    length-map (entered e) (argument_of frames) ∙ over_length (link_arguments e.arguments) (map first_link e.layout.links) ∙ length-map e.layout.links first_link

pub argument-node : (g : Shape) (sides : List (Option ℕ)) (k : ℕ) → IsGraph g → In (Some k) (map (argument_of g.frames) sides) → k < nodes g
argument-node g [] k ok i = absurd i
argument-node g (None ∷ sides) k ok (inl e) = cc
argument-node g (Some q ∷ sides) k ok (inl e) = slot-node g q k ok (sym e)
argument-node g (s ∷ sides) k ok (inr i) = argument-node g sides k ok i

abbrev framed_in : Entering → Shape → Shape
framed_in e g = push_frame_of g (map (argument_of g.frames) (entered e))

enter-framed : (ns : List ℕ) (e : Entering) (g : Shape) → Framed ns g → Framed (ns ++ length e.layout.links ∷ []) (framed_in e g)
enter-framed ns e g f = record {
  graph = IsGraph-push g (map (argument_of g.frames) (entered e)) f.graph (λ k i. argument-node g (entered e) k f.graph i);
  frames = push-counts g.frames (map (argument_of g.frames) (entered e)) ∙ λ i. f.frames i ++ entered-length e g.frames i ∷ [];
}

pub enter-fits : (ns : List ℕ) (e : Entering) (s : Segments) → FitsState ns s → FitsState (ns ++ length e.layout.links ∷ []) (enter e s)
unfolding enter
enter-fits ns e s h = single-fits ns (ns ++ length e.layout.links ∷ []) (framed_in e) s (enter-framed ns e) h

passed-links : (v : Variables) (args : List Argument) (p : Variables) → passed v args ≡ Gives p → p.links ≡ map (side_at v) (link_arguments args)
passed-links v [] p g = ap (λ (y : Variables). y.links) (sym (gives_same g))
passed-links v (IntArgument e ∷ more) p g =
    let z = andthen-gives (value_of v e) (λ z. andthen (passed v more) (λ (p : Variables). Gives (record p { numbers = Int z ∷ p.numbers }))) p g in
    let m = andthen-gives (passed v more) (λ (p : Variables). Gives (record p { numbers = Int z.0 ∷ p.numbers })) p z.2 in
    ap (λ (y : Variables). y.links) (sym (gives_same m.2)) ∙ passed-links v more m.0 m.1
passed-links v (ArrayArgument a ∷ more) p g =
    let m = andthen-gives (passed v more) (λ (p : Variables). Gives (record p { numbers = Array (array_at v a) ∷ p.numbers })) p g in
    ap (λ (y : Variables). y.links) (sym (gives_same m.2)) ∙ passed-links v more m.0 m.1
passed-links v (LinkArgument s ∷ more) p g =
    let m = andthen-gives (passed v more) (λ (p : Variables). Gives (record p { links = side_at v s ∷ p.links })) p g in
    ap (λ (y : Variables). y.links) (sym (gives_same m.2)) ∙ ap (λ w. side_at v s ∷ w) (passed-links v more m.0 m.1)

sides-are : (vs : List Variables) (v : Variables) (sides : List (Option ℕ)) → map (argument_of (main_first (v ∷ vs))) sides ≡ map (side_at v) sides
sides-are vs v [] = refl
sides-are vs v (s ∷ sides) = λ i. side-is vs v s i ∷ sides-are vs v sides i

pass-links : (e : Entering) (vs : List Variables) (v u : Variables) → pass e v ≡ Gives u → map (argument_of (main_first (v ∷ vs))) (entered e) ≡ u.links
unfolding pass
pass-links e vs v u g =
    let m = andthen-gives (passed v e.arguments) (λ (p : Variables). Gives (record { numbers = over p.numbers (map first_number e.layout.numbers); links = over p.links (map first_link e.layout.links) })) u g in
    map-over (argument_of (main_first (v ∷ vs))) (link_arguments e.arguments) (map first_link e.layout.links)
    ∙ (λ i. over (sides-are vs v (link_arguments e.arguments) i) (nils (main_first (v ∷ vs)) e.layout.links i))
    ∙ ap (λ w. over w (map first_link e.layout.links)) (sym (passed-links v e.arguments m.0 m.1))
    ∙ ap (λ (y : Variables). y.links) (gives_same m.2)

pub enter-describes : (ns : List ℕ) (e : Entering) (vs : List Variables) (v u : Variables) (heap : List (Option ℕ)) (s : Segments) → FitsState ns s → pass e v ≡ Gives u
    → Describes (main_first (v ∷ vs)) heap s → Describes (main_first (u ∷ v ∷ vs)) heap (enter e s)
unfolding enter
enter-describes ns e vs v u heap s h g d =
    single-describes ns (ns ++ length e.layout.links ∷ []) (framed_in e) (main_first (v ∷ vs)) (main_first (u ∷ v ∷ vs)) heap s h (enter-framed ns e)
    (λ k m c. subst (λ w. Covers (framed_in e k) (main_first (v ∷ vs) ++ w ∷ []) heap) (pass-links e vs v u g) (Covers-enter k (main_first (v ∷ vs)) heap (entered e) c)) d

-- a frame removed, with its result taken or not
returned-framed : (ns : List ℕ) (n : ℕ) (o : Option Returning) (g : Shape) → Framed (ns ++ n ∷ []) g → Framed ns (returned o g)
returned-framed ns n None g f = record { graph = IsGraph-pop g (length g.frames - 1) f.graph; frames = pop-counts g.frames ns n f.frames }
returned-framed ns n (Some (NumericResult to from)) g f = record { graph = IsGraph-pop g (length g.frames - 1) f.graph; frames = pop-counts g.frames ns n f.frames }
returned-framed ns n (Some (LinkResult to from)) g f = record {
  graph = IsGraph-forget (pop_frame_of g (length g.frames - 1)) to (slot_of g.frames from) (IsGraph-pop g (length g.frames - 1) f.graph) (slot-ok g from (slot_of g.frames from) f.graph refl);
  frames = set_last-counts (remove g.frames (length g.frames - 1)) to (slot_of g.frames from) ∙ pop-counts g.frames ns n f.frames;
}

no-graphs : (ns : List ℕ) → FitsState ns (Graphs [])
no-graphs ns = record { few = omega arith; rise = refl; each_fits = λ g i. absurd i }

pub leave-fits : (ns : List ℕ) (n : ℕ) (o : Option Returning) (s d : Segments) → FitsState (ns ++ n ∷ []) d → FitsState ns (leave o s d)
unfolding leave
leave-fits ns n o Top Top h = tt
leave-fits ns n o Top (Graphs []) h = no-graphs ns
leave-fits ns n o Top (Graphs (k ∷ ks)) h = tt
leave-fits ns n o (Graphs []) d h = no-graphs ns
leave-fits ns n o (Graphs (g ∷ gs)) d h = single-fits (ns ++ n ∷ []) ns (returned o) d (returned-framed ns n o) h

popped : (g : Shape) (vs : List Variables) (v d : Variables) (heap : List (Option ℕ)) → Covers g (main_first (d ∷ v ∷ vs)) heap → Covers (pop_frame_of g (length g.frames - 1)) (main_first (v ∷ vs)) heap
popped g vs v d heap c =
    let n : length (main_first (d ∷ v ∷ vs)) ≡ length g.frames = ap length c.1.starts ∙ length-map g.frames (map (start_of c.0)) in
    subst (λ w. Covers (pop_frame_of g (length g.frames - 1)) w heap)
    (ap (λ k. remove (main_first (d ∷ v ∷ vs)) (k - 1)) (sym n) ∙ remove-push (main_first (v ∷ vs)) d.links)
    (Covers-pop g (main_first (d ∷ v ∷ vs)) heap (length g.frames - 1) c)

returned-covers : (o : Option Returning) (g : Shape) (vs : List Variables) (v d : Variables) (heap : List (Option ℕ)) → Covers g (main_first (d ∷ v ∷ vs)) heap → Covers (returned o g) (main_first (back o v d ∷ vs)) heap
unfolding back
returned-covers None g vs v d heap c = popped g vs v d heap c
returned-covers (Some (NumericResult to from)) g vs v d heap c = popped g vs v d heap c
returned-covers (Some (LinkResult to from)) g vs v d heap c =
    let all = main_first (d ∷ v ∷ vs) in
    let e : set_last (remove all (length all - 1)) to (slot_of all from) ≡ main_first (with_link v to (link_at d from) ∷ vs) =
    (λ i. set_last (remove-push (main_first (v ∷ vs)) d.links i) to (slot_of-push (main_first (v ∷ vs)) d.links from i)) ∙ set_last-push (main_first vs) v.links to (link_at d from) in
    subst (λ w. Covers (leave_of g to from) w heap) e (Covers-leave g all heap to from c)

pub leave-describes : (ns : List ℕ) (n : ℕ) (o : Option Returning) (vs : List Variables) (v d : Variables) (variables : List (List (Option ℕ))) (heap after : List (Option ℕ)) (s t : Segments) → FitsState (ns ++ n ∷ []) t
    → Describes variables heap s → Describes (main_first (d ∷ v ∷ vs)) after t → Describes (main_first (back o v d ∷ vs)) after (leave o s t)
unfolding leave
leave-describes ns n o vs v d variables heap after Top Top h c m = tt
leave-describes ns n o vs v d variables heap after Top (Graphs []) h c m = absurd m.1
leave-describes ns n o vs v d variables heap after Top (Graphs (k ∷ ks)) h c m = tt
leave-describes ns n o vs v d variables heap after (Graphs []) t h c m = absurd c.1
leave-describes ns n o vs v d variables heap after (Graphs (g ∷ gs)) t h c m =
    single-describes (ns ++ n ∷ []) ns (returned o) (main_first (d ∷ v ∷ vs)) (main_first (back o v d ∷ vs)) after t h (returned-framed ns n o)
    (λ k f w. returned-covers o k vs v d after w) m

-- the last frame alone
last-framed : (ns : List ℕ) (n : ℕ) (g : Shape) → Framed (ns ++ n ∷ []) g → Framed (n ∷ []) (last_frame_of g)
last-framed ns n g f = record { graph = IsGraph-last g f.graph; frames = last-counts g.frames ns n f.frames }

pub shed-fits : (ns : List ℕ) (n : ℕ) (s : Segments) → FitsState (ns ++ n ∷ []) s → FitsState (n ∷ []) (shed s)
unfolding shed
shed-fits ns n s h = single-fits (ns ++ n ∷ []) (n ∷ []) last_frame_of s (last-framed ns n) h

pub shed-describes : (ns : List ℕ) (n : ℕ) (vs : List Variables) (v : Variables) (heap : List (Option ℕ)) (s : Segments) → FitsState (ns ++ n ∷ []) s
    → Describes (main_first (v ∷ vs)) heap s → Describes (main_first (v ∷ [])) heap (shed s)
unfolding shed
shed-describes ns n vs v heap s h d =
    single-describes (ns ++ n ∷ []) (n ∷ []) last_frame_of (main_first (v ∷ vs)) (main_first (v ∷ [])) heap s h (last-framed ns n)
    (λ g m c. subst (λ w. Covers (last_frame_of g) (w ∷ []) heap) (last_of-push (main_first vs) v.links) (Covers-last g (main_first (v ∷ vs)) heap c)) d

-- main's first state
abbrev started : Layout → Shape
started l = shape_of (map first_link l.links ∷ []) []

no-node : (names : List (List ℕ)) (k : ℕ) → In (Some k) (map first_link names ++ []) → ⊥
no-node [] k i = i
no-node (n ∷ names) k (inl e) = cc
no-node (n ∷ names) k (inr i) = no-node names k i

in-order : (names : List (List ℕ)) → InOrder [] (map first_link names ++ []) 0
in-order [] = refl
in-order (n ∷ names) = (
  0,
  record {
    le = omega arith;
    stays = λ e. tt;
    begins = λ l. absurd (omega arith);
    goes = λ j l m. absurd (omega arith);
    stops = λ j l m. absurd (omega arith);
  },
  in-order names,
)

started-fits : (l : Layout) → FitsGraph (length l.links ∷ []) (started l)
started-fits l = record {
  framed = record {
    graph = record { slots_in = λ k i. absurd (no-node l.links k i); targets_in = λ j k e. cc };
    frames = ap (λ n. n ∷ []) (length-map l.links first_link);
  };
  folded = record { anchors = λ k h. absurd (omega arith); order = in-order l.links };
}

pub init-fits : (l : Layout) → FitsState (length l.links ∷ []) (init l)
unfolding init
init-fits l = record {
  few = omega arith;
  rise = refl;
  each_fits = λ g i. elim i [ inl e ↦ subst (FitsGraph (length l.links ∷ [])) (sym e) (started-fits l) | inr n ↦ absurd n ];
}

start-null : (cells : ℕ → List ℕ) (names : List (List ℕ)) → map first_link names ≡ map (start_of cells) (map first_link names)
start-null cells [] = refl
start-null cells (n ∷ names) = ap (λ v. None ∷ v) (start-null cells names)

pub init-describes : (l : Layout) (heap : List (Option ℕ)) → Describes (main_first (first_variables l ∷ [])) heap (init l)
unfolding init first_variables
init-describes l heap =
    let cells : ℕ → List ℕ = λ k. [] in (
      started l,
      inl refl,
      (
        cells,
        record {
          starts = ap (λ v. v ∷ []) (start-null cells l.links);
          counts = λ k h. absurd (omega arith);
          links = λ k h. absurd (omega arith);
          once = λ k h. absurd (omega arith);
          apart = λ j k c h. absurd (omega arith);
        },
      ),
    )
