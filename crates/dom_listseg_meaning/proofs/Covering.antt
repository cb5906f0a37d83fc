-- What states describe.
use Rattle.std.proofs.Common.{◌≡◌, ℕ, Bool, true, cond, List, [], inl, inr, map, Option, sym, subst}
use Rattle.std.specs.Prelude.{nat_le, length}
use Rattle.std.specs.List.{flat_map}
use Rattle.std.proofs.lemmas.Bool.{cases_Bool}
use Rattle.shape_graph.specs.Shape.{Shape, IsGraph, In}
use Rattle.shape_graph.specs.Covers.{Covers}
use Rattle.shape_graph.proofs.Covered.{Covers-fold}
use Rattle.fold_laws.specs.Folding.{fold_of}
use Rattle.fold_laws.proofs.Function.{fold_of-folds}
use Rattle.shape_steps.specs.Steps.{AnyCovers}
use Rattle.dom_listseg_meaning.specs.State.{Segments, Top, Graphs}
use Rattle.dom_listseg_meaning.specs.Sets.{union, most, capped}
use Rattle.dom_listseg_meaning.specs.Operations.{collected, each, kept, join}
use Rattle.dom_listseg_meaning.proofs.Members.{union-left, union-right, In-flat_map, In-filter}
use Rattle.dom_listseg_meaning.proofs.Fitting.{Framed, FitsState}
use Rattle.shape_graph.proofs.Lists.{In-map}

-- the state describes the links
abbrev pub Describes : List (List (Option ℕ)) → List (Option ℕ) → Segments → Type 0
Describes variables heap Top = Unit {0}
Describes variables heap (Graphs gs) = AnyCovers gs variables heap

capped-describes : (variables : List (List (Option ℕ))) (heap : List (Option ℕ)) (gs : List Shape) → AnyCovers gs variables heap → Describes variables heap (capped gs)
unfolding capped
capped-describes variables heap gs c =
    elim (cases_Bool (nat_le (length gs) most)) [
      | inl e ↦ subst (λ b. Describes variables heap (cond b (Graphs gs) Top)) (sym e) c
      | inr e ↦ subst (λ b. Describes variables heap (cond b (Graphs gs) Top)) (sym e) tt
    ]

-- one of the graphs is a graph, and covers the links
pub record OneCovers (gs : List Shape) (variables : List (List (Option ℕ))) (heap : List (Option ℕ)) : Type 0 where
  pub one : Shape
  pub among : In one gs
  pub graph : IsGraph one
  pub covers : Covers one variables heap

collected-describes : (variables : List (List (Option ℕ))) (heap : List (Option ℕ)) (gs : List Shape) → OneCovers gs variables heap → Describes variables heap (collected gs)
collected-describes variables heap gs c =
    capped-describes variables heap (union [] (map fold_of gs)) (
      fold_of c.one,
      union-right (fold_of c.one) [] (map fold_of gs) (In-map fold_of c.one gs c.among),
      Covers-fold c.one (fold_of c.one) variables heap c.graph (fold_of-folds c.one c.graph) c.covers,
    )

-- what each graph's step describes, the state's does
pub each-describes : (ns : List ℕ) (f : Shape → List Shape) (variables next : List (List (Option ℕ))) (heap after : List (Option ℕ)) (s : Segments) → FitsState ns s
    → ((g : Shape) → Framed ns g → Covers g variables heap → OneCovers (f g) next after) → Describes variables heap s → Describes next after (each f s)
each-describes ns f variables next heap after Top h k d = tt
each-describes ns f variables next heap after (Graphs gs) h k d =
    let c = k d.0 (h.each_fits d.0 d.1).framed d.2 in
    collected-describes next after (flat_map f gs) (record { one = c.one; among = In-flat_map f d.0 c.one gs d.1 c.among; graph = c.graph; covers = c.covers })

pub kept-describes : (ns : List ℕ) (test : Shape → Bool) (variables : List (List (Option ℕ))) (heap : List (Option ℕ)) (s : Segments) → FitsState ns s
    → ((g : Shape) → Framed ns g → Covers g variables heap → test g ≡ true) → Describes variables heap s → Describes variables heap (kept test s)
kept-describes ns test variables heap Top h k d = tt
kept-describes ns test variables heap (Graphs gs) h k d = (d.0, In-filter test d.0 gs (k d.0 (h.each_fits d.0 d.1).framed d.2) d.1, d.2)

pub join-left : (variables : List (List (Option ℕ))) (heap : List (Option ℕ)) (s t : Segments) → Describes variables heap s → Describes variables heap (join s t)
unfolding join
join-left variables heap Top t d = tt
join-left variables heap (Graphs gs) Top d = tt
join-left variables heap (Graphs gs) (Graphs hs) d = capped-describes variables heap (union gs hs) (d.0, union-left d.0 gs hs d.1, d.2)

pub join-right : (variables : List (List (Option ℕ))) (heap : List (Option ℕ)) (s t : Segments) → Describes variables heap t → Describes variables heap (join s t)
unfolding join
join-right variables heap Top t d = tt
join-right variables heap (Graphs gs) Top d = tt
join-right variables heap (Graphs gs) (Graphs hs) d = capped-describes variables heap (union gs hs) (d.0, union-right d.0 gs hs d.1, d.2)
