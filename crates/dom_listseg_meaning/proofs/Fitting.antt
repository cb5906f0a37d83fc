-- States that fit, as facts.
use Rattle.std.proofs.Common.{◌≡◌, ℕ, ◌≤◌, Bool, true, false, cond, List, [], ◌∷◌, inl, inr, map, length, refl, sym, ◌∙◌, ap, subst, arith}
use Rattle.std.specs.Prelude.{◌&&◌, nat_le, nat_eq}
use Rattle.std.specs.List.{filter, flat_map}
use Rattle.std.specs.Bool.{Decides}
use Rattle.std.proofs.lemmas.Bool.{and_parts, and_from, cases_Bool}
use Rattle.std.proofs.lemmas.Bool.Decides.{nat_tests}
use Rattle.std.proofs.lemmas.List.{length-map}
use lib.Pointwise.{pointwise, pointwise_decides}
use Rattle.imp_slots.specs.Plain.{Layout}
use Rattle.shape_graph.specs.Shape.{Shape, IsGraph, In}
use Rattle.shape_graph.specs.Folds.{Folds, IsFolded}
use Rattle.fold_laws.specs.Folding.{fold_of, is_folded}
use Rattle.fold_laws.proofs.Function.{fold_of-folds, fold_of-graph, fold_of-folded, is_folded-graph, is_folded-folded, folded-is_folded}
use Rattle.dom_listseg_meaning.specs.State.{Segments, Top, Graphs}
use Rattle.dom_listseg_meaning.specs.Sets.{union, rises, most, capped}
use Rattle.dom_listseg_meaning.specs.Operations.{collected, each, kept}
use Rattle.dom_listseg_meaning.specs.Covers.{counts, fits_graph, fit_graphs, fits}
use Rattle.dom_listseg_meaning.proofs.Members.{union-from, In-from_map, In-from_flat_map, In-from_filter}
use Rattle.dom_listseg_meaning.proofs.Rising.{union_rises, filter_rises}

-- a graph of frames with these numbers of slots
pub record Framed (ns : List ℕ) (g : Shape) : Type 0 where
  pub graph : IsGraph g
  pub frames : map length g.frames ≡ ns

pub record FitsGraph (ns : List ℕ) (g : Shape) : Type 0 where
  pub framed : Framed ns g
  pub folded : IsFolded g

pub record FitGraphs (ns : List ℕ) (gs : List Shape) : Type 0 where
  pub few : length gs ≤ 64
  pub rise : rises gs ≡ true
  pub each_fits : (g : Shape) → In g gs → FitsGraph ns g

abbrev pub FitsState : List ℕ → Segments → Type 0
FitsState ns Top = Unit {0}
FitsState ns (Graphs gs) = FitGraphs ns gs

nat_eq-Decides : (m n : ℕ) → Decides (nat_eq m n) (m ≡ n)
nat_eq-Decides m n = (λ h. grind (arith, nat_tests), λ e. grind (arith, nat_tests))

graph-fits : (ls : List Layout) (g : Shape) → fits_graph ls g ≡ true → FitsGraph (counts ls) g
graph-fits ls g h =
    let p = and_parts (is_folded g) (pointwise nat_eq (map length g.frames) (counts ls)) h in
    record {
      framed = record { graph = is_folded-graph g p.0; frames = (pointwise_decides nat_eq-Decides (map length g.frames) (counts ls)).0 p.1 };
      folded = is_folded-folded g p.0;
    }

fits-graph : (ls : List Layout) (g : Shape) → FitsGraph (counts ls) g → fits_graph ls g ≡ true
fits-graph ls g f =
    and_from (is_folded g) (pointwise nat_eq (map length g.frames) (counts ls)) (folded-is_folded g f.framed.graph f.folded)
    ((pointwise_decides nat_eq-Decides (map length g.frames) (counts ls)).1 f.framed.frames)

graphs-fit : (ls : List Layout) (gs : List Shape) → fit_graphs ls gs ≡ true → (g : Shape) → In g gs → FitsGraph (counts ls) g
graphs-fit ls [] h g i = absurd i
graphs-fit ls (k ∷ ks) h g (inl e) = subst (FitsGraph (counts ls)) (sym e) (graph-fits ls k (and_parts (fits_graph ls k) (fit_graphs ls ks) h).0)
graphs-fit ls (k ∷ ks) h g (inr i) = graphs-fit ls ks (and_parts (fits_graph ls k) (fit_graphs ls ks) h).1 g i

fit-graphs : (ls : List Layout) (gs : List Shape) → ((g : Shape) → In g gs → FitsGraph (counts ls) g) → fit_graphs ls gs ≡ true
fit-graphs ls [] f = refl
fit-graphs ls (k ∷ ks) f = and_from (fits_graph ls k) (fit_graphs ls ks) (fits-graph ls k (f k (inl refl))) (fit-graphs ls ks (λ g i. f g (inr i)))

pub few-is : (n : ℕ) → nat_le n most ≡ true → n ≤ 64
few-is n h = grind (arith, nat_tests)

pub is-few : (n : ℕ) → n ≤ 64 → nat_le n most ≡ true
is-few n h = grind (arith, nat_tests)

-- the test of fitting, as a fact
pub fits-state : (s : Segments) (ls : List Layout) → fits s ls ≡ true → FitsState (counts ls) s
unfolding fits
fits-state Top ls h = tt
fits-state (Graphs gs) ls h =
    let p = and_parts (nat_le (length gs) most) (rises gs && fit_graphs ls gs) h in
    let q = and_parts (rises gs) (fit_graphs ls gs) p.1 in
    record { few = few-is (length gs) p.0; rise = q.0; each_fits = graphs-fit ls gs q.1 }

pub state-fits : (s : Segments) (ls : List Layout) → FitsState (counts ls) s → fits s ls ≡ true
unfolding fits
state-fits Top ls f = refl
state-fits (Graphs gs) ls f =
    and_from (nat_le (length gs) most) (rises gs && fit_graphs ls gs) (is-few (length gs) f.few)
    (and_from (rises gs) (fit_graphs ls gs) f.rise (fit-graphs ls gs f.each_fits))

-- capped graphs fit
pub capped-fits : (ns : List ℕ) (gs : List Shape) → rises gs ≡ true → ((g : Shape) → In g gs → FitsGraph ns g) → FitsState ns (capped gs)
unfolding capped
capped-fits ns gs r f =
    elim (cases_Bool (nat_le (length gs) most)) [
      | inl e ↦ subst (λ b. FitsState ns (cond b (Graphs gs) Top)) (sym e) (record { few = few-is (length gs) e; rise = r; each_fits = f })
      | inr e ↦ subst (λ b. FitsState ns (cond b (Graphs gs) Top)) (sym e) tt
    ]

counts-same : {X Y : Type 0} (f : X → Y) (frames : List (List X)) → map length (map (map f) frames) ≡ map length frames
counts-same f [] = refl
counts-same f (x ∷ xs) = λ i. length-map x f i ∷ counts-same f xs i

-- a graph folded
pub fold-fits : (ns : List ℕ) (g : Shape) → Framed ns g → FitsGraph ns (fold_of g)
fold-fits ns g f = record {
  framed = record { graph = fold_of-graph g; frames = frames (fold_of-folds g f.graph) };
  folded = fold_of-folded g f.graph;
}
  where
    frames : Folds g (fold_of g) → map length (fold_of g).frames ≡ ns
    frames d = ap (map length) d.1.frames ∙ counts-same _ g.frames ∙ f.frames

collected-fits : (ns : List ℕ) (gs : List Shape) → ((g : Shape) → In g gs → Framed ns g) → FitsState ns (collected gs)
collected-fits ns gs f =
    capped-fits ns (union [] (map fold_of gs)) (union_rises [] (map fold_of gs) refl)
    (λ x i. elim (union-from x [] (map fold_of gs) i) [
      | inl j ↦ absurd j
      | inr j ↦ (let r = In-from_map fold_of x gs j in subst (FitsGraph ns) (sym r.2) (fold-fits ns r.0 (f r.0 r.1)))
    ])

pub each-fits : (ns ms : List ℕ) (f : Shape → List Shape) (s : Segments) → ((g x : Shape) → Framed ns g → In x (f g) → Framed ms x) → FitsState ns s → FitsState ms (each f s)
each-fits ns ms f Top k h = tt
each-fits ns ms f (Graphs gs) k h =
    collected-fits ms (flat_map f gs) (λ x i. (let r = In-from_flat_map f x gs i in k r.0 x (h.each_fits r.0 r.1).framed r.2))

filter-few : (test : Shape → Bool) (gs : List Shape) → length (filter test gs) ≤ length gs
filter-few test [] = omega arith
filter-few test (g ∷ gs) = by (test g) (filter-few test gs)
  where
    by : (b : Bool) → length (filter test gs) ≤ length gs → length (cond b (g ∷ filter test gs) (filter test gs)) ≤ length (g ∷ gs)
    by true h = omega arith
    by false h = omega arith

pub kept-fits : (ns : List ℕ) (test : Shape → Bool) (s : Segments) → FitsState ns s → FitsState ns (kept test s)
kept-fits ns test Top h = tt
kept-fits ns test (Graphs gs) h = record {
  few = (let a = filter-few test gs in let b = h.few in omega arith);
  rise = filter_rises test gs h.rise;
  each_fits = λ g i. h.each_fits g (In-from_filter test g gs i);
}
