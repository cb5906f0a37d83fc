-- The order of list segments.
use Rattle.std.specs.Prelude.{◌≡◌, ℕ, List, [], ◌∷◌, Option, true}
use Rattle.std.specs.Ordering.{eq_by_cmp}
use Rattle.std.proofs.Common.{inl, inr, subst, sym}
use Rattle.std.proofs.lemmas.Bool.{and_parts, or_cases}
use Rattle.shape_graph.specs.Order.{shape_cmp, shape_eq-same}
use Rattle.shape_graph.specs.Shape.{Shape, In}
use Rattle.shape_steps.specs.Steps.{AnyCovers}
use Rattle.cert_meaning.specs.Portable.{IsSoundOrder}
use Rattle.dom_listseg_meaning.specs.Covers.{covers, main_first, nexts}
use Rattle.dom_listseg_meaning.specs.Domain.{segments}
use Rattle.dom_listseg_meaning.specs.State.{Top, Graphs}
use Rattle.dom_listseg_words.specs.Words.{has, have_all, leq}

has-in : (hs : List Shape) (g : Shape) → has hs g ≡ true → In g hs
has-in [] g e = absurd cc
has-in (h ∷ hs) g e = elim (or_cases (eq_by_cmp shape_cmp g h) (has hs g) e) [
  | inl p ↦ inl (shape_eq-same g h p)
  | inr p ↦ inr (has-in hs g p)
]

pub all-in : (hs gs : List Shape) → have_all hs gs ≡ true → (g : Shape) → In g gs → In g hs
all-in hs [] e g i = absurd i
all-in hs (k ∷ ks) e g (inl p) = let q = and_parts (has hs k) (have_all hs ks) e in subst (λ g. In g hs) (sym p) (has-in hs k q.0)
all-in hs (k ∷ ks) e g (inr p) = let q = and_parts (has hs k) (have_all hs ks) e in all-in hs ks q.1 g p

any-below : (gs hs : List Shape) (variables : List (List (Option ℕ))) (heap : List (Option ℕ)) → have_all hs gs ≡ true → AnyCovers gs variables heap → AnyCovers hs variables heap
any-below gs hs variables heap e c = (c.0, all-in hs gs e c.0 c.1, c.2)

pub segment_order : IsSoundOrder segments covers leq
segment_order ls s Top h vs f g p e c = tt
segment_order ls Top (Graphs hs) h vs f g p e c = absurd cc
segment_order ls (Graphs gs) (Graphs hs) h vs f g p e c = any-below gs hs (main_first vs) (nexts h) e c
