-- Joins and widenings are above both sides.
use Rattle.std.specs.Prelude.{◌≡◌, nat_le, List, [], ◌∷◌, length, Bool, true, false, if◌then◌else◌}
use Rattle.std.specs.Ordering.{eq_by_cmp}
use Rattle.std.proofs.Common.{refl, inl, inr, subst}
use Rattle.std.proofs.lemmas.Bool.{and_from, or_right, or_left}
use Rattle.shape_graph.specs.Order.{shape_cmp, shape_equiv}
use Rattle.shape_graph.specs.Shape.{Shape, In}
use Rattle.cert_meaning.specs.Portable.{HasUpperBounds}
use Rattle.dom_listseg_meaning.proofs.Members.{union-left, union-right}
use Rattle.dom_listseg_meaning.specs.Domain.{segments}
use Rattle.dom_listseg_meaning.specs.Operations.{join}
use Rattle.dom_listseg_meaning.specs.Sets.{union, capped, most}
use Rattle.dom_listseg_meaning.specs.State.{Segments, Top, Graphs}
use Rattle.dom_listseg_words.specs.Words.{has, have_all, leq}
use Rattle.dom_listseg_words.proofs.Ordered.{all-in}

in-has : (hs : List Shape) (g : Shape) → In g hs → has hs g ≡ true
in-has [] g i = absurd i
in-has (h ∷ hs) g (inl e) = or_left (eq_by_cmp shape_cmp g h) (has hs g) (subst (λ (h : Shape). eq_by_cmp shape_cmp g h ≡ true) e (shape_equiv.refl g))
in-has (h ∷ hs) g (inr i) = or_right (eq_by_cmp shape_cmp g h) (has hs g) (in-has hs g i)

in-all : (hs gs : List Shape) → ((g : Shape) → In g gs → In g hs) → have_all hs gs ≡ true
in-all hs [] f = refl
in-all hs (g ∷ gs) f = and_from (has hs g) (have_all hs gs) (in-has hs g (f g (inl refl))) (in-all hs gs (λ k i. f k (inr i)))

own : (s : Segments) → leq s s ≡ true
own Top = refl
own (Graphs gs) = in-all gs gs (λ g i. i)

through : (s t u : Segments) → leq s t ≡ true → leq t u ≡ true → leq s u ≡ true
through s t Top e f = refl
through s Top (Graphs us) e f = absurd cc
through Top (Graphs ts) (Graphs us) e f = absurd cc
through (Graphs ss) (Graphs ts) (Graphs us) e f = in-all us ss (λ g i. all-in us ts f g (all-in ts ss e g i))

capped-above : (gs us : List Shape) → have_all us gs ≡ true → leq (Graphs gs) (capped us) ≡ true
unfolding capped
capped-above gs us e = by (nat_le (length us) most)
  where
    by : (b : Bool) → leq (Graphs gs) (if b then Graphs us else Top) ≡ true
    by true = e
    by false = refl

above-left : (s t : Segments) → leq s (join s t) ≡ true
unfolding join
above-left Top t = refl
above-left (Graphs gs) Top = refl
above-left (Graphs gs) (Graphs hs) = capped-above gs (union gs hs) (in-all (union gs hs) gs (λ g i. union-left g gs hs i))

above-right : (s t : Segments) → leq t (join s t) ≡ true
unfolding join
above-right Top t = refl
above-right (Graphs gs) Top = refl
above-right (Graphs gs) (Graphs hs) = capped-above hs (union gs hs) (in-all (union gs hs) hs (λ g i. union-right g gs hs i))

pub segment_bounds : HasUpperBounds segments leq
segment_bounds = record {
  self = λ ls s f. own s;
  trans = λ ls s t u f g h. through s t u;
  join_left = λ ls s t f g. above-left s t;
  join_right = λ ls s t f g. above-right s t;
  widen_left = λ thresholds ls s t r f g. above-left s t;
  widen_right = λ thresholds ls s t r f g. above-right s t;
}
