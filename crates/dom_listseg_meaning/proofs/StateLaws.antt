-- Equal states are the same, and feed a hasher the same.
use Rattle.std.proofs.Common.{◌≡◌, refl, ap, subst, true}
use Rattle.std.specs.Bool.{Decides}
use Rattle.std.specs.Ordering.{eq_by_cmp}
use Rattle.std.specs.Cmp.{IsEquivalence, IsPartialEquivalence, decided, partial_equiv_from_equiv}
use Rattle.std.proofs.lemmas.Bool.{false≢true}
use lib.Pointwise.{pointwise_decides}
use Rattle.shape_graph.specs.Shape.{Shape}
use Rattle.shape_graph.specs.Order.{shape_cmp, shape_eq-same, shape_equiv}
use Rattle.dom_listseg_meaning.specs.State.{Segments, Top, Graphs, segments_same, segments_fed}

shape_Decides : (g h : Shape) → Decides (eq_by_cmp shape_cmp g h) (g ≡ h)
shape_Decides g h = (shape_eq-same g h, λ e. subst (λ (x : Shape). eq_by_cmp shape_cmp g x ≡ true) e (shape_equiv.refl g))

segments_equal : (a b : Segments) → segments_same a b ≡ true → a ≡ b
segments_equal Top Top h = refl
segments_equal Top (Graphs hs) h = absurd (false≢true h)
segments_equal (Graphs gs) Top h = absurd (false≢true h)
segments_equal (Graphs gs) (Graphs hs) h = ap Graphs ((pointwise_decides shape_Decides gs hs).0 h)

segments_self : (a : Segments) → segments_same a a ≡ true
segments_self Top = refl
segments_self (Graphs gs) = (pointwise_decides shape_Decides gs gs).1 refl

pub segments_Decides : (a b : Segments) → Decides (segments_same a b) (a ≡ b)
segments_Decides a b = (segments_equal a b, λ e. subst (λ z. segments_same a z ≡ true) e (segments_self a))

pub segments_equiv : IsEquivalence segments_same
segments_equiv = decided segments_same segments_Decides

pub segments_per : IsPartialEquivalence segments_same
segments_per = partial_equiv_from_equiv segments_equiv

pub segments_fed-same : (a b : Segments) → segments_same a b ≡ true → segments_fed a ≡ segments_fed b
segments_fed-same a b h = ap segments_fed (segments_equal a b h)
