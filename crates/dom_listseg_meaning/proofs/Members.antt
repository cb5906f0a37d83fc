-- What a union has: the graphs of both parts, and no others.
use Rattle.std.proofs.Common.{◌≡◌, Bool, true, false, List, [], ◌∷◌, ◌++◌, ◌⊎◌, inl, inr, map, refl, sym, ◌∙◌, ap, subst, cond}
use Rattle.std.specs.List.{filter, flat_map}
use Rattle.std.specs.Ordering.{match_ordering}
use Rattle.std.specs.declared.cmp.Ordering.{Ordering}
use Rattle.std.specs.declared.cmp.Ordering.TheVariants.{Less, Equal, Greater}
use Rattle.shape_graph.specs.Shape.{Shape, In}
use Rattle.shape_graph.specs.Order.{shape_cmp, shape_cmp-same}
use Rattle.shape_graph.proofs.Lists.{In-append, In-left, In-right}
use Rattle.dom_listseg_meaning.specs.Sets.{put, union}

kept-behind : (g h x : Shape) (hs : List Shape) (o : Ordering) → In x (h ∷ hs) → (In x hs → In x (put g hs)) → In x (match_ordering o (g ∷ h ∷ hs) (h ∷ hs) (h ∷ put g hs))
kept-behind g h x hs Less i later = inr i
kept-behind g h x hs Equal i later = i
kept-behind g h x hs Greater (inl e) later = inl e
kept-behind g h x hs Greater (inr i) later = inr (later i)

pub put-kept : (g x : Shape) (gs : List Shape) → In x gs → In x (put g gs)
put-kept g x [] i = absurd i
put-kept g x (h ∷ hs) i = kept-behind g h x hs (shape_cmp g h) i (put-kept g x hs)

new : (g h : Shape) (hs : List Shape) (o : Ordering) → shape_cmp g h ≡ o → In g (put g hs) → In g (match_ordering o (g ∷ h ∷ hs) (h ∷ hs) (h ∷ put g hs))
new g h hs Less e i = inl refl
new g h hs Equal e i = inl (shape_cmp-same g h e)
new g h hs Greater e i = inr i

pub put-new : (g : Shape) (gs : List Shape) → In g (put g gs)
put-new g [] = inl refl
put-new g (h ∷ hs) = new g h hs (shape_cmp g h) refl (put-new g hs)

pub union-left : (x : Shape) (gs hs : List Shape) → In x gs → In x (union gs hs)
union-left x gs [] i = i
union-left x gs (h ∷ hs) i = union-left x (put h gs) hs (put-kept h x gs i)

pub union-right : (x : Shape) (gs hs : List Shape) → In x hs → In x (union gs hs)
union-right x gs [] i = absurd i
union-right x gs (h ∷ hs) (inl e) = union-left x (put h gs) hs (subst (λ v. In v (put h gs)) (sym e) (put-new h gs))
union-right x gs (h ∷ hs) (inr i) = union-right x (put h gs) hs i

from : (g h x : Shape) (hs : List Shape) (o : Ordering) → (In x (put g hs) → (x ≡ g) ⊎ In x hs) → In x (match_ordering o (g ∷ h ∷ hs) (h ∷ hs) (h ∷ put g hs)) → (x ≡ g) ⊎ In x (h ∷ hs)
from g h x hs Less later i = i
from g h x hs Equal later i = inr i
from g h x hs Greater later (inl e) = inr (inl e)
from g h x hs Greater later (inr i) = elim (later i) [ inl e ↦ inl e | inr j ↦ inr (inr j) ]

pub put-from : (g x : Shape) (gs : List Shape) → In x (put g gs) → (x ≡ g) ⊎ In x gs
put-from g x [] i = i
put-from g x (h ∷ hs) i = from g h x hs (shape_cmp g h) (put-from g x hs) i

pub union-from : (x : Shape) (gs hs : List Shape) → In x (union gs hs) → In x gs ⊎ In x hs
union-from x gs [] i = inl i
union-from x gs (h ∷ hs) i =
    elim (union-from x (put h gs) hs i) [
      | inl j ↦ elim (put-from h x gs j) [ inl e ↦ inr (inl e) | inr k ↦ inl k ]
      | inr j ↦ inr (inr j)
    ]

pub union-push : (gs hs : List Shape) (h : Shape) → union gs (hs ++ h ∷ []) ≡ put h (union gs hs)
union-push gs [] h = refl
union-push gs (i ∷ is) h = union-push (put i gs) is h

-- members of a list that a function made
pub In-from_map : {X Y : Type 0} (f : X → Y) (y : Y) (xs : List X) → In y (map f xs) → (x : X) × In x xs × (y ≡ f x)
In-from_map f y [] i = absurd i
In-from_map f y (x ∷ xs) (inl e) = (x, inl refl, e)
In-from_map f y (x ∷ xs) (inr i) = let r = In-from_map f y xs i in (r.0, inr r.1, r.2)

pub In-flat_map : (f : Shape → List Shape) (x y : Shape) (xs : List Shape) → In x xs → In y (f x) → In y (flat_map f xs)
In-flat_map f x y [] i j = absurd i
In-flat_map f x y (z ∷ zs) (inl e) j = In-left y (f z) (flat_map f zs) (subst (λ v. In y (f v)) e j)
In-flat_map f x y (z ∷ zs) (inr i) j = In-right y (f z) (flat_map f zs) (In-flat_map f x y zs i j)

pub In-from_flat_map : (f : Shape → List Shape) (y : Shape) (xs : List Shape) → In y (flat_map f xs) → (x : Shape) × In x xs × In y (f x)
In-from_flat_map f y [] i = absurd i
In-from_flat_map f y (z ∷ zs) i =
    elim (In-append y (f z) (flat_map f zs) i) [
      | inl j ↦ (z, inl refl, j)
      | inr j ↦ (let r = In-from_flat_map f y zs j in (r.0, inr r.1, r.2))
    ]

-- members of a list that was sifted
sifted : (test : Shape → Bool) (x z : Shape) (zs : List Shape) (b : Bool) → test z ≡ b → test x ≡ true → In x (z ∷ zs) → (In x zs → In x (filter test zs)) → In x (cond b (z ∷ filter test zs) (filter test zs))
sifted test x z zs true e t (inl d) later = inl d
sifted test x z zs true e t (inr i) later = inr (later i)
sifted test x z zs false e t (inl d) later = let f : false ≡ true = sym e ∙ ap test (sym d) ∙ t in cc
sifted test x z zs false e t (inr i) later = later i

pub In-filter : (test : Shape → Bool) (x : Shape) (xs : List Shape) → test x ≡ true → In x xs → In x (filter test xs)
In-filter test x [] t i = absurd i
In-filter test x (z ∷ zs) t i = sifted test x z zs (test z) refl t i (In-filter test x zs t)

passed : (test : Shape → Bool) (x z : Shape) (zs : List Shape) (b : Bool) → (In x (filter test zs) → In x zs) → In x (cond b (z ∷ filter test zs) (filter test zs)) → In x (z ∷ zs)
passed test x z zs true later (inl e) = inl e
passed test x z zs true later (inr i) = inr (later i)
passed test x z zs false later i = inr (later i)

pub In-from_filter : (test : Shape → Bool) (x : Shape) (xs : List Shape) → In x (filter test xs) → In x xs
In-from_filter test x [] i = absurd i
In-from_filter test x (z ∷ zs) i = passed test x z zs (test z) (In-from_filter test x zs) i
