-- Lists of graphs in strict order stay so.
use Rattle.std.proofs.Common.{◌≡◌, Bool, true, false, cond, List, [], ◌∷◌, refl, ◌∙◌, ap}
use Rattle.std.specs.List.{filter}
use Rattle.std.specs.Ordering.{match_ordering, ordering_reverse, is_lt}
use Rattle.std.specs.declared.cmp.Ordering.{Ordering}
use Rattle.std.specs.declared.cmp.Ordering.TheVariants.{Less, Equal, Greater}
use Rattle.std.proofs.lemmas.Bool.{and_parts, and_from}
use Rattle.shape_graph.specs.Shape.{Shape}
use Rattle.shape_graph.specs.Order.{shape_cmp, shape_total}
use Rattle.dom_listseg_meaning.specs.Sets.{put, union, rises}

pub less-is : (o : Ordering) → is_lt o ≡ true → o ≡ Less
less-is Less h = refl
less-is Equal h = cc
less-is Greater h = cc

above : (g h : Shape) → shape_cmp g h ≡ Greater → is_lt (shape_cmp h g) ≡ true
above g h e = ap is_lt (shape_total.antisymm h g ∙ ap ordering_reverse e)

below : (g h : Shape) → shape_cmp g h ≡ Less → is_lt (shape_cmp g h) ≡ true
below g h e = ap is_lt e

pub tail-rises : (h : Shape) (hs : List Shape) → rises (h ∷ hs) ≡ true → rises hs ≡ true
tail-rises h [] r = refl
tail-rises h (i ∷ is) r = (and_parts (is_lt (shape_cmp h i)) (rises (i ∷ is)) r).1

-- h below g, and below what follows it, is below what follows it with g put in
behind : (h g i : Shape) (is : List Shape) (o : Ordering) → is_lt (shape_cmp h g) ≡ true → is_lt (shape_cmp h i) ≡ true
    → rises (match_ordering o (g ∷ i ∷ is) (i ∷ is) (i ∷ put g is)) ≡ true → rises (h ∷ match_ordering o (g ∷ i ∷ is) (i ∷ is) (i ∷ put g is)) ≡ true
behind h g i is Less e d r = and_from (is_lt (shape_cmp h g)) (rises (g ∷ i ∷ is)) e r
behind h g i is Equal e d r = and_from (is_lt (shape_cmp h i)) (rises (i ∷ is)) d r
behind h g i is Greater e d r = and_from (is_lt (shape_cmp h i)) (rises (i ∷ put g is)) d r

put-behind : (h g : Shape) (hs : List Shape) → is_lt (shape_cmp h g) ≡ true → rises (h ∷ hs) ≡ true → rises (put g hs) ≡ true → rises (h ∷ put g hs) ≡ true
put-behind h g [] e r p = and_from (is_lt (shape_cmp h g)) true e refl
put-behind h g (i ∷ is) e r p = behind h g i is (shape_cmp g i) e (and_parts (is_lt (shape_cmp h i)) (rises (i ∷ is)) r).0 p

step : (g h : Shape) (hs : List Shape) (o : Ordering) → shape_cmp g h ≡ o → rises (h ∷ hs) ≡ true → rises (put g hs) ≡ true
    → rises (match_ordering o (g ∷ h ∷ hs) (h ∷ hs) (h ∷ put g hs)) ≡ true
step g h hs Less e r p = and_from (is_lt (shape_cmp g h)) (rises (h ∷ hs)) (below g h e) r
step g h hs Equal e r p = r
step g h hs Greater e r p = put-behind h g hs (above g h e) r p

pub put_rises : (g : Shape) (gs : List Shape) → rises gs ≡ true → rises (put g gs) ≡ true
put_rises g [] r = refl
put_rises g (h ∷ hs) r = step g h hs (shape_cmp g h) refl r (put_rises g hs (tail-rises h hs r))

pub union_rises : (gs hs : List Shape) → rises gs ≡ true → rises (union gs hs) ≡ true
union_rises gs [] r = r
union_rises gs (h ∷ hs) r = union_rises (put h gs) hs (put_rises h gs r)

-- what is below the first of a rising list is below the first of what is sifted from it
over : (g h : Shape) (hs : List Shape) → is_lt (shape_cmp g h) ≡ true → rises (h ∷ hs) ≡ true → rises (g ∷ hs) ≡ true
over g h [] e r = refl
over g h (i ∷ is) e r =
    let p = and_parts (is_lt (shape_cmp h i)) (rises (i ∷ is)) r in
    and_from (is_lt (shape_cmp g i)) (rises (i ∷ is)) (ap is_lt (shape_total.trans g h i (less-is (shape_cmp g h) e) (less-is (shape_cmp h i) p.0))) p.1

sift : (test : Shape → Bool) (g h : Shape) (hs : List Shape) (b : Bool) → rises (g ∷ h ∷ hs) ≡ true → (rises (h ∷ hs) ≡ true → rises (h ∷ filter test hs) ≡ true) → (rises (g ∷ hs) ≡ true → rises (g ∷ filter test hs) ≡ true)
    → rises (g ∷ cond b (h ∷ filter test hs) (filter test hs)) ≡ true
sift test g h hs true r later other =
    let p = and_parts (is_lt (shape_cmp g h)) (rises (h ∷ hs)) r in and_from (is_lt (shape_cmp g h)) (rises (h ∷ filter test hs)) p.0 (later p.1)
sift test g h hs false r later other =
    let p = and_parts (is_lt (shape_cmp g h)) (rises (h ∷ hs)) r in other (over g h hs p.0 p.1)

filter-behind : (test : Shape → Bool) (g : Shape) (hs : List Shape) → rises (g ∷ hs) ≡ true → rises (g ∷ filter test hs) ≡ true
filter-behind test g [] r = refl
filter-behind test g (h ∷ hs) r = sift test g h hs (test h) r (filter-behind test h hs) (filter-behind test g hs)

first : (test : Shape → Bool) (g : Shape) (gs : List Shape) (b : Bool) → rises (g ∷ gs) ≡ true → (rises gs ≡ true → rises (filter test gs) ≡ true) → rises (cond b (g ∷ filter test gs) (filter test gs)) ≡ true
first test g gs true r later = filter-behind test g gs r
first test g gs false r later = later (tail-rises g gs r)

pub filter_rises : (test : Shape → Bool) (gs : List Shape) → rises gs ≡ true → rises (filter test gs) ≡ true
filter_rises test [] r = refl
filter_rises test (g ∷ gs) r = first test g gs (test g) r (filter_rises test gs)
