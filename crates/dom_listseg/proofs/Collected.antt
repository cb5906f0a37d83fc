-- Going through graphs, one after another.
use Rattle.std.proofs.Common.{◌≡◌, ℕ, ◌+◌, ◌<◌, List, [], ◌∷◌, ◌++◌, map, length, get_or, take, refl, sym, ◌∙◌, ap}
use Rattle.std.specs.List.{flat_map}
use Rattle.std.proofs.lemmas.List.{map-append, append-nil, take_more}
use Rattle.base_values.proofs.Lists.{take_item}
use Rattle.shape_graph.specs.Shape.{Shape}
use Rattle.fold_laws.specs.Folding.{fold_of}
use Rattle.dom_listseg_meaning.specs.Sets.{put, union}
use Rattle.dom_listseg_meaning.proofs.Members.{union-push}
use Rattle.std.proofs.lemmas.Grind.{flat_map-append}

union-append : (gs xs ys : List Shape) → union gs (xs ++ ys) ≡ union (union gs xs) ys
union-append gs [] ys = refl
union-append gs (x ∷ xs) ys = union-append (put x gs) xs ys

-- the graphs so far, and those of one more
pub next : (f : Shape → List Shape) (gs : List Shape) (g : Shape) → union [] (map fold_of (flat_map f (gs ++ g ∷ []))) ≡ union (union [] (map fold_of (flat_map f gs))) (map fold_of (f g))
next f gs g =
    ap (λ v. union [] (map fold_of v)) (flat_map-append f gs (g ∷ []) ∙ ap (λ v. flat_map f gs ++ v) (append-nil (f g)))
    ∙ ap (union []) (map-append fold_of (flat_map f gs) (f g))
    ∙ union-append [] (map fold_of (flat_map f gs)) (map fold_of (f g))

-- one more graph put in its place
pub put_next : (f : Shape → Shape) (gs xs all after : List Shape) (i : ℕ) (x : Shape) → i < length xs → x ≡ get_or xs i x → all ≡ union gs (map f (take i xs)) → after ≡ put (f x) all → after ≡ union gs (map f (take (i + 1) xs))
put_next f gs xs all after i x h m a e =
    e ∙ ap (put (f x)) a ∙ sym (union-push gs (map f (take i xs)) (f x))
    ∙ ap (union gs) (sym (map-append f (take i xs) (x ∷ [])) ∙ ap (map f) (sym (take_item xs i x h m)))

-- the graphs that one more graph makes, folded
pub step_next : (f : Shape → List Shape) (xs all after : List Shape) (i : ℕ) (x : Shape) → i < length xs → x ≡ get_or xs i x → all ≡ union [] (map fold_of (flat_map f (take i xs))) → after ≡ union all (map fold_of (f x))
    → after ≡ union [] (map fold_of (flat_map f (take (i + 1) xs)))
step_next f xs all after i x h m a e =
    e ∙ ap (λ v. union v (map fold_of (f x))) a ∙ sym (next f (take i xs) x) ∙ ap (λ v. union [] (map fold_of (flat_map f v))) (sym (take_item xs i x h m))

pub single_next : (f : Shape → Shape) (xs all after : List Shape) (i : ℕ) (x : Shape) → i < length xs → x ≡ get_or xs i x → all ≡ union [] (map fold_of (flat_map (λ g. f g ∷ []) (take i xs))) → after ≡ put (fold_of (f x)) all
    → after ≡ union [] (map fold_of (flat_map (λ g. f g ∷ []) (take (i + 1) xs)))
single_next f xs all after i x h m a e = step_next (λ g. f g ∷ []) xs all after i x h m a e

pub map_next : {X Y : Type 0} (f : X → Y) (xs : List X) (all after : List Y) (i : ℕ) (d : X) → i < length xs → all ≡ map f (take i xs) → after ≡ all ++ f (get_or xs i d) ∷ [] → after ≡ map f (take (i + 1) xs)
map_next f xs all after i d h a e =
    e ∙ ap (λ v. v ++ f (get_or xs i d) ∷ []) a ∙ sym (map-append f (take i xs) (get_or xs i d ∷ [])) ∙ ap (map f) (sym (take_more xs i d h))
