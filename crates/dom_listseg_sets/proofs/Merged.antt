-- The union with a rising list, by the first graphs of both.
use Rattle.std.proofs.Common.{◌≡◌, ℕ, zero, suc, true, ◌+◌, ◌≤◌, ◌<◌, ◌⊎◌, inl, inr, List, [], ◌∷◌, ◌++◌, length, drop, get_or, append_assoc, refl, sym, ◌∙◌, ap, subst}
use Rattle.std.specs.Ordering.{match_ordering, ordering_reverse, is_lt}
use Rattle.std.specs.declared.cmp.Ordering.TheVariants.{Less, Equal, Greater}
use Rattle.std.proofs.lemmas.Bool.{and_parts}
use Rattle.std.proofs.lemmas.List.{append-nil, drop_all}
use Rattle.shape_graph.specs.Shape.{Shape}
use Rattle.shape_graph.specs.Order.{shape_cmp, shape_total, shape_cmp-same}
use Rattle.dom_listseg_meaning.specs.Sets.{put, union, rises}
use Rattle.dom_listseg_meaning.proofs.Rising.{less-is, tail-rises}
use Rattle.base_values.proofs.Lists.{drop_item}

-- each of the graphs comes after the first
abbrev pub IsBelow : Shape → List Shape → Type 0
IsBelow g [] = Unit {0}
IsBelow g (h ∷ hs) = (shape_cmp g h ≡ Less) × IsBelow g hs

rises-below : (g h : Shape) (hs : List Shape) → shape_cmp g h ≡ Less → rises (h ∷ hs) ≡ true → IsBelow g (h ∷ hs)
rises-below g h [] e r = (e, tt)
rises-below g h (i ∷ is) e r =
    let p = and_parts (is_lt (shape_cmp h i)) (rises (i ∷ is)) r in
    (e, rises-below g i is (shape_total.trans g h i e (less-is (shape_cmp h i) p.0)) p.1)

put-behind : (g h : Shape) (gs : List Shape) → shape_cmp g h ≡ Less → put h (g ∷ gs) ≡ g ∷ put h gs
put-behind g h gs e = ap (λ o. match_ordering o (h ∷ g ∷ gs) (g ∷ gs) (g ∷ put h gs)) (shape_total.antisymm h g ∙ ap ordering_reverse e)

-- what comes after the first graph is put after it
union-behind : (g : Shape) (gs hs : List Shape) → IsBelow g hs → union (g ∷ gs) hs ≡ g ∷ union gs hs
union-behind g gs [] b = refl
union-behind g gs (h ∷ hs) b = ap (λ v. union v hs) (put-behind g h gs b.0) ∙ union-behind g (put h gs) hs b.1

pub tail_below : (h : Shape) (hs : List Shape) → rises (h ∷ hs) ≡ true → IsBelow h hs
tail_below h [] r = tt
tail_below h (i ∷ is) r =
    let p = and_parts (is_lt (shape_cmp h i)) (rises (i ∷ is)) r in
    rises-below h i is (less-is (shape_cmp h i) p.0) p.1

-- the left one's first graph comes first
pub left_first : (g h : Shape) (gs hs : List Shape) → rises (h ∷ hs) ≡ true → shape_cmp g h ≡ Less → union (g ∷ gs) (h ∷ hs) ≡ g ∷ union gs (h ∷ hs)
left_first g h gs hs r e = union-behind g gs (h ∷ hs) (rises-below g h hs e r)

-- both first graphs are one
pub same_first : (g h : Shape) (gs hs : List Shape) → rises (h ∷ hs) ≡ true → shape_cmp g h ≡ Equal → union (g ∷ gs) (h ∷ hs) ≡ g ∷ union gs hs
same_first g h gs hs r e =
    let o : shape_cmp h g ≡ Equal = shape_total.antisymm h g ∙ ap ordering_reverse e in
    let same : h ≡ g = sym (shape_cmp-same g h e) in
    ap (λ o. union (match_ordering o (h ∷ g ∷ gs) (g ∷ gs) (g ∷ put h gs)) hs) o ∙
    union-behind g gs hs (subst (λ x. IsBelow x hs) same (tail_below h hs r))

-- the right one's first graph comes first
pub right_first : (g h : Shape) (gs hs : List Shape) → rises (h ∷ hs) ≡ true → shape_cmp g h ≡ Greater → union (g ∷ gs) (h ∷ hs) ≡ h ∷ union (g ∷ gs) hs
right_first g h gs hs r e =
    let o : shape_cmp h g ≡ Less = shape_total.antisymm h g ∙ ap ordering_reverse e in
    ap (λ o. union (match_ordering o (h ∷ g ∷ gs) (g ∷ gs) (g ∷ put h gs)) hs) o ∙
    union-behind h (g ∷ gs) hs (tail_below h hs r)

-- the union of nothing with a rising list is that
pub none_left : (hs : List Shape) → rises hs ≡ true → union [] hs ≡ hs
none_left [] r = refl
none_left (h ∷ hs) r = union-behind h [] hs (tail_below h hs r) ∙ ap (λ v. h ∷ v) (none_left hs (tail-rises h hs r))

-- a list that rises does so from any place on
pub drop_rises : (p : ℕ) (hs : List Shape) → rises hs ≡ true → rises (drop p hs) ≡ true
drop_rises zero hs r = r
drop_rises (suc p) [] r = r
drop_rises (suc p) (h ∷ hs) r = drop_rises p hs (tail-rises h hs r)

-- two lists, of which the right one rises, from a place of each on, by the graphs there
module _ (gs hs : List Shape) (p q : ℕ) (g h : Shape) (a : p < length gs) (b : q < length hs) (x : g ≡ get_or gs p g) (y : h ≡ get_or hs q h) (r : rises hs ≡ true) where
  right-rises : rises (h ∷ drop (q + 1) hs) ≡ true
  right-rises = subst (λ v. rises v ≡ true) (drop_item hs q h b y) (drop_rises q hs r)

  pub left_union : shape_cmp g h ≡ Less → union (drop p gs) (drop q hs) ≡ g ∷ union (drop (p + 1) gs) (drop q hs)
  left_union e =
      let right = drop_item hs q h b y in
      (λ k. union (drop_item gs p g a x k) (right k)) ∙ left_first g h (drop (p + 1) gs) (drop (q + 1) hs) right-rises e ∙
      (λ k. g ∷ union (drop (p + 1) gs) (sym right k))

  pub both_union : shape_cmp g h ≡ Equal → union (drop p gs) (drop q hs) ≡ g ∷ union (drop (p + 1) gs) (drop (q + 1) hs)
  both_union e =
      (λ k. union (drop_item gs p g a x k) (drop_item hs q h b y k)) ∙ same_first g h (drop (p + 1) gs) (drop (q + 1) hs) right-rises e

  pub right_union : shape_cmp g h ≡ Greater → union (drop p gs) (drop q hs) ≡ h ∷ union (drop p gs) (drop (q + 1) hs)
  right_union e =
      let left = drop_item gs p g a x in
      (λ k. union (left k) (drop_item hs q h b y k)) ∙ right_first g h (drop (p + 1) gs) (drop (q + 1) hs) right-rises e ∙
      (λ k. h ∷ union (sym left k) (drop (q + 1) hs))

-- one graph more after those that are there
pub pushed : (done added more all : List Shape) (g copy : Shape) → copy ≡ g → added ≡ done ++ copy ∷ [] → all ≡ g ∷ more → added ++ more ≡ done ++ all
pushed done added more all g copy c a e =
    ap (λ v. v ++ more) a ∙ append_assoc done (copy ∷ []) more ∙ (λ k. done ++ c k ∷ more) ∙ ap (λ v. done ++ v) (sym e)

-- where one of the lists is gone through, what is left of both is the union
pub left_over : (gs hs : List Shape) (p q : ℕ) → (length gs ≤ p) ⊎ (length hs ≤ q) → rises hs ≡ true → drop p gs ++ drop q hs ≡ union (drop p gs) (drop q hs)
left_over gs hs p q (inl end) r =
    let none : drop p gs ≡ [] = drop_all p gs end in
    ap (λ v. v ++ drop q hs) none ∙ sym (none_left (drop q hs) (drop_rises q hs r)) ∙ ap (λ v. union v (drop q hs)) (sym none)
left_over gs hs p q (inr end) r =
    let none : drop q hs ≡ [] = drop_all q hs end in
    ap (λ v. drop p gs ++ v) none ∙ append-nil (drop p gs) ∙ ap (λ v. union (drop p gs) v) (sym none)
