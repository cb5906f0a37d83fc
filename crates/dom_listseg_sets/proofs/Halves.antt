-- The place of a graph among graphs that rise, by one of them.
use Rattle.std.proofs.Common.{◌≡◌, ℕ, zero, suc, true, ◌+◌, ◌<◌, List, [], ◌∷◌, ◌++◌, length, take, drop, drop-cons, get_or, sym, ◌∙◌, ap, arith}
use Rattle.std.specs.Ordering.{match_ordering, ordering_reverse}
use Rattle.std.specs.declared.cmp.Ordering.{Ordering}
use Rattle.std.specs.declared.cmp.Ordering.TheVariants.{Less, Equal, Greater}
use Rattle.shape_graph.specs.Shape.{Shape}
use Rattle.shape_graph.specs.Order.{shape_cmp, shape_total, shape_cmp-same}
use Rattle.dom_listseg_meaning.specs.Sets.{put, rises}
use Rattle.dom_listseg_sets.proofs.Merged.{IsBelow, tail_below}
use Rattle.dom_listseg_meaning.proofs.Rising.{tail-rises}

-- what a graph is put into, by how it compares with the first
put-by : (g h : Shape) (hs : List Shape) (o : Ordering) → shape_cmp g h ≡ o → put g (h ∷ hs) ≡ match_ordering o (g ∷ h ∷ hs) (h ∷ hs) (h ∷ put g hs)
put-by g h hs o e = ap (λ o. match_ordering o (g ∷ h ∷ hs) (h ∷ hs) (h ∷ put g hs)) e

turned : (g h : Shape) (o : Ordering) → shape_cmp g h ≡ o → shape_cmp h g ≡ ordering_reverse o
turned g h o e = shape_total.antisymm h g ∙ ap ordering_reverse e

below-at : (h : Shape) (hs : List Shape) (k : ℕ) (d : Shape) → IsBelow h hs → k < length hs → shape_cmp h (get_or hs k d) ≡ Less
below-at h [] k d b lt = absurd (omega arith)
below-at h (i ∷ is) zero d b lt = b.0
below-at h (i ∷ is) (suc k) d b lt = below-at h is k d b.1 (omega arith)

-- what comes after one of the graphs goes after it
behind-at : (g : Shape) (gs : List Shape) (k : ℕ) (d : Shape) → k < length gs → rises gs ≡ true → shape_cmp g (get_or gs k d) ≡ Greater
    → put g gs ≡ take (suc k) gs ++ put g (drop (suc k) gs)
behind-at g [] k d lt r e = absurd (omega arith)
behind-at g (h ∷ hs) zero d lt r e = put-by g h hs Greater e
behind-at g (h ∷ hs) (suc k) d lt r e =
    let low : shape_cmp h (get_or hs k d) ≡ Less = below-at h hs k d (tail_below h hs r) (omega arith) in
    let first : shape_cmp h g ≡ Less = shape_total.trans h (get_or hs k d) g low (turned g (get_or hs k d) Greater e) in
    put-by g h hs Greater (turned h g Less first) ∙ ap (λ v. h ∷ v) (behind-at g hs k d (omega arith) (tail-rises h hs r) e)

-- one of the graphs is there
there-at : (g : Shape) (gs : List Shape) (k : ℕ) (d : Shape) → k < length gs → rises gs ≡ true → shape_cmp g (get_or gs k d) ≡ Equal → put g gs ≡ gs
there-at g [] k d lt r e = absurd (omega arith)
there-at g (h ∷ hs) zero d lt r e = put-by g h hs Equal e
there-at g (h ∷ hs) (suc k) d lt r e =
    let low : shape_cmp h (get_or hs k d) ≡ Less = below-at h hs k d (tail_below h hs r) (omega arith) in
    let first : shape_cmp h g ≡ Less = ap (shape_cmp h) (shape_cmp-same g (get_or hs k d) e) ∙ low in
    put-by g h hs Greater (turned h g Less first) ∙ ap (λ v. h ∷ v) (there-at g hs k d (omega arith) (tail-rises h hs r) e)

-- the same by what is read of the graphs: one of them
module _ (g : Shape) (gs : List Shape) (k : ℕ) (h : Shape) (a : k < length gs) (x : h ≡ get_or gs k h) where
  at-place : (o : Ordering) → shape_cmp g h ≡ o → shape_cmp g (get_or gs k h) ≡ o
  at-place o e = ap (shape_cmp g) (sym x) ∙ e

  pub behind_one : rises gs ≡ true → shape_cmp g h ≡ Greater → put g gs ≡ take (k + 1) gs ++ put g (drop (k + 1) gs)
  behind_one r e =
      let next : suc k ≡ k + 1 = omega arith in
      behind-at g gs k h a r (at-place Greater e) ∙ (λ i. take (next i) gs ++ put g (drop (next i) gs))

  pub one_there : rises gs ≡ true → shape_cmp g h ≡ Equal → put g gs ≡ gs
  one_there r e = there-at g gs k h a r (at-place Equal e)

  pub before_one : shape_cmp g h ≡ Less → put g (drop k gs) ≡ g ∷ drop k gs
  before_one e =
      let first = drop-cons gs k h a in
      ap (put g) first ∙ put-by g (get_or gs k h) (drop (suc k) gs) Less (at-place Less e) ∙ ap (λ v. g ∷ v) (sym first)
