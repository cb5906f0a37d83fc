-- A graph that folding leaves as it is.
use Rattle.std.specs.Prelude.{◌≡◌, ℕ, List, length, map, nat_eq, Bool, true, false, ◌&&◌, if◌then◌else◌, Some, None}
use Rattle.std.specs.Ordering.{eq_by_cmp}
use Rattle.std.proofs.Common.{refl, sym, ◌∙◌, ap, subst}
use lib.Pointwise.{pointwise}
use Rattle.std.proofs.lemmas.Bool.{false≢true}
use Rattle.base_values.proofs.Cases.{by_bool}
use Rattle.shape_graph.specs.Folds.{IsFolded}
use Rattle.shape_graph.specs.Order.{shape_cmp, shape_eq-same, shape_equiv}
use Rattle.shape_graph.specs.Shape.{Shape, IsGraph}
use Rattle.fold_laws.specs.Folding.{fold_of, is_folded}
use Rattle.fold_laws.proofs.Function.{fold_of-graph, fold_of-folded, fold_of-self, is_folded-graph, is_folded-folded, folded-is_folded}
use Rattle.dom_listseg_words.specs.Words.{graph_if}

pub folded_found : (g next : Shape) → next ≡ fold_of g → eq_by_cmp shape_cmp next g ≡ true → Some next ≡ (if is_folded g then Some g else None)
folded_found g next n e =
    let same : next ≡ g = shape_eq-same next g e in
    let self : fold_of g ≡ g = sym n ∙ same in
    let ok : IsGraph g = subst IsGraph self (fold_of-graph g) in
    let k : is_folded g ≡ true = folded-is_folded g ok (subst IsFolded self (fold_of-folded g ok)) in
    ap Some same ∙ ap (λ b. if b then Some g else None) (sym k)

pub folded_none : (g next : Shape) → next ≡ fold_of g → eq_by_cmp shape_cmp next g ≡ false → None ≡ (if is_folded g then Some g else None)
folded_none g next n e =
    by_bool (is_folded g)
    (λ k. let same : next ≡ g = n ∙ fold_of-self g (is_folded-graph g k) (is_folded-folded g k) in
    absurd (false≢true (sym e ∙ subst (λ (x : Shape). eq_by_cmp shape_cmp x g ≡ true) (sym same) (shape_equiv.refl g))))
    (λ k. ap (λ b. if b then Some g else None) (sym k))

-- with so many slots, it is one that fits if it is folded
pub counted : (ns : List ℕ) (g : Shape) → pointwise nat_eq (map length g.frames) ns ≡ true → (if is_folded g then Some g else None) ≡ graph_if ns g
counted ns g h = by (is_folded g) ∙ ap (λ c. if (is_folded g && c) then Some g else None) (sym h)
  where
    by : (b : Bool) → (if b then Some g else None) ≡ (if (b && true) then Some g else None)
    by true = refl
    by false = refl
