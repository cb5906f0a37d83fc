-- What folding as a function gives is the fold of the relation, and the test of being folded holds of what is folded.
use Rattle.std.proofs.Common.{◌≡◌, ◌⊎◌, inl, inr, true, [], sym, subst}
use Rattle.std.specs.Ordering.{eq_by_cmp}
use Rattle.shape_graph.specs.Shape.{Shape, IsGraph, shape_of}
use Rattle.shape_graph.specs.Folds.{Folds, IsFolded}
use Rattle.shape_graph.specs.Order.{shape_cmp, shape_equiv, shape_eq-same}
use Rattle.fold_laws.specs.Folding.{fold_if, fold_of, is_folded}
use Rattle.shape_graph.proofs.Decided.{is_graph}
use Rattle.shape_graph.proofs.Exists.{Folds-exists}
use Rattle.shape_graph.proofs.Same.{Folds-unique, Folds-graph, Folds-folded, Folds-self}

if_folds : (g : Shape) (c : IsGraph g ⊎ (IsGraph g → ⊥)) → IsGraph g → Folds g (fold_if g c)
unfolding fold_if
if_folds g (inl ok) h = (Folds-exists g ok).1
if_folds g (inr n) h = absurd (n h)

-- the function is the relation's
pub fold_of-folds : (g : Shape) → IsGraph g → Folds g (fold_of g)
unfolding fold_of
fold_of-folds g ok = if_folds g (is_graph g) ok

-- what folds from the graph is that
pub Folds-fold_of : (g next : Shape) → IsGraph g → Folds g next → next ≡ fold_of g
Folds-fold_of g next ok f = Folds-unique g next (fold_of g) f (fold_of-folds g ok)

none_ok : IsGraph (shape_of [] [])
none_ok = record { slots_in = λ k i. absurd i; targets_in = λ j k e. cc }

if_graph : (g : Shape) (c : IsGraph g ⊎ (IsGraph g → ⊥)) → IsGraph (fold_if g c)
unfolding fold_if
if_graph g (inl ok) = Folds-graph g _ (Folds-exists g ok).1
if_graph g (inr n) = none_ok

-- what folding gives is a graph
pub fold_of-graph : (g : Shape) → IsGraph (fold_of g)
unfolding fold_of
fold_of-graph g = if_graph g (is_graph g)

pub fold_of-folded : (g : Shape) → IsGraph g → IsFolded (fold_of g)
fold_of-folded g ok = Folds-folded g (fold_of g) (fold_of-folds g ok)

-- to fold what is folded changes nothing
pub fold_of-self : (g : Shape) → IsGraph g → IsFolded g → fold_of g ≡ g
fold_of-self g ok f = Folds-unique g (fold_of g) g (fold_of-folds g ok) (Folds-self g ok f)

pub fold_of-again : (g : Shape) → IsGraph g → fold_of (fold_of g) ≡ fold_of g
fold_of-again g ok = fold_of-self (fold_of g) (fold_of-graph g) (fold_of-folded g ok)

-- the test of being folded finds folded graphs alone
pub is_folded-graph : (g : Shape) → is_folded g ≡ true → IsGraph g
unfolding is_folded
is_folded-graph g h = subst IsGraph (shape_eq-same (fold_of g) g h) (fold_of-graph g)

pub is_folded-folded : (g : Shape) → is_folded g ≡ true → IsFolded g
unfolding is_folded
is_folded-folded g h = subst IsFolded (shape_eq-same (fold_of g) g h) (fold_of-folded g (is_folded-graph g h))

-- and all of them
pub folded-is_folded : (g : Shape) → IsGraph g → IsFolded g → is_folded g ≡ true
unfolding is_folded
folded-is_folded g ok f = subst (λ (x : Shape). eq_by_cmp shape_cmp x g ≡ true) (sym (fold_of-self g ok f)) (shape_equiv.refl g)
