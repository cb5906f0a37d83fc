-- Folding as a function of the graph, and the test of being folded.
use Rattle.std.proofs.Common.{Bool, ◌⊎◌, inl, inr, []}
use Rattle.std.specs.Ordering.{eq_by_cmp}
use Rattle.shape_graph.specs.Shape.{Shape, IsGraph, shape_of}
use Rattle.shape_graph.specs.Order.{shape_cmp}
use Rattle.shape_graph.proofs.Decided.{is_graph}
use Rattle.shape_graph.proofs.Exists.{Folds-exists}

-- A graph folds to one graph (`Folds`), and to no other. `Folds-exists` gives it, and then the proof that it is the one, so that what
-- stands in that proof does not matter. What is no graph folds to the graph of nothing.
unfoldable pub fold_if : (g : Shape) → IsGraph g ⊎ (IsGraph g → ⊥) → Shape
fold_if g (inl ok) = (Folds-exists g ok).0
fold_if g (inr n) = shape_of [] []

-- the graph folded
unfoldable pub fold_of : Shape → Shape
fold_of g = fold_if g (is_graph g)

-- whether to fold the graph changes nothing
unfoldable pub is_folded : Shape → Bool
is_folded g = eq_by_cmp shape_cmp (fold_of g) g
