-- The fold of list segments is the fold of its definition.
use Rattle.std.specs.Prelude.{◌≡◌, ◌↔◌, true}
use Rattle.shape_graph.specs.Folds.{IsFolded}
use Rattle.shape_graph.specs.Laws.{IsFolding}
use Rattle.shape_graph.specs.Shape.{Shape, IsGraph}
use Rattle.fold_laws.specs.Folding.{fold_of, is_folded}

-- the function that the operations of list segments fold by gives the one fold of each graph
abbrev pub FoldIsFolding : Type 0
FoldIsFolding = IsFolding fold_of

-- the test by which graphs fit a layout holds exactly of the graphs that are folded
abbrev pub TestIsFolded : Type 0
TestIsFolded = (g : Shape) → (is_folded g ≡ true) ↔ (IsGraph g × IsFolded g)
