-- Two folded graphs of one shape become one that is folded.
use Rattle.std.proofs.Common.{◌≡◌, sym, subst}
use Rattle.shape_graph.specs.Shape.{Shape, shape_of, IsGraph}
use Rattle.shape_graph.specs.Folds.{IsFolded}
use Rattle.fold_laws.specs.Folding.{fold_of}
use Rattle.fold_laws.proofs.Function.{fold_of-graph, fold_of-folded, fold_of-self}
use Rattle.dom_shapes_meaning.specs.Sets.{either, merged}
use Rattle.dom_shapes_meaning.proofs.Growing.{merged-left, grown-graph, grown-folded}

pub merged_graph : (g h : Shape) → IsGraph g → IsGraph (shape_of g.frames (either g.atoms h.atoms))
merged_graph g h ok = grown-graph g (merged g h) (merged-left g h) ok

pub merged_folds : (g h : Shape) → fold_of g ≡ g → fold_of (shape_of g.frames (either g.atoms h.atoms)) ≡ merged g h
merged_folds g h e =
    let ok : IsGraph g = subst IsGraph e (fold_of-graph g) in
    let folded : IsFolded g = subst IsFolded e (fold_of-folded g ok) in
    fold_of-self (merged g h) (grown-graph g (merged g h) (merged-left g h) ok) (grown-folded g (merged g h) (merged-left g h) folded)
