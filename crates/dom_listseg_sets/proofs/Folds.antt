-- A graph that was folded is the fold, and is its own.
use Rattle.std.proofs.Common.{◌≡◌, sym, ◌∙◌, ap}
use Rattle.shape_graph.specs.Folds.{Folds}
use Rattle.shape_graph.specs.Shape.{Shape, IsGraph}
use Rattle.fold_laws.specs.Folding.{fold_of}
use Rattle.fold_laws.proofs.Function.{Folds-fold_of, fold_of-again}

pub fold_again : (g next : Shape) → IsGraph g → Folds g next → fold_of next ≡ next
fold_again g next ok f =
    let e : next ≡ fold_of g = Folds-fold_of g next ok f in
    ap fold_of e ∙ fold_of-again g ok ∙ sym e
