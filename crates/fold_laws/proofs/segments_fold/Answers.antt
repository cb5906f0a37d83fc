use Rattle.shape_graph.proofs.Covered.{Covers-fold}
use Rattle.fold_laws.specs.Folding.{fold_of}
use Rattle.fold_laws.proofs.Function.{fold_of-again, fold_of-folds, folded-is_folded, Folds-fold_of, is_folded-folded, is_folded-graph}
use Rattle.fold_laws.proofs.segments_fold.Goals as goal

pub returns-clause-fold : goal.returns-clause-fold
returns-clause-fold c = record {
  folds = fold_of-folds;
  only = Folds-fold_of;
  idempotent = fold_of-again;
  covers = λ g ok variables heap d. Covers-fold g (fold_of g) variables heap ok (fold_of-folds g ok) d;
}

pub returns-clause-test : goal.returns-clause-test
returns-clause-test c = λ g. (λ h. (is_folded-graph g h, is_folded-folded g h), λ p. folded-is_folded g p.0 p.1)
