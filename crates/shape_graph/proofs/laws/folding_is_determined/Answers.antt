use Rattle.shape_graph.proofs.Exists.{Folds-exists}
use Rattle.shape_graph.proofs.Same.{Folds-unique}
use Rattle.shape_graph.proofs.laws.folding_is_determined.Goals as goal

pub returns-clause-exists : goal.returns-clause-exists
returns-clause-exists c = Folds-exists

pub returns-clause-unique : goal.returns-clause-unique
returns-clause-unique c = Folds-unique
