use Rattle.shape_graph.proofs.Same.{IsFolded-same}
use Rattle.shape_graph.proofs.laws.renamed_graphs_are_equal.Goals as goal

pub returns : goal.returns
returns c = record { same = IsFolded-same }
