use Rattle.std.proofs.Common.{◌∙◌}
use Rattle.dom_listseg_sets.proofs.folded.FoldedGraph.from_graph.Goals as goal
use Rattle.fold_laws.proofs.Function.{Folds-fold_of}

pub returns : goal.returns
returns c = record {
  folded = c.in_ok-new.ensures.ok ∙ Folds-fold_of c.args.graph.now c.in_ok-folded.folded c.node_count-count.ensures.is_graph c.in_ok-folded.ensures.folds;
}
