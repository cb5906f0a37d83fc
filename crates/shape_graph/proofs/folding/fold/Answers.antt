use Rattle.std.proofs.lemmas.Result.{IfOk-weaker}
use Rattle.shape_graph.proofs.Covered.{Covers-fold}
use Rattle.shape_graph.proofs.Same.{Folds-unique, Folds-folded, Folds-idempotent}
use Rattle.shape_graph.proofs.folding.fold.Goals as goal

pub returns-clause-only : goal.returns-clause-only
returns-clause-only c = IfOk-weaker c.assembled.result _ _ (λ next f other h. Folds-unique c.args.graph.now other next h f) c.assembled.ensures.folds

pub returns-clause-folded : goal.returns-clause-folded
returns-clause-folded c = IfOk-weaker c.assembled.result _ _ (λ next f. Folds-folded c.args.graph.now next f) c.assembled.ensures.folds

pub returns-clause-idempotent : goal.returns-clause-idempotent
returns-clause-idempotent c = IfOk-weaker c.assembled.result _ _ (λ next f again h. Folds-idempotent c.args.graph.now next again f h) c.assembled.ensures.folds

pub returns-clause-covers : goal.returns-clause-covers
returns-clause-covers c = IfOk-weaker c.assembled.result _ _ (λ next f variables heap h. Covers-fold c.args.graph.now next variables heap c.node_count.ensures.is_graph f h) c.assembled.ensures.folds
