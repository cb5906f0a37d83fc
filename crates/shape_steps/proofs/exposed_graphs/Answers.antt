use Rattle.std.proofs.Common.{sym, ap}
use Rattle.shape_graph.specs.declared.graph.Atom.{Atom}
use Rattle.shape_steps.proofs.Graphs.{target-of}
use Rattle.shape_steps.proofs.exposed_graphs.Goals as goal

pub set_next-requires-clause-target : goal.set_next-requires-clause-target
set_next-requires-clause-target c = target-of c.args.graph.now c.args.node c.atom-atom.result.target c.node_count-count.ensures.is_graph (ap (λ (a : Atom). a.target) (sym c.atom-atom.ensures.atom))
