use Rattle.std.proofs.Common.{sym}
use Rattle.shape_graph.specs.Shape.{shape_of}
use Rattle.dom_listseg_words.proofs.Steps.{no_graph}
use Rattle.dom_listseg_words.proofs.graphs.graph_if.Goals as goal

pub returns-in_default : goal.returns-in_default
returns-in_default c = record { exact = sym (no_graph c.args.counts.now (shape_of c.args.frames.items c.args.atoms.items) c.in_default.ensures.refused) }
