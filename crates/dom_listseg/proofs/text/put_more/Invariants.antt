use Rattle.std.proofs.Common.{◌≡◌, ◌++◌, drop}
use Rattle.dom_listseg_meaning.specs.Text.{more_text}
use Rattle.dom_listseg.proofs.text.put_more.Given as goal

abbrev pub invariant-loop-graph : goal.invariant-loop-graph
invariant-loop-graph l = l.text ++ more_text l.names (drop l.graph-index l.graphs) ≡ l.fn.text ++ more_text l.names l.graphs
