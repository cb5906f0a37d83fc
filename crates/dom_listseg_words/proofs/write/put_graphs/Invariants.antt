use Rattle.std.proofs.Common.{◌≡◌, ◌++◌, drop}
use Rattle.std.specs.List.{flat_map}
use Rattle.dom_listseg_words.specs.Words.{graph_told}
use Rattle.dom_listseg_words.proofs.write.put_graphs.Given as goal

-- what is written and what is still to be written are the words
abbrev pub invariant-loop-graph : goal.invariant-loop-graph
invariant-loop-graph l = l.words.items ++ flat_map graph_told (drop l.graph-index l.graphs) ≡ l.fn.words.items ++ flat_map graph_told l.graphs
