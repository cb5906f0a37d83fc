use Rattle.std.proofs.Common.{◌≡◌, take}
use Rattle.std.specs.List.{filter}
use Rattle.dom_listseg_meaning.specs.Operations.{agrees}
use Rattle.dom_listseg.proofs.assumptions.all_agree.Given as goal

abbrev pub invariant-loop-graph : goal.invariant-loop-graph
invariant-loop-graph l = filter (agrees l.equal l.left l.right) (take l.graph-index l.graphs) ≡ take l.graph-index l.graphs
