use Rattle.std.proofs.Common.{◌≡◌, map, take, [], ◌∷◌}
use Rattle.std.specs.List.{flat_map}
use Rattle.imp_slots.specs.CallViews.{taken_of}
use Rattle.shape_graph.specs.Shape.{Shape}
use Rattle.fold_laws.specs.Folding.{fold_of}
use Rattle.dom_listseg_meaning.specs.Sets.{union}
use Rattle.dom_listseg_meaning.specs.Operations.{returned}
use Rattle.dom_listseg.proofs.calls.returned_graphs.Given as goal

abbrev pub invariant-loop-graph : goal.invariant-loop-graph
invariant-loop-graph l = l.all ≡ union [] (map fold_of (flat_map (λ (g : Shape). returned (taken_of l.returning) g ∷ []) (take l.graph-index l.graphs)))
