use Rattle.std.proofs.Common.{◌≡◌, map, take, [], ◌∷◌}
use Rattle.std.specs.List.{flat_map}
use Rattle.shape_graph.specs.Shape.{Shape}
use Rattle.fold_laws.specs.Folding.{fold_of}
use Rattle.shape_steps.specs.Steps.{push_frame_of, argument_of}
use Rattle.dom_listseg_meaning.specs.Sets.{union}
use Rattle.dom_listseg.proofs.calls.entered_graphs.Given as goal

abbrev pub invariant-loop-graph : goal.invariant-loop-graph
invariant-loop-graph l = l.all ≡ union [] (map fold_of (flat_map (λ (g : Shape). push_frame_of g (map (argument_of g.frames) l.sides.items) ∷ []) (take l.graph-index l.graphs)))
