use Rattle.std.proofs.Common.{◌≡◌, map, take, []}
use Rattle.std.specs.List.{flat_map}
use Rattle.imp_slots.specs.ActionViews.{effect_of}
use Rattle.fold_laws.specs.Folding.{fold_of}
use Rattle.dom_listseg_meaning.specs.Sets.{union}
use Rattle.dom_listseg_meaning.specs.Operations.{stepped}
use Rattle.dom_listseg.proofs.statements.moved_graphs.Given as goal

abbrev pub invariant-loop-graph : goal.invariant-loop-graph
invariant-loop-graph l = l.all ≡ union [] (map fold_of (flat_map (stepped (effect_of l.action)) (take l.graph-index l.graphs)))
