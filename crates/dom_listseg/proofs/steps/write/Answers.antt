use Rattle.std.proofs.Common.{List, sym, ◌∙◌, ap, subst}
use Rattle.shape_graph.specs.Shape.{Shape, In}
use Rattle.shape_graph.proofs.Lists.{In-get_or}
use Rattle.shape_steps.specs.Steps.{slot_of}
use Rattle.shape_steps.proofs.Concrete.{slot-node}
use Rattle.dom_listseg.proofs.steps.write.Goals as goal

-- the slot names the same node in each graph in which that is exposed
pub set_next-requires-clause-node : goal.set_next-requires-clause-node
set_next-requires-clause-node c =
    let one = c.one-item.result in
    let graphs = c.as_slice-one-items.result.now in
    let inside : In one c.in_ok-exposed.exposed.items =
    subst (λ (xs : List Shape). In one xs) c.as_slice-one-items.ensures.value (In-get_or graphs c.loop-one.one-index one one c.loop-one-test.true (sym c.one-item.is)) in
    let exposed = c.in_ok-exposed.ensures.exposed one inside in
    slot-node one c.args.to c.in-Some.node exposed.graph (ap (λ frames. slot_of frames c.args.to) exposed.frames ∙ sym c.in-Some.ensures.target)
