use Rattle.std.proofs.Common.{None, refl, sym, subst}
use Rattle.std.specs.Prelude.{slice_index_or}
use Rattle.shape_graph.specs.Shape.{nodes}
use Rattle.shape_steps.specs.Steps.{IsTarget, slot_of}
use Rattle.shape_steps.proofs.Concrete.{slot-ok}
use Rattle.dom_listseg.proofs.targets.target.Goals as goal

pub returns-then-slot-slots-clause-inside : goal.returns-then-slot-slots-clause-inside
returns-then-slot-slots-clause-inside c =
    subst (λ slots. IsTarget (nodes c.args.graph.now) (slice_index_or slots c.args.slot None)) (sym c.last_slots-slots.ensures.slots)
    (slot-ok c.args.graph.now c.args.slot (slot_of c.args.graph.now.frames c.args.slot) c.node_count-count.ensures.is_graph refl)
