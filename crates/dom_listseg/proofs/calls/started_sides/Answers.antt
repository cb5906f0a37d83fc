use Rattle.std.proofs.Common.{arith, ap, ◌++◌, ◌∷◌, [], ◌∙◌}
use Rattle.dom_listseg.proofs.Started.{sides_next, sides_all}
use Rattle.dom_listseg.proofs.calls.started_sides.Goals as goal

pub loop-slot-preserved : goal.loop-slot-preserved
loop-slot-preserved c =
    sides_next c.args.links.now c.args.names.now c.loop-slot.sides.items c.push.new.self.items _ c.loop-slot.slot (omega arith) c.loop-slot.invariant
    (c.in_ok-push.ensures.items ∙ ap (λ v. c.loop-slot.sides.items ++ v ∷ []) c.started_side.ensures.side)

pub returns : goal.returns
returns c = record { exact = sides_all c.args.links.now c.args.names.now c.loop-slot.sides.items _ c.loop-slot.slot (omega arith) c.loop-slot.invariant }
