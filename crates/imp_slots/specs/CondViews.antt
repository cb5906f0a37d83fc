-- What a node of a condition says.
use Rattle.imp_slots.specs.Plain.{Guard}
use Rattle.imp_slots.specs.Plain as plain
use Rattle.imp_slots.specs.declared.conditions.SlotCondNode.{SlotCondNode}
use Rattle.imp_slots.specs.declared.conditions.SlotCondNode.TheVariants.{Compare, CompareLinks, Not, And, Or}

-- the condition whose outermost part is this node
abbrev pub guard_of : SlotCondNode → Guard
guard_of (Compare r e f) = plain.Compare r e f
guard_of (CompareLinks equal p q) = plain.CompareLinks equal p q
guard_of (Not c) = plain.Not c
guard_of (And c d) = plain.And c d
guard_of (Or c d) = plain.Or c d
