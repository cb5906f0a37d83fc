use Rattle.std.proofs.Common.{◌≡◌, ◌+◌, drop}
use Rattle.imp_check.specs.Slots.{link_slot}
use Rattle.imp_check.proofs.slots.link_slot.Given as goal

abbrev pub invariant-loop-link : goal.invariant-loop-link
invariant-loop-link l = record {
  at : l.slot ≡ l.link-index;
  told : l.slot + link_slot (drop l.link-index l.links) l.name ≡ link_slot l.links l.name;
}
