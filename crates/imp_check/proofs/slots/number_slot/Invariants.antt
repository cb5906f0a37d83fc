use Rattle.std.proofs.Common.{◌≡◌, ◌+◌, drop}
use Rattle.imp_check.specs.Slots.{number_slot}
use Rattle.imp_check.proofs.slots.number_slot.Given as goal

abbrev pub invariant-loop-number : goal.invariant-loop-number
invariant-loop-number l = record {
  at : l.slot ≡ l.number-index;
  told : l.slot + number_slot (drop l.number-index l.numbers) l.name ≡ number_slot l.numbers l.name;
}
