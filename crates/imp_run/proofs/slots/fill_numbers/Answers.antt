use Rattle.std.proofs.Common.{◌∙◌, arith}
use Rattle.concrete_sem.specs.Passing.{first_number}
use Rattle.imp_run.specs.Slots.{number_of}
use Rattle.imp_run.proofs.SlotLemmas.{filled-end}
use Rattle.imp_run.proofs.slots.fill_numbers.Goals as goal

pub returns : goal.returns
returns c = record { is = c.loop-slot.invariant ∙ filled-end number_of first_number c.args.numbers.now.items c.truncate.new.self.items c.args.layout.now c.len.result c.loop-slot.slot-index c.truncate.ensures.items (omega arith) (omega arith) }
