use Rattle.std.proofs.Common.{◌≡◌, ◌++◌, take, map}
use Rattle.concrete_sem.specs.Passing.{first_number}
use Rattle.imp_run.specs.Slots.{number_of}
use Rattle.imp_run.proofs.slots.fill_numbers.Given as goal

abbrev pub invariant-loop-slot : goal.invariant-loop-slot
invariant-loop-slot l = map number_of l.numbers.items ≡ map number_of l.initial.numbers.items ++ map first_number (take l.slot-index l.slot-items)
