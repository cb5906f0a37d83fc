use Rattle.std.proofs.Common.{◌≡◌, ◌+◌, suc, length}
use Rattle.imp_check.specs.Entries.{entries_of, entry_of}
use Rattle.imp_check.specs.Programs.{program_count}
use Rattle.edit_breaks.specs.Breaks.{front_count}
use Rattle.edit_breaks.proofs.leaving.add_front.Given as goal

-- how many there are so far, and how many are to come
abbrev pub invariant-loop-entry : goal.invariant-loop-entry
invariant-loop-entry l = length l.found + front_count (entry_of (entries_of l.table.program)) l.left l.context.around l.front ≡ length l.initial.found + front_count (entry_of (entries_of l.table.program)) (suc (program_count l.table.program)) l.gap.context.around l.gap.front

abbrev pub decreases-loop-entry : goal.decreases-loop-entry
decreases-loop-entry l = l.left
