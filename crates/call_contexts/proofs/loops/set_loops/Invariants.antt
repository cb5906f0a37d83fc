use Rattle.std.proofs.Common.{take}
use Rattle.std.specs.List.Sorted.{IsStrictlySortedBy}
use Rattle.std.specs.Ordering.{nat_cmp}
use Rattle.imp_check.specs.Entries.{entries_of, entry_of}
use Rattle.call_contexts.specs.Loops.{loop_in, put_numbers}
use Rattle.call_contexts.proofs.Looped.{Sets}
use Rattle.call_contexts.proofs.loops.set_loops.Given as goal

-- the numbers rise, and of those of the change so far the loops are among them
abbrev pub invariant-loop-put : goal.invariant-loop-put
invariant-loop-put l = record { rising : IsStrictlySortedBy nat_cmp l.stmts.items; set : Sets l.initial.stmts.items l.stmts.items (put_numbers (take l.put-index l.puts)) (λ n. loop_in l.proc (entry_of (entries_of l.prog) n)) }
