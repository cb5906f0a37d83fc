use Rattle.std.proofs.Common.{take}
use Rattle.std.specs.BTreeSet.{contains}
use Rattle.std.specs.Ordering.{nat_cmp}
use Rattle.imp_check.specs.Entries.{entries_of, entry_of}
use Rattle.call_contexts.specs.Loops.{loop_in}
use Rattle.call_contexts.proofs.Looped.{Adds}
use Rattle.call_contexts.proofs.loops.add_loops.Given as goal

-- the loops among the statements so far
abbrev pub invariant-loop-stmt : goal.invariant-loop-stmt
invariant-loop-stmt l = record { added : Adds (contains nat_cmp l.initial.found) (contains nat_cmp l.found) (take l.stmt-index l.stmts) (λ n. loop_in l.proc (entry_of (entries_of l.prog) n)) }
