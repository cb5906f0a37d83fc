use Rattle.std.proofs.Common.{take}
use Rattle.imp_check.specs.Entries.{entries_of, entry_of}
use Rattle.call_contexts.specs.Loops.{loop_in, put_numbers}
use Rattle.call_contexts.proofs.Looped.{SameSoFar}
use Rattle.call_contexts.proofs.loops.keeps_loops.Given as goal

-- what comes or goes so far is a loop in both programs or in none
abbrev pub invariant-loop-put : goal.invariant-loop-put
invariant-loop-put l = record { same : SameSoFar (λ n. loop_in l.proc (entry_of (entries_of l.old) n)) (λ n. loop_in l.proc (entry_of (entries_of l.new) n)) (put_numbers (take l.put-index l.puts)) }
