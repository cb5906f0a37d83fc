use Rattle.imp_check.specs.Entries.{entries_of, entry_of}
use Rattle.call_contexts.proofs.Differing.{SoFar}
use Rattle.call_contexts.proofs.differences.Differences.new.Given as goal

-- those at the numbers so far
abbrev pub invariant-loop-put : goal.invariant-loop-put
invariant-loop-put l = SoFar (entry_of (entries_of l.old)) l.puts l.proc l.put-index l.found.lost l.found.gained
