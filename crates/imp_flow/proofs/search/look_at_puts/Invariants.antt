use Rattle.std.proofs.Common.{ℕ, ◌≡◌, ◌<◌, Some, slice_get}
use Rattle.imp_table.specs.declared.change.Put.{Put}
use Rattle.imp_flow.specs.Searches.{GoesOn}
use Rattle.imp_flow.proofs.ChangedSet.{IsPutLooked}
use Rattle.imp_flow.proofs.search.look_at_puts.Given as goal

-- it looked at what comes or goes so far
abbrev pub invariant-loop-put : goal.invariant-loop-put
invariant-loop-put l = record {
  on : GoesOn l.old l.new l.initial.search l.search;
  looked : (k : ℕ) (p : Put) → k < l.put-index → slice_get l.puts k ≡ Some p → IsPutLooked l.old l.new l.search p;
}
