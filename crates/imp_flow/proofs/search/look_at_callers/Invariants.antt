use Rattle.std.proofs.Common.{ℕ, ◌<◌}
use Rattle.imp_flow.specs.Searches.{GoesOn, AreCallersLooked}
use Rattle.imp_flow.proofs.search.look_at_callers.Given as goal

-- it looked at the calls of the procedures so far
abbrev pub invariant-loop-place : goal.invariant-loop-place
invariant-loop-place l = record {
  on : GoesOn l.old l.new l.initial.search l.search;
  looked : (k : ℕ) → k < l.place → AreCallersLooked l.old l.new l.search l.before l.after k;
}
