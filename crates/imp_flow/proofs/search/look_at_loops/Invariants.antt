use Rattle.std.proofs.Common.{ℕ, ◌<◌}
use Rattle.imp_flow.specs.Searches.{GoesOn, AreLoopsLooked}
use Rattle.imp_flow.proofs.search.look_at_loops.Given as goal

-- it looked at the loops of the procedures so far
abbrev pub invariant-loop-place : goal.invariant-loop-place
invariant-loop-place l = record {
  on : GoesOn l.old l.new l.initial.search l.search;
  looked : (k : ℕ) → k < l.place → AreLoopsLooked l.old l.new l.search k;
}
