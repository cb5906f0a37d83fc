use Rattle.std.proofs.Common.{◌≤◌}
use Rattle.imp_check.specs.Slots.{routines_of}
use Rattle.call_contexts.specs.Marks.{AreMarked}
use Rattle.call_contexts.proofs.callers.marked_callers.Given as goal

abbrev pub invariant-loop-k : goal.invariant-loop-k
invariant-loop-k l = record {
  to : l.k ≤ l.main;
  are : AreMarked (routines_of l.prog) l.marks l.place l.main l.k;
}
