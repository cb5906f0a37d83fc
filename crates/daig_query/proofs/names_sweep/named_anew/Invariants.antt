use Rattle.std.proofs.Common.{◌≡◌, [], length, Some, slice_get}
use Rattle.daig_query.specs.Renamed.{AreNamedAnew}
use Rattle.daig_query.proofs.Sweeping.{Leaves}
use Rattle.daig_query.proofs.names_sweep.named_anew.Given as goal

-- The names of the cells of the numbers so far are written anew; they are as many as these cells at most.
abbrev pub invariant-loop-number : goal.invariant-loop-number
invariant-loop-number l = record {
  anew : AreNamedAnew l.graph.cells l.names.names l.number l.numbers.items l.later.names;
  leaves : Leaves l.graph.cells l.number 0 (length l.later.names);
  root : slice_get l.later.paths 0 ≡ Some [];
}
