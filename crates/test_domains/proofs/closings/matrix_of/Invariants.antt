use Rattle.std.proofs.Common.{◌≡◌, ◌^◌, length}
use Rattle.dbm_core.specs.Half.{entry, nodes}
use Rattle.dbm_core.specs.Limits.{AreWithin, IsZeroAtMost}
use Rattle.test_domains.proofs.closings.matrix_of.Given as goal

abbrev pub invariant-loop-i : goal.invariant-loop-i
invariant-loop-i l = record {
  slots : length l.matrix.kinds ≡ 2;
  diagonal : IsZeroAtMost (nodes l.matrix) (entry l.matrix);
  within : AreWithin (nodes l.matrix) (2 ^ 70) (entry l.matrix);
}
