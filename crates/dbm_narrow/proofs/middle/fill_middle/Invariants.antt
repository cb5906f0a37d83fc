use Rattle.std.proofs.Common.{◌*◌}
use Rattle.dbm_narrow.proofs.MiddleLemmas.{AreWays}
use Rattle.dbm_narrow.specs.Middles.{IsNarrowMiddle}
use Rattle.dbm_narrow.proofs.middle.fill_middle.Given as goal

abbrev pub invariant-loop-slot : goal.invariant-loop-slot
invariant-loop-slot gen l = record {
  ways : AreWays gen.W.Width.unit gen.W.Width.positive (2 * l.slot) l.entries l.q l.middle;
  narrow : IsNarrowMiddle gen.W.Width.unit l.middle;
}
