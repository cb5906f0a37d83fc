use Rattle.std.proofs.Common.{◌*◌}
use Rattle.dbm_close.proofs.RoundLemmas.{IsRounded}
use Rattle.dbm_narrow.specs.Entries.{AreEntries, held}
use Rattle.dbm_narrow.specs.Middles.{IsNarrowMiddle}
use Rattle.dbm_narrow.proofs.walks.least_weights.Given as goal

abbrev pub invariant-loop-q : goal.invariant-loop-q
invariant-loop-q gen l = record {
  rounded : IsRounded (held gen.W.Width.unit l.kinds l.fn.entries) (held gen.W.Width.unit l.kinds l.entries) l.q;
  entries : AreEntries gen.W.Width.unit (2 * gen.W.Width.unit) l.entries;
  middle : IsNarrowMiddle gen.W.Width.unit l.middle;
}
