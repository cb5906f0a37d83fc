use Rattle.std.proofs.Common.{◌≡◌, ◌*◌, true}
use Rattle.dbm_narrow.specs.Middles.{through_middle}
use Rattle.dbm_narrow.specs.Entries.{AreEntries}
use Rattle.dbm_narrow.proofs.PartLemmas.{AreRowsIn}
use Rattle.dbm_narrow.proofs.walks.go_through_rows.Given as goal

abbrev pub invariant-loop-i : goal.invariant-loop-i
invariant-loop-i gen l = AreRowsIn gen.W.Width.unit gen.W.Width.positive (14 * gen.W.Width.unit) (through_middle gen.W.Width.unit l.middle) l.fn.entries l.entries l.i × (l.each ≡ true → AreEntries gen.W.Width.unit (2 * gen.W.Width.unit) l.entries)
