use Rattle.dbm_narrow.proofs.PartLemmas.{AreRows}
use Rattle.dbm_narrow.specs.Entries.{dropped}
use Rattle.dbm_narrow.proofs.dropping.drop_rows.Given as goal

abbrev pub invariant-loop-i : goal.invariant-loop-i
invariant-loop-i gen l = AreRows gen.W.Width.unit gen.W.Width.positive (dropped gen.W.Width.unit l.slot) l.fn.entries l.entries l.i
