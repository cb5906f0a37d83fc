use Rattle.dbm_narrow.proofs.PartLemmas.{AreRows}
use Rattle.dbm_narrow.specs.Standing.{replaced}
use Rattle.dbm_narrow.proofs.standing.replace_rows.Given as goal

abbrev pub invariant-loop-i : goal.invariant-loop-i
invariant-loop-i gen l = AreRows gen.W.Width.unit gen.W.Width.positive (replaced gen.W.Width.unit l.q l.first l.second) l.fn.entries l.entries l.i
