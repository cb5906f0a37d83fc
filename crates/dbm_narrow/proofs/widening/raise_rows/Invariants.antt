use Rattle.dbm_narrow.proofs.WideningLemmas.{AreRaised}
use Rattle.dbm_narrow.proofs.widening.raise_rows.Given as goal

abbrev pub invariant-loop-i : goal.invariant-loop-i
invariant-loop-i gen l = AreRaised gen.W.Width.unit gen.W.Width.positive l.thresholds l.fn.entries l.others l.entries l.i
