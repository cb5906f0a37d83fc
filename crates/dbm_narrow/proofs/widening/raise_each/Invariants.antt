use Rattle.dbm_narrow.proofs.WideningLemmas.{IsRaised}
use Rattle.dbm_narrow.proofs.widening.raise_each.Given as goal

abbrev pub invariant-loop-j : goal.invariant-loop-j
invariant-loop-j gen l = IsRaised gen.W.Width.unit gen.W.Width.positive l.thresholds l.i l.fn.row l.others l.row l.j
