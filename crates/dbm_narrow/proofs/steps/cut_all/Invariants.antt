use Rattle.dbm_narrow.proofs.StepLemmas.{AreCutTo}
use Rattle.dbm_narrow.proofs.steps.cut_all.Given as goal

abbrev pub invariant-loop-k : goal.invariant-loop-k
invariant-loop-k gen l = AreCutTo gen.W.Width.unit gen.W.Width.positive l.fn.entries l.entries l.k
