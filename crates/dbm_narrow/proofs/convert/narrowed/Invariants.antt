use Rattle.dbm_narrow.proofs.ConvertLemmas.{AreNarrowed}
use Rattle.dbm_narrow.proofs.convert.narrowed.Given as goal

abbrev pub invariant-loop-bound : goal.invariant-loop-bound
invariant-loop-bound gen l = AreNarrowed gen.W.Width.unit gen.W.Width.positive l.kept l.bound-index l.entries.items
