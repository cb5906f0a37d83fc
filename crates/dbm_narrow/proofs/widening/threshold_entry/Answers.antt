use Rattle.dbm_narrow.proofs.GrowthLemmas.{entry-none}
use Rattle.dbm_narrow.proofs.widening.threshold_entry.Goals as goal

pub returns-clause-total : goal.returns-clause-total
returns-clause-total gen c = entry-none gen.W.Width.unit gen.W.Width.positive gen.W.Width.checked gen.W.Width.roomy c.narrow_entry.result c.threshold_from.result c.narrow_entry.ensures.entry c.threshold_from.ensures.within
