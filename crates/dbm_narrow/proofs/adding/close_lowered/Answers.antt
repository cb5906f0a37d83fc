use Rattle.dbm_core.specs.Half.{entry}
use Rattle.dbm_incremental.proofs.CloseLemmas.{empty-from_entries}
use Rattle.dbm_incremental.specs.Steps.{lowered_all}
use Rattle.dbm_narrow.proofs.ClosingLemmas.{finish-total, lowered-outcome}
use Rattle.dbm_narrow.specs.Entries.{held}
use Rattle.dbm_narrow.proofs.adding.close_lowered.Goals as goal

pub finish-requires : goal.finish-requires
finish-requires gen c = record { narrow = c.in-Done.ensures.lowered.narrow }

pub returns-in-Done : goal.returns-in-Done
returns-in-Done gen c = record { outcome = lowered-outcome gen.W.Width.unit gen.W.Width.positive c.args.kinds.now c.args.entries.now c.lower_all.new.entries c.finish.new.entries c.args.bounds.now c.in-Done.ensures.lowered c.finish.result c.finish.ensures.finish; total = finish-total gen.W.Width.unit gen.W.Width.positive gen.W.Width.checked c.args.kinds.now c.lower_all.new.entries c.finish.new.entries c.finish.result c.finish.ensures.finish }

pub returns-in-Negative : goal.returns-in-Negative
returns-in-Negative gen c = record { outcome = λ t h. empty-from_entries c.args.kinds.now (lowered_all (entry (held gen.W.Width.unit c.args.kinds.now c.args.entries.now)) c.args.bounds.now) t h c.in-Negative.ensures.lowered; total = tt }
