use Rattle.dbm_narrow.proofs.ClosingLemmas.{finish-total, weights-outcome}
use Rattle.dbm_narrow.proofs.StepLemmas.{closes-negative}
use Rattle.dbm_narrow.specs.Entries.{held}
use Rattle.dbm_narrow.proofs.closing.close_entries.Goals as goal

pub finish-requires : goal.finish-requires
finish-requires gen c = record { narrow = record { matrix = c.in-Done.ensures.weights.0.matrix; entries = c.in-Done.ensures.weights.1 } }

pub returns-in-Done : goal.returns-in-Done
returns-in-Done gen c = record { outcome = weights-outcome gen.W.Width.unit gen.W.Width.positive c.args.kinds.now c.args.entries.now c.least_weights.new.entries c.finish.new.entries c.requires.narrow.matrix c.requires.diagonal c.in-Done.ensures.weights.0 c.finish.result c.finish.ensures.finish; total = finish-total gen.W.Width.unit gen.W.Width.positive gen.W.Width.checked c.args.kinds.now c.least_weights.new.entries c.finish.new.entries c.finish.result c.finish.ensures.finish }

pub returns-in-Negative : goal.returns-in-Negative
returns-in-Negative gen c = record { outcome = closes-negative gen.W.Width.unit gen.W.Width.positive (held gen.W.Width.unit c.args.kinds.now c.args.entries.now) c.requires.narrow.matrix c.requires.diagonal c.in-Negative.ensures.weights; total = tt }
