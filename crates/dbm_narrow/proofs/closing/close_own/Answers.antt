use Rattle.dbm_narrow.proofs.ClosingLemmas.{finish-total, own-outcome}
use Rattle.dbm_narrow.proofs.closing.close_own.Goals as goal

pub returns : goal.returns
returns gen c = record { outcome = own-outcome gen.W.Width.unit gen.W.Width.positive c.args.kinds.now c.args.entries.now c.finish.new.entries c.requires.narrow.matrix c.requires.weights c.finish.result c.finish.ensures.finish; total = finish-total gen.W.Width.unit gen.W.Width.positive gen.W.Width.checked c.args.kinds.now c.args.entries.now c.finish.new.entries c.finish.result c.finish.ensures.finish }
