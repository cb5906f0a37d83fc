use Rattle.dbm_narrow.proofs.ClosingLemmas.{finish-total, own-outcome}
use Rattle.dbm_narrow.proofs.closing.close_strong.Goals as goal

pub returns : goal.returns
returns gen c = record {
  outcome = own-outcome gen.W.Width.unit gen.W.Width.positive c.args.kinds.now c.args.entries.now c.finish_strong.new.entries c.requires.narrow.matrix (record { diagonal = c.requires.strong.diagonal; triangles = c.requires.strong.triangles }) c.finish_strong.result c.finish_strong.ensures.finish;
  total = finish-total gen.W.Width.unit gen.W.Width.positive gen.W.Width.checked c.args.kinds.now c.args.entries.now c.finish_strong.new.entries c.finish_strong.result c.finish_strong.ensures.finish;
}
