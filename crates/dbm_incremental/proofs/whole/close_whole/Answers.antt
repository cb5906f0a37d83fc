use Rattle.std.specs.Prelude.{refl}
use Rattle.dbm_core.specs.Half.{entry, nodes}
use Rattle.dbm_incremental.proofs.CloseLemmas.{close-from_weights, finish-answer}
use Rattle.dbm_incremental.proofs.TriangleLemmas.{own-weights}
use Rattle.dbm_incremental.proofs.whole.close_whole.Goals as goal

pub returns : goal.returns
returns c = record {
  closed = close-from_weights c.args.matrix c.args.matrix c.finish.result refl (own-weights (entry c.args.matrix) (nodes c.args.matrix) c.requires.diagonal c.requires.whole) c.finish.ensures.finish;
  stays_closed = finish-answer (entry c.args.matrix) c.args.matrix c.finish.result c.kinds-kinds.ensures.matrix (own-weights (entry c.args.matrix) (nodes c.args.matrix) c.requires.diagonal c.requires.whole) c.finish.ensures.finish;
}
