use Rattle.std.proofs.Common.{refl, arith}
use Rattle.dbm_narrow.proofs.PuttingLemmas.{puts-same, two-put}
use Rattle.dbm_narrow.proofs.middle.put.Goals as goal

pub returns : goal.returns
returns gen c = record { put = puts-same gen.W.Width.unit gen.W.Width.positive _ _ _ _ _ _ _ (two-put gen.W.Width.unit gen.W.Width.positive c.args.row.now c.args.slot _ _ (omega arith)) (refl) (refl) }
