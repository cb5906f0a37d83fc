use Rattle.dbm_narrow.proofs.EntryLemmas.{sum-room}
use Rattle.dbm_narrow.proofs.entries.plus.Goals as goal

pub sum-requires : goal.sum-requires
sum-requires g c = record { room = sum-room g.W.Width.unit g.W.Width.positive c.args.a c.args.b c.requires.left c.requires.right }
