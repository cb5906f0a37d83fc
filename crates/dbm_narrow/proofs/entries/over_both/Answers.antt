use Rattle.std.specs.Prelude.{◌*◌}
use Rattle.std.proofs.Common.{arith}
use Rattle.dbm_narrow.proofs.EntryLemmas.{entry-more, sum-room}
use Rattle.dbm_narrow.proofs.entries.over_both.Goals as goal

pub sum-requires : goal.sum-requires
sum-requires g c = record {
  room = sum-room g.W.Width.unit g.W.Width.positive c.args.to_first c.args.from_first
      (entry-more g.W.Width.unit g.W.Width.positive (6 * g.W.Width.unit) (8 * g.W.Width.unit) c.args.to_first (omega arith) c.requires.to_first) c.requires.from_first;
}

pub sum-requires-2 : goal.sum-requires-2
sum-requires-2 g c = record {
  room = sum-room g.W.Width.unit g.W.Width.positive c.args.to_second c.args.from_second
      (entry-more g.W.Width.unit g.W.Width.positive (6 * g.W.Width.unit) (8 * g.W.Width.unit) c.args.to_second (omega arith) c.requires.to_second) c.requires.from_second;
}
