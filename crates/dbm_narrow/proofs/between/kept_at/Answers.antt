use Rattle.std.proofs.Common.{arith, ap, ◌∙◌}
use Rattle.dbm_narrow.proofs.PartLemmas.{place-in}
use Rattle.dbm_narrow.specs.Entries.{at}
use Rattle.dbm_narrow.proofs.between.kept_at.Goals as goal

pub read-requires : goal.read-requires
read-requires gen c = record { place = omega (arith, place-in gen.W.Width.unit gen.W.Width.positive c.args.entries.now c.args.slots c.args.i c.args.j c.requires.size c.requires.row c.requires.column) }

pub returns : goal.returns
returns gen c = record { entry = c.read.ensures.value ∙ ap (at gen.W.Width.unit c.args.entries.now) c.place-kept.ensures.place }
