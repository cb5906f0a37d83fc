use Rattle.dbm_narrow.proofs.StrongEntries.{strong-tells}
use Rattle.dbm_narrow.proofs.steps.finish_strong.Goals as goal

pub returns : goal.returns
returns gen c = record { finish = strong-tells gen.W.Width.unit gen.W.Width.positive c.args.kinds.now c.args.entries.now c.requires.strong c.last_steps.new.entries c.requires.narrow c.last_steps.ensures.cut c.last_steps.result c.last_steps.ensures.last }
