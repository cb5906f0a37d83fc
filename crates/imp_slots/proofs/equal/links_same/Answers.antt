use Rattle.std.proofs.Common.{◌∙◌}
use Rattle.imp_slots.proofs.Lists.{texts_pointwise}
use Rattle.imp_slots.proofs.equal.links_same.Goals as goal

pub returns : goal.returns
returns c = record { same = c.eq.ensures ∙ texts_pointwise c.args.a.now c.args.b.now }
