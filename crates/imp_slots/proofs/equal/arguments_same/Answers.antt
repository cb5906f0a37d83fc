use Rattle.std.proofs.Common.{◌∙◌}
use Rattle.imp_slots.proofs.Lists.{arguments_pointwise}
use Rattle.imp_slots.proofs.equal.arguments_same.Goals as goal

pub returns : goal.returns
returns c = record { same = c.eq.ensures ∙ arguments_pointwise c.args.a.now c.args.b.now }
