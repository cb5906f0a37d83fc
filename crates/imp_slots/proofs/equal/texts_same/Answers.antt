use Rattle.std.proofs.Common.{◌∙◌}
use Rattle.base_values.specs.Equal.{text_same}
use Rattle.imp_slots.proofs.equal.texts_same.Goals as goal

pub returns : goal.returns
returns c = record { same = c.eq.ensures ∙ text_same c.args.a.now c.args.b.now }
