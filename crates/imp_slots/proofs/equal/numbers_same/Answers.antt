use Rattle.std.proofs.Common.{◌∙◌}
use Rattle.base_values.specs.Equal.{list_same}
use Rattle.imp_slots.specs.PartCodes.{numeric_to}
use Rattle.imp_slots.proofs.equal.numbers_same.Goals as goal

pub returns : goal.returns
returns c = record { same = c.eq.ensures ∙ list_same numeric_to c.args.a.now c.args.b.now }
