use Rattle.std.proofs.Common.{◌∙◌, ap, map}
use Rattle.concrete_sem.specs.Values.{Variables}
use Rattle.imp_run.specs.Slots.{number_of}
use Rattle.imp_run.proofs.SlotLemmas.{set-slot}
use Rattle.imp_run.proofs.slots.Slots.set_number.Goals as goal

pub returns : goal.returns
returns c = record { is = ap (λ xs. let u : Variables = record { numbers = map number_of xs; links = c.self.inside.links.items } in u) c.put.ensures.is ∙ set-slot c.self.inside.numbers.items c.self.inside.links.items c.args.self.now c.self.view_is c.args.x c.args.held }
