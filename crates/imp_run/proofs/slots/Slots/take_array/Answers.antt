use Rattle.std.proofs.Common.{◌∙◌, ap, map, pos}
use Rattle.concrete_sem.specs.Values.{Variables}
use Rattle.imp_run.specs.declared.slots.SlotValue.TheVariants.{Int}
use Rattle.imp_run.specs.Slots.{number_of, elements_of}
use Rattle.imp_run.proofs.SlotLemmas.{set-slot, taken-elements}
use Rattle.imp_run.proofs.slots.Slots.take_array.Goals as goal

pub returns-clause-elements : goal.returns-clause-elements
returns-clause-elements c = c.elements_of.ensures.is ∙ ap elements_of c.take.ensures.is ∙ taken-elements c.self.inside.numbers.items c.self.inside.links.items c.args.self.now c.self.view_is c.args.a

pub returns-clause-left : goal.returns-clause-left
returns-clause-left c = ap (λ xs. let u : Variables = record { numbers = map number_of xs; links = c.self.inside.links.items } in u) c.take.ensures.left ∙ set-slot c.self.inside.numbers.items c.self.inside.links.items c.args.self.now c.self.view_is c.args.a (Int (pos 0))
