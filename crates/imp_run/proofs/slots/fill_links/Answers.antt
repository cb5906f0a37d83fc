use Rattle.std.proofs.Common.{◌∙◌, arith}
use Rattle.concrete_sem.specs.Passing.{first_link}
use Rattle.imp_run.proofs.SlotLemmas.{links-filled-end}
use Rattle.imp_run.proofs.slots.fill_links.Goals as goal

pub returns : goal.returns
returns c = record { is = c.loop-name.invariant ∙ links-filled-end first_link c.args.links.now.items c.truncate.new.self.items c.args.layout.now c.len.result c.loop-name._name-index c.truncate.ensures.items (omega arith) (omega arith) }
