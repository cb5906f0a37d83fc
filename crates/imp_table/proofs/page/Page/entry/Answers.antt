use Rattle.std.proofs.Common.{ap, sym, ◌∙◌}
use Rattle.imp_check.specs.Tables.{entry_in}
use Rattle.imp_check.proofs.PutLemmas.{slot_get, entry_past}
use Rattle.imp_table.proofs.page.Page.entry.Goals as goal

pub returns-in-Some : goal.returns-in-Some
returns-in-Some c = record { is = c.entry.ensures.is ∙ c.in-Some.ensures.lookup.1 ∙ slot_get c.deref.result.now c.args.place c.in-Some.slot.now c.in-Some.ensures.lookup.3.0 ∙ ap (λ xs. entry_in xs c.args.place) (c.deref.ensures.value ∙ c.self.view_is) }

pub returns-in-None : goal.returns-in-None
returns-in-None c = record { is = sym (entry_past c.deref.result.now c.args.place c.in-None.ensures.lookup.3) ∙ ap (λ xs. entry_in xs c.args.place) (c.deref.ensures.value ∙ c.self.view_is) }
