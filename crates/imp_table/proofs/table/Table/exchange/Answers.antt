use Rattle.std.proofs.Common.{length, drop, ap, ◌∙◌, subst, arith}
use Rattle.imp_check.specs.Tables.{AreOf}
use Rattle.imp_table.specs.Tabled.{Tabled}
use Rattle.imp_table.specs.Changes.{overlay}
use Rattle.imp_check.proofs.TableLemmas.{table_is, table_right, take_at}
use Rattle.imp_table.proofs.ExchangeLemmas.{after_right, back_makes}
use Rattle.imp_table.specs.Pages.{entry_at}
use Rattle.imp_table.proofs.table.Table.exchange.Goals as goal

pub invariant_of-self : goal.invariant_of-self
invariant_of-self g c =
    let at = entry_at c.self.inside.pages.items in
    let after = entry_at c.put_all.new.pages.items in
    let right = subst (λ (t : Tabled). AreOf t.program at c.self.inside.count c.self.inside.heads c.self.inside.sites) c.self.view_is c.self.invariant in
    let r = after_right c.args.self.now.program g.program c.args.change.now c.requires.0 c.requires.1.0 at c.self.inside.count c.self.inside.heads c.self.inside.sites right after (λ m. c.put_all.ensures.is m ∙ ap (λ ps. overlay ps at m) c.as_mut_slice.ensures.value) in
    table_right g.program after c.swap.new.x c.exchange_list.new.list c.exchange_list-2.new.list
    (record { fine = r.fine; entries = r.entries; counted = c.swap.ensures.x_after ∙ r.counted; procedures = c.exchange_list.ensures.after ∙ r.procedures; calls = c.exchange_list-2.ensures.after ∙ r.calls })

pub returns-clause-is : goal.returns-clause-is
returns-clause-is g c =
    let at = entry_at c.self.inside.pages.items in
    let after = entry_at c.put_all.new.pages.items in
    let right = subst (λ (t : Tabled). AreOf t.program at c.self.inside.count c.self.inside.heads c.self.inside.sites) c.self.view_is c.self.invariant in
    let r = after_right c.args.self.now.program g.program c.args.change.now c.requires.0 c.requires.1.0 at c.self.inside.count c.self.inside.heads c.self.inside.sites right after (λ m. c.put_all.ensures.is m ∙ ap (λ ps. overlay ps at m) c.as_mut_slice.ensures.value) in
    table_is g.program after c.swap.new.x c.exchange_list.new.list c.exchange_list-2.new.list
    (record { fine = r.fine; entries = r.entries; counted = c.swap.ensures.x_after ∙ r.counted; procedures = c.exchange_list.ensures.after ∙ r.procedures; calls = c.exchange_list-2.ensures.after ∙ r.calls })

pub returns-clause-back : goal.returns-clause-back
returns-clause-back g c =
    let at = entry_at c.self.inside.pages.items in
    let after = entry_at c.put_all.new.pages.items in
    let right = subst (λ (t : Tabled). AreOf t.program at c.self.inside.count c.self.inside.heads c.self.inside.sites) c.self.view_is c.self.invariant in
    back_makes c.args.self.now.program g.program c.args.change.now c.requires.0 c.requires.1.0 at c.self.inside.count c.self.inside.heads c.self.inside.sites right after (λ m. c.put_all.ensures.is m ∙ ap (λ ps. overlay ps at m) c.as_mut_slice.ensures.value) _
    (λ m. ap (λ ps. overlay ps after m) (take_at c.put_all.new.puts (drop (length c.put_all.new.puts) c.args.change.now.entries.items) c.args.change.now.entries.len (omega (arith, c.put_all.auto.puts, c.as_mut_slice.ensures.len))) ∙ c.put_all.ensures.back m)
    c.swap.ensures.y_after
    c.exchange_list.ensures.back
    c.exchange_list-2.ensures.back
