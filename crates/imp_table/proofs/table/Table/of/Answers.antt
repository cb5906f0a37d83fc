use Rattle.imp_check.proofs.TableLemmas.{table_right}
use Rattle.imp_table.specs.Pages.{entry_at}
use Rattle.imp_table.proofs.ExchangeLemmas.{alike_right}
use Rattle.imp_table.proofs.table.Table.of.Goals as goal

pub invariant_of-result : goal.invariant_of-result
invariant_of-result c =
    let t = c.in_ok-heads.field-0 in
    let pages = c.in_ok-pages.pages.items in
    table_right _ (entry_at pages) t.count t.heads t.sites (alike_right _ _ (entry_at pages) t.count t.heads t.sites c.in_ok-pages.ensures.are c.in_ok-heads.ensures.are)
