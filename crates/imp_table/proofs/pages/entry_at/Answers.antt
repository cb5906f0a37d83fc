use Rattle.std.proofs.Common.{◌/◌, ◌%◌, ap, sym, ◌∙◌}
use Rattle.imp_check.specs.Tables.{entry_in}
use Rattle.imp_table.proofs.PageLemmas.{page_is, page_past}
use Rattle.imp_table.proofs.pages.entry_at.Goals as goal

pub returns-in-Some : goal.returns-in-Some
returns-in-Some c =
    let n = c.args.number in
    let found = c.in-Some.ensures.lookup.3.0 in
    record { is = c.entry.ensures.is ∙ ap (λ p. entry_in p (n % 64)) (c.in-Some.ensures.lookup.1 ∙ page_is c.args.pages.now (n / 64) c.in-Some.page.now found) }

pub returns-in-None : goal.returns-in-None
returns-in-None c =
    let n = c.args.number in
    record { is = sym (ap (λ p. entry_in p (n % 64)) (page_past c.args.pages.now (n / 64) c.in-None.ensures.lookup.3)) }
