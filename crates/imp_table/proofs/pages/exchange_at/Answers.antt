use Rattle.std.proofs.Common.{◌≡◌, ◌/◌, ◌%◌, slice_set, ap, ◌∙◌}
use Rattle.imp_table.specs.Pages.{entry_at, lengths}
use Rattle.imp_table.proofs.PageLemmas.{page_at, page_is, page_there, number_set, number_lengths}
use Rattle.imp_table.proofs.pages.exchange_at.Goals as goal

pub returns-clause-is : goal.returns-clause-is
returns-clause-is c = λ m.
    let ps = c.args.pages.now in
    let n = c.args.number in
    let o = c.args.entry.now in
    let d = c.index-pages-number.result in
    let e = page_is ps (n / 64) d (page_there ps n c.requires.there) in
    let s : c.exchange.new.self ≡ slice_set (page_at ps (n / 64)) (n % 64) o = c.exchange.ensures.set ∙ ap (λ p. slice_set p (n % 64) o) e in
    ap (λ p. entry_at (slice_set ps (n / 64) p) m) s ∙ number_set ps n o c.requires.there m

pub returns-clause-places : goal.returns-clause-places
returns-clause-places c =
    let ps = c.args.pages.now in
    let n = c.args.number in
    let o = c.args.entry.now in
    let d = c.index-pages-number.result in
    let e = page_is ps (n / 64) d (page_there ps n c.requires.there) in
    let s : c.exchange.new.self ≡ slice_set (page_at ps (n / 64)) (n % 64) o = c.exchange.ensures.set ∙ ap (λ p. slice_set p (n % 64) o) e in
    ap (λ p. lengths (slice_set ps (n / 64) p)) s ∙ number_lengths ps n o c.requires.there
