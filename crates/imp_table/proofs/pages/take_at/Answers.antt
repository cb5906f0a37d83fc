use Rattle.std.proofs.Common.{sym, subst, ◌∙◌}
use Rattle.imp_table.specs.Pages.{lengths, HasPlace}
use Rattle.imp_table.proofs.PageLemmas.{nothing_at}
use Rattle.imp_table.proofs.pages.take_at.Goals as goal

pub returns-else-has_place-clause-is : goal.returns-else-has_place-clause-is
returns-else-has_place-clause-is c =
    let n = c.args.number in
    c.free-entry.ensures.is ∙ sym (nothing_at c.args.pages.now.items n (λ h. (
    let e = sym c.if-has_place.false ∙ c.has_place.ensures.is.1 (subst (λ ps. HasPlace (lengths ps) n) (sym c.as_slice.ensures.value) h) in
    cc)))
