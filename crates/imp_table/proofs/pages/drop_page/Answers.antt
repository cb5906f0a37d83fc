use Rattle.std.proofs.Common.{◌≡◌, true, sym, ◌∙◌}
use Rattle.imp_table.proofs.PageLemmas.{set_still}
use Rattle.imp_table.proofs.pages.drop_page.Goals as goal

pub returns-clause-others : goal.returns-clause-others
returns-clause-others c = λ n needed.
    let none : c.args.is_needed ≡ true → ⊥ = λ h. (let e = sym c.if-is_needed.false ∙ h in cc) in
    set_still c.args.pages.now c.args.page c.none.result c.requires.there n (λ q. absurd (none (needed q)))
