use Rattle.std.proofs.Common.{is_some, sym, ◌∙◌}
use Rattle.std.specs.Option.{option_copied}
use Rattle.daig_session.proofs.CheckLemmas.{copied_some, some_check}
use Rattle.daig_session.proofs.checks.is_checked.Goals as goal

pub returns-clause-there : goal.returns-clause-there
returns-clause-there c = λ t.
    let n = c.args.id in
    let o = option_copied c.checked_stmt.result in
    some_check n c.args.view.now o c.checked_stmt.ensures.is c.checked_stmt.ensures.asks (copied_some c.checked_stmt.result ∙ (sym c.is_some.ensures ∙ t))
