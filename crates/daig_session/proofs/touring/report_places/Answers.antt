use Rattle.std.proofs.Common.{◌≡◌, List, sym, ap, subst, ◌∙◌}
use Rattle.std.specs.Prelude.{IfOk}
use Rattle.imp_check.specs.Slots.{routines_of}
use Rattle.daig_session.specs.Going.{kind_places}
use Rattle.daig_session.specs.Reports.{checks_among}
use Rattle.daig_session.proofs.ReportPlaces.{checks_are}
use Rattle.daig_session.proofs.touring.report_places.Goals as goal

pub returns-in_ok-stmts-in-Checks : goal.returns-in_ok-stmts-in-Checks
returns-in_ok-stmts-in-Checks c =
    let ps = c.args.view.now in
    record { are = subst (λ us. IfOk c.checks_among.result (λ ls. ls ≡ us)) (ap (checks_among ps) (c.as_slice.ensures.same ∙ c.in_ok-stmts-in-Checks.ensures.are) ∙ (checks_are ps c.procs.ensures.numbered ∙ ap (λ k. kind_places k (routines_of ps)) (sym c.in-Checks.is))) c.checks_among.ensures.are }
