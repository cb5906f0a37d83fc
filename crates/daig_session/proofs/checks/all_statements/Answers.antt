use Rattle.std.proofs.Common.{◌++◌, ap, ◌∙◌, arith}
use Rattle.imp_syntax.specs.Plain.{program_numbers}
use Rattle.imp_check.specs.Walks.{numbers_at}
use Rattle.daig_session.proofs.CheckLemmas.{numbers_step}
use Rattle.daig_session.proofs.checks.all_statements.Goals as goal

pub loop-place-preserved : goal.loop-place-preserved
loop-place-preserved c =
    let ps = c.args.view.now in
    let k = c.loop-place.place in
    let found = c.loop-place.found in
    numbers_step ps k found c.add_statements.new.found (program_numbers ps) (omega (arith, c.loop-place-test.true, c.procedure_count-place-end.ensures.is, c.loop-place.auto.place-end))
    (c.in_ok-add_statements.ensures.added ∙ ap (λ ns. found ++ ns) (c.as_slice.ensures.same ∙ (c.in_ok-stmts.ensures.are ∙ ap (numbers_at ps) c.new.ensures.is)))
    c.loop-place.invariant
