use Rattle.std.proofs.Common.{◌+◌, length, ap, arith}
use Rattle.test_session.proofs.Numbers.{all_below}
use Rattle.test_session.proofs.texts.next_of.Goals as goal

pub returns-clause-below : goal.returns-clause-below
returns-clause-below c =
    let ps = c.args.table.now.program in
    all_below ps (c.count-count.result + 1) (λ k l.
    c.loop-place.invariant k (omega (arith, l, c.loop-place-test.false, c.procedure_count-place-end.ensures.is, ap length c.view-view.ensures.is)))
