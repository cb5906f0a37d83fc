use Rattle.imp_check.proofs.CodeLemmas.{code_end}
use Rattle.imp_check.proofs.resolve.+blocks.Goals as goal

pub code_in-returns : goal.code_in-returns
code_in-returns t c =
    let e = code_end c.loop-stmt.nodes.items c.args.resolver.now c.as_slice-stmt-items.result.now c.loop-stmt.stmt-index _ c.loop-stmt-test.false c.loop-stmt.invariant.told in
    record { is = rw e at c.new.ensures.same }
