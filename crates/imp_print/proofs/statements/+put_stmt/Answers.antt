use Rattle.std.proofs.Common.{ap, arith}
use Rattle.imp_syntax.specs.Plain.{block_size}
use Rattle.imp_syntax.specs.Blocks.{member_smaller}
use Rattle.imp_print.proofs.statements.+put_stmt.Goals as goal

pub put_block-put_stmt-requires : goal.put_block-put_stmt-requires
put_block-put_stmt-requires t c =
    let m = member_smaller c.as_slice-stmts.result.now c.each.i c.index-stmts-i.result c.each-test.true c.index-stmts-i.is in
    let p = ap block_size c.each.invariant.whole in
    (omega (arith, m, p, c.decreases), tt)
