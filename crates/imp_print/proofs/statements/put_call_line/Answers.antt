use Rattle.imp_print.specs.Statements.{margin}
use Rattle.imp_print.proofs.Written.{line_added}
use Rattle.imp_print.proofs.statements.put_call_line.Goals as goal

pub returns : goal.returns
returns c =
    let m = margin c.args.listing c.args.number in
    record { added = line_added _ _ _ _ m c.args.right.now _ c.append.result c.in_ok-begin_line.ensures.added c.in_ok-put_call.ensures.added c.append.ensures.added }
