use Rattle.imp_print.proofs.Written.{empty_is}
use Rattle.imp_print.proofs.statements.is_empty.Goals as goal

pub returns : goal.returns
returns c = record { is = empty_is c.args.block.now c.is_empty.result c.is_empty.ensures.empty }
