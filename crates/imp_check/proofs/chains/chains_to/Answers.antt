use Rattle.imp_check.proofs.ChainLemmas.{only_main, not_main}
use Rattle.imp_check.proofs.chains.chains_to.Goals as goal

pub returns-then-is_empty : goal.returns-then-is_empty
returns-then-is_empty c = record { is = only_main c.args.name.now c.args.later.now c.if-is_empty.ensures }

pub returns-else-is_empty : goal.returns-else-is_empty
returns-else-is_empty c = record { is = not_main c.args.name.now c.args.later.now c.through.result c.if-is_empty.ensures c.through.ensures.is }
