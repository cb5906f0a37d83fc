use Rattle.memo_table.proofs.Telling.{key_decides, operation_decides}
use Rattle.memo_table.proofs.equality.equality_decides.Goals as goal

pub returns-clause-keys : goal.returns-clause-keys
returns-clause-keys c = key_decides

pub returns-clause-operations : goal.returns-clause-operations
returns-clause-operations c = operation_decides
