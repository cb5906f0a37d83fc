use Rattle.dom_octagon_words.proofs.Made.{table_made, table_diagonal}
use Rattle.dom_octagon_words.proofs.read.table.Goals as goal

pub from_fn-requires-clause-diagonal : goal.from_fn-requires-clause-diagonal
from_fn-requires-clause-diagonal c = table_diagonal c.args.kinds.now c.args.words.now c.requires.entries

pub returns : goal.returns
returns c = record { exact = table_made c.from_fn.result c.args.kinds.now c.args.words.now c.requires.few c.requires.entries c.from_fn.ensures.matrix c.from_fn.ensures.same_kinds c.from_fn.ensures.kept }
