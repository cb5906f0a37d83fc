use Rattle.std.proofs.Common.{refl}
use Rattle.std.proofs.lemmas.Nat.{and_le_r}
use Rattle.memo_table.specs.Recent.{index_of}
use Rattle.memo_table.proofs.recent.index_of.Goals as goal

pub returns-clause-is : goal.returns-clause-is
unfolding index_of
returns-clause-is c = refl

pub returns-clause-within : goal.returns-clause-within
returns-clause-within c = and_le_r _ c.args.last
