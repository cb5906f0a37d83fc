use Rattle.dbm_incremental.proofs.KeepLemmas.{join-closed, join-whole}
use Rattle.dbm_incremental.proofs.join_law.Goals as goal

pub returns : goal.returns
returns c = record { closed = join-closed; whole = join-whole }
