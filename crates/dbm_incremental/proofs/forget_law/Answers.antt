use Rattle.dbm_incremental.proofs.KeepLemmas.{forget-closed, forget-whole}
use Rattle.dbm_incremental.proofs.forget_law.Goals as goal

pub returns : goal.returns
returns c = record { closed = forget-closed; whole = forget-whole }
