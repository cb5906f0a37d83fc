use Rattle.dbm_incremental.proofs.LawLemmas.{close_of-closed, closed-same}
use Rattle.dbm_incremental.proofs.closed_law.Goals as goal

pub returns : goal.returns
returns c = record { closed = close_of-closed; same = closed-same }
