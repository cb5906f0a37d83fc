use Rattle.dbm_close.proofs.CloseOfLemmas.{close_of-is, close_of-keeps, close_of-only}
use Rattle.dbm_close.proofs.close_of_law.Goals as goal

pub returns : goal.returns
returns c = record { close = close_of-is; only = close_of-only; keeps = close_of-keeps }
