use Rattle.dbm_close.proofs.LawLemmas.{halves-exact}
use Rattle.dbm_close.proofs.halves_law.Goals as goal

pub returns : goal.returns
returns c = record { halves_are_exact = halves-exact }
