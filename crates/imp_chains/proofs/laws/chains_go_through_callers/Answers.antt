use Rattle.imp_chains.proofs.Found.{chains_through_callers}
use Rattle.imp_chains.proofs.laws.chains_go_through_callers.Goals as goal

pub returns : goal.returns
returns c = record { through = chains_through_callers }
