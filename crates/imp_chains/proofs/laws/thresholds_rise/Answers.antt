use Rattle.imp_chains.proofs.Rising.{thresholds_rise}
use Rattle.imp_chains.proofs.laws.thresholds_rise.Goals as goal

pub returns : goal.returns
returns c = record { rising = thresholds_rise }
