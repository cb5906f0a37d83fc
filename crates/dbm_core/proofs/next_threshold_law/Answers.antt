use Rattle.dbm_core.proofs.ThresholdLemmas.{next_threshold-is-least}
use Rattle.dbm_core.proofs.next_threshold_law.Goals as goal

pub returns : goal.returns
returns c = record { next_threshold_is_least = next_threshold-is-least }
