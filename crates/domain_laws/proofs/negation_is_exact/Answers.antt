use Rattle.domain_laws.proofs.GuardLaws.{positive-truth}
use Rattle.domain_laws.proofs.negation_is_exact.Goals as goal

pub returns : goal.returns
returns c = record { exact = positive-truth }
