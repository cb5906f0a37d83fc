use Rattle.domain_laws.proofs.CheckLaws.{check-passed, check-failed}
use Rattle.domain_laws.proofs.checks_are_exact.Goals as goal

pub returns : goal.returns
returns c = record { passed = check-passed; failed = check-failed }
