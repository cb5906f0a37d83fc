use Rattle.base_values.specs.Equal.{same_fed}
use Rattle.base_values.proofs.hashes_agree.Goals as goal

pub returns : goal.returns
returns g c = record { agree = λ code. same_fed code }
