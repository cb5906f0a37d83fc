use Rattle.base_values.specs.Equal.{same_Decides}
use Rattle.base_values.proofs.codes_decide.Goals as goal

pub returns : goal.returns
returns g c = record { decides = λ code x y. same_Decides code x y }
