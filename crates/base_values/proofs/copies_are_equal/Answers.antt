use Rattle.base_values.specs.Copies.{copies_equal}
use Rattle.base_values.proofs.copies_are_equal.Goals as goal

pub returns : goal.returns
returns g c = record { equal = λ copied. copies_equal copied }
