use Rattle.std.specs.Cmp.Lexicographic.{pointwise_decides}
use Rattle.base_short.proofs.equality_decides.Goals as goal

pub returns : goal.returns
returns g c = record { decides = λ decided. pointwise_decides decided }
