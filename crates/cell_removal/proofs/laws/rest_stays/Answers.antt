use Rattle.cell_removal.proofs.Rest.{rest_stays}
use Rattle.cell_removal.proofs.laws.rest_stays.Goals as goal

pub returns : goal.returns
returns g c = record { rest = λ cells plan n. rest_stays cells plan n }
