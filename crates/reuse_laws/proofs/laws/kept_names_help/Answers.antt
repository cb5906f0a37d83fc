use Rattle.reuse_laws.proofs.Rest.{misses_rest}
use Rattle.reuse_laws.proofs.laws.kept_names_help.Goals as goal

pub returns : goal.returns
returns g c = record { rest = misses_rest }
