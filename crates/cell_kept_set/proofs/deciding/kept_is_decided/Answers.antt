use Rattle.cell_kept_set.proofs.KeptDecided.{kept_decides}
use Rattle.cell_kept_set.proofs.deciding.kept_is_decided.Goals as goal

pub returns : goal.returns
returns g c = record {
  decided = λ d e same cells is co cn are x. kept_decides (g.D.Domain.operations d) e same is co cn cells are x;
}
