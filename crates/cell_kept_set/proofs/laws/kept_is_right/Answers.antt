use Rattle.cell_kept_set.proofs.ByNew.{is_right, by_new}
use Rattle.cell_kept_set.proofs.laws.kept_is_right.Goals as goal

pub returns : goal.returns
returns g c = record {
  right = λ d e same cells is co cn are x k. is_right (g.D.Domain.operations d) e co cn same is cells are x k;
  new = λ d e same cells is co cn are x. by_new (g.D.Domain.operations d) e co cn same is cells are x;
}
