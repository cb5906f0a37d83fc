use Rattle.std.proofs.Common.{ap}
use Rattle.cell_rows.specs.Cells.{Cell}
use Rattle.daig_demands.proofs.Indexing.{index_zero, iterates_none, cells_compare}
use Rattle.daig_demands.proofs.laws.indices_stay.Goals as goal

pub returns : goal.returns
returns g c = record {
  zero = λ d engine program same is checked x e. index_zero (g.D.Domain.operations d) engine program same is checked x e;
  iterates = λ d engine program same is checked w n y m. iterates_none (g.D.Domain.operations d) engine program same is checked w n y m;
  compared = λ a b h k. (λ e. ap (λ (x : Cell _). x.value) e, λ e. cells_compare a b h k e);
}
