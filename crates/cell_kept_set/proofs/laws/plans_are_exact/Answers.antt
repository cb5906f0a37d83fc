use Rattle.cell_kept_set.proofs.Changed.{changed_of}
use Rattle.cell_kept_set.proofs.Plans.{exact, still_cells}
use Rattle.cell_kept_set.proofs.laws.plans_are_exact.Goals as goal

pub returns : goal.returns
returns g c = record {
  told = λ d e same xs is. changed_of (g.D.Domain.operations d) e same is xs;
  exact = λ d e same cells is co cn are users peak changed plan keep those p.
      let f = exact (g.D.Domain.operations d) e same cells is co cn are users peak changed plan keep those p in
      (f, still_cells (g.D.Domain.operations d) e same cells is co cn are plan f);
}
