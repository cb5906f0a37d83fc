use Rattle.cell_kept_set.proofs.Local.{same_kept}
use Rattle.cell_kept_set.proofs.Plans.{rows_tell_names, places_turn}
use Rattle.cell_kept_set.proofs.RowTests.{row_test}
use Rattle.cell_kept_set.proofs.laws.rows_tell_kept.Goals as goal

pub returns : goal.returns
returns g c = record {
  kept = λ d e same cells is co cn are keep x. same_kept (g.D.Domain.operations d) e co cn same is cells are keep x;
  names = λ d e x co cn keep h frames. rows_tell_names (g.D.Domain.operations d) e x co cn keep h frames;
  changed = λ d e same x r q h k. row_test (g.D.Domain.operations d) e same x r q h k;
  turn = λ e k. places_turn e k;
}
