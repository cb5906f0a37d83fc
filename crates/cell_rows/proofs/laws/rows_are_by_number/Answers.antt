use Rattle.std.specs.Prelude.{reverse}
use Rattle.cell_rows.proofs.FlatOnce.{flat_once}
use Rattle.cell_rows.proofs.FlatRows.{flat_row_is}
use Rattle.cell_rows.proofs.Rowed.{has_row}
use Rattle.cell_rows.proofs.laws.rows_are_by_number.Goals as goal

pub returns : goal.returns
returns c = record {
  found = λ engine program x r checked e. flat_row_is engine (reverse program) (flat_once program checked) x.path x.point r e;
  there = λ engine program x checked h. has_row engine program checked x h;
}
