use Rattle.edit_invalidate.proofs.RowTold.{rows_told}
use Rattle.edit_invalidate.proofs.compare.same_rows.Goals as goal

pub returns : goal.returns
returns c = record { told = λ w h. rows_told c.args.in_main c.args.left_alone c.same_row.result c.args.row.now c.args.other.now c.same_row.ensures.is w h }
