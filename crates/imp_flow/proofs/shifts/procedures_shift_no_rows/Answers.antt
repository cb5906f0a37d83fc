use Rattle.imp_flow.proofs.ShiftPlaces.{places_shift}
use Rattle.imp_flow.proofs.ShiftPrograms.{rows_keep}
use Rattle.imp_flow.proofs.shifts.procedures_shift_no_rows.Goals as goal

pub returns-clause-rows : goal.returns-clause-rows
returns-clause-rows c = λ engine program k r within checked. rows_keep engine program k r within checked

pub returns-clause-places : goal.returns-clause-places
returns-clause-places c = places_shift
