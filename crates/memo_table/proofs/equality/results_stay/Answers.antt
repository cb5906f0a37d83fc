use Rattle.memo_table.proofs.Entries.{results-stay}
use Rattle.memo_table.proofs.equality.results_stay.Goals as goal

pub returns : goal.returns
returns g c = record { later = results-stay g.row.S.Denot }
