use Rattle.edit_bound_laws.proofs.Others.{others-keep}
use Rattle.edit_bound_laws.proofs.edits_change_neighbours.Goals as goal

pub returns : goal.returns
returns c = record { others = others-keep }
