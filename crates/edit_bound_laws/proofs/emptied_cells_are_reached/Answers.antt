use Rattle.edit_bound_laws.proofs.Sources.{emptied-behind}
use Rattle.edit_bound_laws.proofs.Bound.{machines_empty, machines_keep_others}
use Rattle.edit_bound_laws.proofs.emptied_cells_are_reached.Goals as goal

pub returns-clause-reached : goal.returns-clause-reached
returns-clause-reached g c = λ d. machines_empty (g.D.Domain.operations d)

pub returns-clause-alone : goal.returns-clause-alone
returns-clause-alone g c = λ d. machines_keep_others (g.D.Domain.operations d)

pub returns-clause-behind : goal.returns-clause-behind
returns-clause-behind g c = λ d. emptied-behind (g.D.Domain.operations d)
