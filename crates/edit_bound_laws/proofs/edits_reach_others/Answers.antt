use Rattle.edit_bound_laws.proofs.Emptied.{loop-before, other-procedure}
use Rattle.edit_bound_laws.proofs.LastStatement.{last-dead-end}
use Rattle.edit_bound_laws.proofs.edits_reach_others.Goals as goal

pub returns-clause-dead_end : goal.returns-clause-dead_end
returns-clause-dead_end g c = last-dead-end

pub returns-clause-loop_before : goal.returns-clause-loop_before
returns-clause-loop_before g c = λ d. loop-before (g.D.Domain.operations d)

pub returns-clause-other_procedure : goal.returns-clause-other_procedure
returns-clause-other_procedure g c = λ d. other-procedure (g.D.Domain.operations d)
