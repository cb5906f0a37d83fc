use Rattle.shape_steps.proofs.Concrete.{slot-null, slot-cell, slots-equal}
use Rattle.shape_steps.proofs.laws.slots_tell_variables.Goals as goal

pub returns-clause-null : goal.returns-clause-null
returns-clause-null c = slot-null

pub returns-clause-cell : goal.returns-clause-cell
returns-clause-cell c = slot-cell

pub returns-clause-equal : goal.returns-clause-equal
returns-clause-equal c = slots-equal
