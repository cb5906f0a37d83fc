use Rattle.concrete_sem.proofs.Forms.{steps_go_on, steps_keep_form, start_is_well_formed}
use Rattle.concrete_sem.proofs.laws.steps_are_determined.Goals as goal

pub returns-clause-goes_on : goal.returns-clause-goes_on
returns-clause-goes_on c = steps_go_on

pub returns-clause-keeps_form : goal.returns-clause-keeps_form
returns-clause-keeps_form c = steps_keep_form

pub returns-clause-starts : goal.returns-clause-starts
returns-clause-starts c = start_is_well_formed
