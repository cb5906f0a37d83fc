use Rattle.concrete_sem.proofs.Keeps.{effects_keep, passing_keeps, returns_keep, last_alone_keeps, start_keeps}
use Rattle.concrete_sem.proofs.laws.steps_keep_data.Goals as goal

pub returns-clause-effects : goal.returns-clause-effects
returns-clause-effects c = effects_keep

pub returns-clause-calls : goal.returns-clause-calls
returns-clause-calls c = passing_keeps

pub returns-clause-returns : goal.returns-clause-returns
returns-clause-returns c = returns_keep

pub returns-clause-last_alone : goal.returns-clause-last_alone
returns-clause-last_alone c = last_alone_keeps

pub returns-clause-starts : goal.returns-clause-starts
returns-clause-starts c = start_keeps
