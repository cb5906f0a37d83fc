use Rattle.daig_order.proofs.FoundLemmas.{found-start, found-step, found-missing, found-all, found-stays}
use Rattle.daig_order.proofs.found_laws.Goals as goal

pub returns-clause-starts : goal.returns-clause-starts
returns-clause-starts g c = found-start

pub returns-clause-steps : goal.returns-clause-steps
returns-clause-steps g c = found-step

pub returns-clause-missing : goal.returns-clause-missing
returns-clause-missing g c = found-missing

pub returns-clause-all : goal.returns-clause-all
returns-clause-all g c = found-all

pub returns-clause-stays : goal.returns-clause-stays
returns-clause-stays g c = found-stays
