use Rattle.daig_order.proofs.TurnedLemmas.{turned-acyclic, order-plan, rest-closed}
use Rattle.daig_order.proofs.removal_laws.Goals as goal

pub returns-clause-acyclic : goal.returns-clause-acyclic
returns-clause-acyclic g c = turned-acyclic

pub returns-clause-plan : goal.returns-clause-plan
returns-clause-plan g c = order-plan

pub returns-clause-rest : goal.returns-clause-rest
returns-clause-rest g c = rest-closed
