use Rattle.daig_order.proofs.InTurnLemmas.{turns-one, turns-union}
use Rattle.daig_order.proofs.turn_laws.Goals as goal

pub returns-clause-one : goal.returns-clause-one
returns-clause-one g c = turns-one

pub returns-clause-union : goal.returns-clause-union
returns-clause-union g c = turns-union
