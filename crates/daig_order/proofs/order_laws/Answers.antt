use Rattle.daig_order.proofs.TheoremProofs.{distinct, follows, needed, closed}
use Rattle.daig_order.proofs.order_laws.Goals as goal

pub returns-clause-distinct : goal.returns-clause-distinct
returns-clause-distinct g c = distinct

pub returns-clause-after_inputs : goal.returns-clause-after_inputs
returns-clause-after_inputs g c = follows

pub returns-clause-needed : goal.returns-clause-needed
returns-clause-needed g c = needed

pub returns-clause-closed : goal.returns-clause-closed
returns-clause-closed g c = closed
