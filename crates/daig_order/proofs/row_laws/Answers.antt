use Rattle.daig_order.proofs.AskingProofs.{system-acyclic, asks-next, value-is}
use Rattle.daig_order.proofs.TheoremProofs.{stable_rows}
use Rattle.daig_order.proofs.row_laws.Goals as goal

pub returns-clause-acyclic : goal.returns-clause-acyclic
returns-clause-acyclic g c = system-acyclic

pub returns-clause-next : goal.returns-clause-next
returns-clause-next g c = asks-next

pub returns-clause-values : goal.returns-clause-values
returns-clause-values g c = value-is

pub returns-clause-stable : goal.returns-clause-stable
returns-clause-stable g c = stable_rows
