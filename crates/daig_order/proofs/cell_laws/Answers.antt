use Rattle.daig_order.proofs.WithinLemmas.{within-acyclic, within-users}
use Rattle.daig_order.proofs.Dependents.{dependents}
use Rattle.daig_order.proofs.cell_laws.Goals as goal

pub returns : goal.returns
returns g c = record {
  acyclic = within-acyclic;
  users = within-users;
  there = dependents;
}
