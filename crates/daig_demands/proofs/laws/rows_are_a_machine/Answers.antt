use Rattle.daig_demands.proofs.Demanded.{demanded_named, needed_named}
use Rattle.daig_demands.proofs.Machine.{answered, runs}
use Rattle.daig_demands.proofs.laws.rows_are_a_machine.Goals as goal

pub returns : goal.returns
returns g c = record {
  rows = λ d engine program same is checked x r e. answered (g.D.Domain.operations d) engine program same is checked x r e;
  runs = λ d engine program same is checked ts. runs (g.D.Domain.operations d) engine program same is checked ts;
  demanded = λ d engine program same is checked l string p ts x e m. demanded_named (g.D.Domain.operations d) engine program same is checked l string p ts x e m;
  needed = λ d engine program same is checked l string p ts x e n. needed_named (g.D.Domain.operations d) engine program same is checked (c.rows_give_values.ensures.names d) l string p ts x e n;
}
