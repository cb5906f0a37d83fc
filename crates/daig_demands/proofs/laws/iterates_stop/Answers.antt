use Rattle.daig_demands.proofs.Stopping.{wants_by_last, ends_by_last}
use Rattle.daig_demands.proofs.laws.iterates_stop.Goals as goal

pub returns : goal.returns
returns g c = record {
  more = λ d engine vs v h. wants_by_last (g.D.Domain.operations d) engine vs v h;
  fixed = λ d engine over vs v h k. ends_by_last (g.D.Domain.operations d) engine over vs v h k;
}
