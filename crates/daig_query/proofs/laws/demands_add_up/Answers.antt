use Rattle.daig_query.proofs.Rest.{rest_missing, in_turn}
use Rattle.daig_query.proofs.laws.demands_add_up.Goals as goal

pub returns : goal.returns
returns g c = record {
  rest = λ d plan ts old new count right fills. rest_missing (g.D.Domain.operations d) plan ts old new count right fills;
  turns = λ d plan ts old new xss fills. in_turn (g.D.Domain.operations d) plan ts old new xss fills;
}
