use Rattle.daig_query.proofs.Starting.{new_good}
use Rattle.daig_query.proofs.Walks.{good_grows, done_grows}
use Rattle.daig_query.proofs.laws.walks_stay_good.Goals as goal

pub returns : goal.returns
returns g c = record {
  new = λ d plan ts store w right is. new_good (g.D.Domain.operations d) plan ts store w right is;
  good = λ d plan ts old new w right grows is. good_grows (g.D.Domain.operations d) plan ts old new w right grows is;
  done = λ d plan ts old new w right grows is. done_grows (g.D.Domain.operations d) plan ts old new w right grows is;
}
