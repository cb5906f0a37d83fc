use Rattle.daig_query.proofs.Holding.{right_holds, rest_is_right}
use Rattle.daig_query.proofs.laws.cells_stay_right.Goals as goal

pub returns : goal.returns
returns g c = record {
  holds = λ d plan store right. right_holds (g.D.Domain.operations d) plan store right;
  rest = λ d old new before after order touched right less holds found planned keeps. rest_is_right (g.D.Domain.operations d) old new before after right less holds found order touched planned keeps;
}
