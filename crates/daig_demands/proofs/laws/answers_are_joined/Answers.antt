use Rattle.daig_demands.proofs.Demanded.{answer_at}
use Rattle.daig_demands.proofs.Summing.{states_are_joined, first_over}
use Rattle.daig_demands.proofs.laws.answers_are_joined.Goals as goal

pub returns : goal.returns
returns g c = record {
  targets = λ d engine program same is checked l string p ts e. answer_at (g.D.Domain.operations d) engine program same is checked l string p ts e;
  states = λ d engine s ss. states_are_joined (g.D.Domain.operations d) engine s ss;
  over = λ d engine ss n z vs. first_over (g.D.Domain.operations d) engine n z vs ss;
}
