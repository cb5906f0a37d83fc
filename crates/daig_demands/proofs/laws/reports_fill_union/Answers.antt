use Rattle.daig_order.proofs.AskingProofs.{system-acyclic}
use Rattle.daig_order.proofs.InTurnLemmas.{turns-one, turns-union}
use Rattle.daig_demands.specs.Claims.{found_by, names_of}
use Rattle.daig_demands.specs.Reports.{report_demands}
use Rattle.daig_demands.proofs.Machine.{rows, law}
use Rattle.daig_demands.proofs.Reported.{verdict_at}
use Rattle.daig_demands.proofs.laws.reports_fill_union.Goals as goal

pub returns : goal.returns
returns g c = record {
  one = λ d engine program same is checked kept.
      let dom = g.D.Domain.operations d in
      turns-one (names_of dom engine program same) (system-acyclic (rows dom engine program same is checked) (law dom engine program same is checked)) kept (report_demands (found_by dom engine program same) program);
  once = λ d engine program same is checked kept closed.
      let dom = g.D.Domain.operations d in
      (turns-union (names_of dom engine program same) (system-acyclic (rows dom engine program same is checked) (law dom engine program same is checked)) kept closed (report_demands (found_by dom engine program same) program)).0;
  union = λ d engine program same is checked kept x closed.
      let dom = g.D.Domain.operations d in
      (turns-union (names_of dom engine program same) (system-acyclic (rows dom engine program same is checked) (law dom engine program same is checked)) kept closed (report_demands (found_by dom engine program same) program)).1 x;
  verdicts = λ d engine program same is checked x p ts e t. verdict_at (g.D.Domain.operations d) engine program same is checked x p ts e t;
}
