use Rattle.std.proofs.Common.{Some, sym, ap, ◌∙◌}
use Rattle.imp_flow_rows.specs.Entered.{node_now}
use Rattle.imp_flow.proofs.FlowLemmas.{before_found}
use Rattle.imp_flow.proofs.flow.Flow.point_before_iterate.Goals as goal

pub returns-in-Some : goal.returns-in-Some
returns-in-Some c = record {
  is = ap Some c.before_iterate.ensures.is ∙ before_found c.args.self.now c.args.stmt c.args.index (node_now c.in-Some.node) c.if-index-eq0.false (sym c.in-Some.ensures.is);
}
