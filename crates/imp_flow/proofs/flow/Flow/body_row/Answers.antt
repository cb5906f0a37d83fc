use Rattle.std.proofs.Common.{◌∙◌, sym}
use Rattle.call_contexts.specs.Settings.{engine_of}
use Rattle.imp_flow_rows.specs.Entered.{node_now}
use Rattle.imp_flow_rows.specs.NodeRows.{turn_at}
use Rattle.imp_flow.proofs.FlowLemmas.{body_found}
use Rattle.imp_flow.proofs.flow.Flow.body_row.Goals as goal

pub returns-in-Some : goal.returns-in-Some
returns-in-Some c = record {
  is = λ w.
      c.turn_row.ensures.is c.args.frame w
      ∙ (λ i. turn_at w (engine_of (c.budget.ensures.is i) (c.widening.ensures.is i)) c.in-InLoop.index (node_now c.in-Some.node))
      ∙ body_found c.args.self.now w c.args.frame c.in-InLoop.stmt c.in-InLoop.index (node_now c.in-Some.node) c.in-InLoop.is (sym c.in-Some.ensures.is);
}
