use Rattle.std.proofs.Common.{◌∙◌, sym}
use Rattle.imp_flow_rows.specs.Entered.{node_now}
use Rattle.imp_flow.proofs.FlowLemmas.{entry_found}
use Rattle.imp_flow.proofs.flow.Flow.entry_row.Goals as goal

pub returns-in-Some : goal.returns-in-Some
returns-in-Some c = record {
  is = λ w.
      c.enter_row.ensures.is c.args.frame w
      ∙ entry_found c.args.self.now w c.args.frame c.in-InCall.stmt (node_now c.in-Some.node) c.in-InCall.is (sym c.in-Some.ensures.is);
}
