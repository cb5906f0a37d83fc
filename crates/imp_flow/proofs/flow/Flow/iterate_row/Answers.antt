use Rattle.std.proofs.Common.{◌-◌, ◌∙◌, sym, ap}
use Rattle.call_contexts.specs.Settings.{engine_of}
use Rattle.imp_flow_rows.specs.Entered.{node_now}
use Rattle.imp_flow_rows.specs.NodeRows.{next_at}
use Rattle.imp_flow.specs.Plans.{thresholds_at}
use Rattle.imp_flow.proofs.FlowLemmas.{iterate_found}
use Rattle.imp_flow.proofs.flow.Flow.iterate_row.Goals as goal

pub returns-in-Some : goal.returns-in-Some
returns-in-Some c =
    let thresholds = c.thresholds-thresholds.ensures.is ∙ ap (thresholds_at c.args.self.now) c.place.ensures.is in
    record {
      is = λ w.
          c.next_row.ensures.is w
          ∙ (λ i. next_at w (engine_of (c.budget.ensures.is i) (c.widening.ensures.is i)) (thresholds i) (c.args.index - 1) (node_now c.in-Some.node))
          ∙ iterate_found c.args.self.now w c.args.stmt c.args.index (node_now c.in-Some.node) c.if-index-eq0.false (sym c.in-Some.ensures.is);
    }
