use Rattle.std.proofs.Common.{Option, sym, ap, ◌∙◌}
use Rattle.cell_names.specs.declared.frame.Point.{Point}
use Rattle.imp_check.specs.declared.entry.SlotForm.{SlotForm}
use Rattle.imp_flow_rows.specs.Entered.{known_in, end_in, front_point, shape_from}
use Rattle.imp_flow_rows.specs.NodeRows.{post_by}
use Rattle.imp_flow_rows.specs.Shapes as plain
use Rattle.imp_flow_rows.proofs.rows.post_row.Goals as goal

pub returns-in-Call : goal.returns-in-Call
returns-in-Call c =
    let x = c.args.node.now.known.now in
    let ps = c.args.node.now.prog.now in
    record {
      is = λ w.
          c.behind_call.ensures.is w c.in-Call.callee
          ∙ ap (λ (o : Option Point). post_by w x.number (front_point x) (plain.Call c.in-Call.call c.in-Call.callee o)) c.end_in.ensures.is
          ∙ ap (λ (m : SlotForm). post_by w x.number (front_point x) (shape_from (known_in ps) (end_in ps x.context.proc) x m)) (sym c.in-Call.is);
    }
