use Rattle.std.proofs.Common.{arith, ◌<◌, ◌-◌, length, ◌∙◌}
use Rattle.std.proofs.lemmas.Result.{IfOk-weaker}
use Rattle.std.proofs.lemmas.Bool.Decides.{nat_tests}
use Rattle.shape_steps.proofs.Graphs.{last_of-is}
use Rattle.shape_steps.proofs.last_row.Goals as goal

pub returns : goal.returns
returns c =
    let empty = c.if-is_empty.ensures in
    let some : 0 < length c.args.rows.now = grind (arith, nat_tests) in
    record {
      last = IfOk-weaker c.copy.result _ _
          (λ row e. e ∙ c.index-rows-rows.is ∙ last_of-is c.args.rows.now (length c.args.rows.now - 1) c.index-rows-rows.result (omega arith))
          c.copy.ensures.same;
    }
