use Rattle.daig_order.specs.Asking.{value_of}
use Rattle.cell_rows.specs.Claims.{rows_of}
use Rattle.cell_rows.proofs.Ways.{targets_some}
use Rattle.cell_rows.proofs.Answered.{answer_is, total_batch}
use Rattle.cell_rows.proofs.laws.answers_are_read.Goals as goal

pub returns : goal.returns
returns g c = record {
  there = λ program l string p checked found. targets_some program checked l p string found;
  agree = λ d engine program same l string p ts is checked t.
      let dom = g.D.Domain.operations d in
      answer_is dom engine program checked (value_of (rows_of dom engine program same)) (total_batch dom engine program checked same is) l string p ts t;
}
