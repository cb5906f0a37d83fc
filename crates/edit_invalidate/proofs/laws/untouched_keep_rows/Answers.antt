use Rattle.edit_invalidate.proofs.Leaving as leaving
use Rattle.edit_invalidate.proofs.Others.{others_keep_rows}
use Rattle.edit_invalidate.proofs.Tracing.{traces_stay}
use Rattle.edit_invalidate.proofs.Untouched.{untouched_have_traces}
use Rattle.edit_invalidate.proofs.laws.untouched_keep_rows.Goals as goal

pub returns : goal.returns
returns g c = record {
  rows = λ d old new names cells stmts n one h are s free. leaving.untouched_keep_rows (g.D.Domain.operations d) old new names cells stmts n one h are s free;
  others = others_keep_rows;
  stay = λ d old new x xs vs v one keep trace. traces_stay (g.D.Domain.operations d) old new x xs vs v one keep trace;
  traces = λ d old new names cells stmts n x one h are s free named. untouched_have_traces (g.D.Domain.operations d) old new names cells stmts n x one h are s free named;
}
