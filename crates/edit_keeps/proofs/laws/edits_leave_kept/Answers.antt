use Rattle.edit_keeps.proofs.LeaveKept.{leave_kept}
use Rattle.edit_keeps.proofs.laws.edits_leave_kept.Goals as goal

pub returns : goal.returns
returns g c = record { kept = λ d engine old new names cells stmts plan apart h are r. leave_kept (g.D.Domain.operations d) engine old new names cells stmts plan apart h are r }
