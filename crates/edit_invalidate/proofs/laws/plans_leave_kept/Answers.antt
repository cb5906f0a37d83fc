use Rattle.edit_invalidate.proofs.Rising.{are_named, rise}
use Rattle.edit_invalidate.proofs.Leaving.{plans_leave}
use Rattle.edit_invalidate.proofs.laws.plans_leave_kept.Goals as goal

pub returns : goal.returns
returns g c = record {
  named = λ d plan names cells h. are_named (g.D.Domain.operations d) plan names cells h;
  rise = λ d plan names cells h. rise (g.D.Domain.operations d) plan names cells h;
  kept = λ d old new names cells stmts plan one cn keep h are r. plans_leave (g.D.Domain.operations d) old new names cells stmts plan one cn keep h are r;
}
