use Rattle.std.proofs.Common.{◌≡◌, ℕ, vec_len}
use Rattle.concrete_sem.specs.Steps.{Ret, leave_loop}
use Rattle.imp_run.specs.Work.{work_on}
use Rattle.imp_run.proofs.work.leave_loop.Given as goal

-- the items taken so far are no tests
abbrev pub invariant-loop-item : goal.invariant-loop-item
invariant-loop-item l = (p : ℕ) → leave_loop (work_on (Ret p) l.initial.work.items) ≡ leave_loop (work_on (Ret p) l.work.items)

abbrev pub decreases-loop-item : goal.decreases-loop-item
decreases-loop-item l = vec_len l.work
