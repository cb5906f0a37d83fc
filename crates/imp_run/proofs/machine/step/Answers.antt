use Rattle.std.proofs.Common.{[], ap, ◌∙◌}
use Rattle.concrete_sem.specs.Steps.{Ret, step_frame}
use Rattle.imp_run.specs.Work.{put, work_on}
use Rattle.imp_run.specs.Machine.{frames_on}
use Rattle.imp_run.proofs.machine.step.Goals as goal

pub returns-in_ok-stepped-in-Some-Test : goal.returns-in_ok-stepped-in-Some-Test
returns-in_ok-stepped-in-Some-Test c =
    record {
      is =
          ap (λ w. step_frame c.args.program.now c.args.machine.now.last.place (frames_on [] c.args.machine.now.below.items) c.args.machine.now.store c.args.machine.now.last.slots w) ((c.in-Some-Test.ensures {u = tt}).is (Ret c.args.machine.now.last.place))
          ∙ ap (λ i. step_frame c.args.program.now c.args.machine.now.last.place (frames_on [] c.args.machine.now.below.items) c.args.machine.now.store c.args.machine.now.last.slots (put i (work_on (Ret c.args.machine.now.last.place) c.pop_item.new.work.items))) c.in-Some-Test.field-0-is
          ∙ (c.in_ok-stepped-in-Some-Test.ensures {u = tt}).is c.args.program.now;
    }
