use Rattle.std.proofs.Common.{◌+◌, ◌∙◌, Bool, sym, ap, subst}
use Rattle.std.specs.Option.{option_copied}
use Rattle.concrete_sem.specs.Steps.{Config}
use Rattle.concrete_sem.specs.Runs.{Run, ends}
use Rattle.imp_run.specs.Machine.{config_of}
use Rattle.imp_run.specs.Outcome.{stands_at, after_more, bit, IsEndAfter}
use Rattle.imp_run.proofs.RunLemmas.{after-counted, run-ends, count-zero}
use Rattle.imp_run.proofs.running.run_machine.Goals as goal

pub returns-in-Some : goal.returns-in-Some
returns-in-Some c =
    let here : Config → Bool = stands_at c.args.program.now (option_copied c.args.at) in
    let before : Config = config_of c.loop-stepped.machine in
    let after : Config = config_of c.step.new.machine in
    let last = subst (IsEndAfter c.in_ok-stepped.stepped c.loop-stepped.left) c.in-Some.is c.end_after.ensures.is in
    let told = run-ends c.args.program.now here c.in_ok-stepped.stepped c.loop-stepped.left c.in-Some.end before after last (c.in_ok-stepped.ensures {u = tt}).is in
    let count = c.counted-reached.ensures.is ∙ ap (λ b. c.loop-stepped.reached + bit b) c.stands_at-here.ensures.is in
    record {
      outcome =
          ap (λ m. let r : Run = record { end = c.in-Some.end; reached = m } in r) (count ∙ count-zero (c.loop-stepped.reached + bit (here before)))
          ∙ sym (after-counted c.loop-stepped.reached (here before) (ends c.in-Some.end))
          ∙ ap (after_more c.loop-stepped.reached) (sym told)
          ∙ c.loop-stepped.invariant.told;
    }
