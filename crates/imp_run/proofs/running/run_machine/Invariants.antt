use Rattle.std.proofs.Common.{◌≡◌, ◌+◌, ◌≤◌}
use Rattle.std.specs.Option.{option_copied}
use Rattle.concrete_sem.specs.Runs.{run_from}
use Rattle.imp_run.specs.Machine.{config_of}
use Rattle.imp_run.specs.Outcome.{stands_at, after_more}
use Rattle.imp_run.proofs.running.run_machine.Given as goal

-- what is counted, and the run from here on, is the whole run
abbrev pub invariant-loop-stepped : goal.invariant-loop-stepped
invariant-loop-stepped l = record {
  told : after_more l.reached (run_from l.program (stands_at l.program (option_copied l.at)) l.left (config_of l.machine)) ≡ run_from l.program (stands_at l.program (option_copied l.at)) l.fuel (config_of l.initial.machine);
  few : l.reached + l.left ≤ l.fuel;
}

abbrev pub decreases-loop-stepped : goal.decreases-loop-stepped
decreases-loop-stepped l = l.left
