use Rattle.std.proofs.Common.{◌≡◌, ◌+◌, ◌-◌, ◌^◌, ◌≤◌, min, drop}
use Rattle.imp_check.specs.Programs.{program_count}
use Rattle.imp_check.proofs.counts.program_count.Given as goal

abbrev pub invariant-loop-proc : goal.invariant-loop-proc
invariant-loop-proc l = record {
  small : l.total ≤ 2 ^ 32 - 1;
  told : min (l.total + program_count (drop l.proc-index l.procs)) (2 ^ 32 - 1) ≡ min (program_count l.procs) (2 ^ 32 - 1);
}
