use Rattle.std.proofs.Common.{◌≡◌, ◌-◌, ◌^◌, ◌≤◌, min, max, drop}
use Rattle.imp_check.specs.Programs.{deepest}
use Rattle.imp_check.proofs.counts.deepest.Given as goal

abbrev pub invariant-loop-proc : goal.invariant-loop-proc
invariant-loop-proc l = record {
  small : l.most ≤ 2 ^ 32 - 1;
  told : min (max l.most (deepest (drop l.proc-index l.procs))) (2 ^ 32 - 1) ≡ min (deepest l.procs) (2 ^ 32 - 1);
}
