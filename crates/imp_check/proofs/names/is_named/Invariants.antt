use Rattle.std.proofs.Common.{◌≡◌, drop}
use Rattle.imp_check.specs.Names.{is_named}
use Rattle.imp_check.proofs.names.is_named.Given as goal

-- what is left has the answer
abbrev pub invariant-loop-proc : goal.invariant-loop-proc
invariant-loop-proc l = is_named (drop l.proc-index l.procs) l.name ≡ is_named l.procs l.name
