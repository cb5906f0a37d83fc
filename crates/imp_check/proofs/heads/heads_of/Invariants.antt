use Rattle.std.proofs.Common.{◌≡◌, ◌++◌, drop}
use Rattle.imp_check.specs.Entries.{heads_of}
use Rattle.imp_check.proofs.heads.heads_of.Given as goal

-- the heads so far, and those to come
abbrev pub invariant-loop-i : goal.invariant-loop-i
invariant-loop-i l = l.heads ++ heads_of (drop l.i l.procs) ≡ heads_of l.procs
