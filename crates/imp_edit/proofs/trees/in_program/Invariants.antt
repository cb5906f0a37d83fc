use Rattle.std.proofs.Common.{◌≡◌, ◌++◌, drop}
use Rattle.imp_edit.specs.Changes.{in_program}
use Rattle.imp_edit.specs.Made.{made}
use Rattle.imp_edit.proofs.trees.in_program.Given as goal

abbrev pub invariant-loop-proc : goal.invariant-loop-proc
invariant-loop-proc l = l.all ++ in_program l.stmt (made l.edit) (drop l.proc-index l.procs) ≡ in_program l.stmt (made l.edit) l.procs
