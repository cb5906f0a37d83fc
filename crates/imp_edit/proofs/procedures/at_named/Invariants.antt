use Rattle.std.proofs.Common.{◌≡◌, ◌++◌, drop}
use Rattle.imp_edit.specs.Changes.{at_named}
use Rattle.imp_edit.specs.Made.{made_of}
use Rattle.imp_edit.proofs.procedures.at_named.Given as goal

abbrev pub invariant-loop-i : goal.invariant-loop-i
invariant-loop-i l = l.all ++ at_named l.name (made_of l.edit) (drop l.i l.procs) ≡ at_named l.name (made_of l.edit) l.procs
