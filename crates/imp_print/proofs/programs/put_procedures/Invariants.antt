use Rattle.std.proofs.Common.{◌≡◌, ◌++◌, drop}
use Rattle.imp_print.specs.Programs.{program_text}
use Rattle.imp_print.proofs.programs.put_procedures.Given as goal

abbrev pub invariant-each : goal.invariant-each
invariant-each l = record { so_far : l.text ++ program_text l.listing (drop l.i l.procedures) ≡ l.fn.text ++ program_text l.listing l.procedures }
