use Rattle.std.proofs.Common.{◌≡◌, ◌++◌, drop}
use Rattle.imp_print.specs.Programs.{locals_text}
use Rattle.imp_print.proofs.declarations.put_locals.Given as goal

abbrev pub invariant-each : goal.invariant-each
invariant-each l = record { so_far : l.text ++ locals_text l.listing l.right (drop l.i l.locals) ≡ l.fn.text ++ locals_text l.listing l.right l.locals }
