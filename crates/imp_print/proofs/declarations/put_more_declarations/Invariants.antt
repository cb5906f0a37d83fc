use Rattle.std.proofs.Common.{◌≡◌, ◌++◌, drop}
use Rattle.imp_print.specs.Programs.{more_declarations_text}
use Rattle.imp_print.proofs.declarations.put_more_declarations.Given as goal

abbrev pub invariant-each : goal.invariant-each
invariant-each l = record { so_far : l.text ++ more_declarations_text (drop l.i l.declarations) ≡ l.fn.text ++ more_declarations_text l.declarations }
