use Rattle.std.proofs.Common.{◌≡◌, ◌++◌, ◌-◌}
use Rattle.imp_print.specs.Statements.{spaces}
use Rattle.imp_print.proofs.lines.put_spaces.Given as goal

abbrev pub invariant-each : goal.invariant-each
invariant-each l = record { so_far : l.text ++ spaces (l.count - l.i) ≡ l.fn.text ++ spaces l.count }
