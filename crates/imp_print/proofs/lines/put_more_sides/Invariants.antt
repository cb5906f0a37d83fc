use Rattle.std.proofs.Common.{◌≡◌, ◌++◌, drop}
use Rattle.imp_syntax.specs.ActionViews.{operands_of}
use Rattle.imp_print.specs.Statements.{more_sides_text}
use Rattle.imp_print.proofs.lines.put_more_sides.Given as goal

abbrev pub invariant-each : goal.invariant-each
invariant-each l = record { so_far : l.text ++ more_sides_text (operands_of (drop l.i l.sides)) ≡ l.fn.text ++ more_sides_text (operands_of l.sides) }
