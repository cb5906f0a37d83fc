-- Procedures as plain data.
use Rattle.imp_syntax.specs.Plain.{Procedure, Statements}
use Rattle.imp_syntax.specs.declared.program.ProcParts.{ProcParts}

-- the procedure of these parts
abbrev pub procedure_of : ProcParts → Statements → Procedure
procedure_of h body = record { name = h.name; parameters = h.parameters; outcome = h.outcome; locals = h.locals; body = body }
