-- Printed text is read back.
use Rattle.std.specs.Prelude.{◌≡◌, ℕ, false, List}
use Rattle.imp_syntax.specs.Plain.{Condition, Statement, Statements, Procedure, program_numbers}
use Rattle.imp_parse.specs.Answer.{HasTree}
use Rattle.imp_parse.specs.Languages.{SimpleText, BodyText, ProcedureText, ConditionText, ProgramText}
use Rattle.imp_parse.specs.Limits.{inside, outside}
use Rattle.imp_print.specs.Programs.{program_text}
use Rattle.imp_round_trip.specs.Printable.{IsConditionOfText, IsPrintableStatement, IsPrintableBlock, IsPrintableProcedure, IsPrintable}
use Rattle.imp_round_trip.specs.Renumbered.{renumbered, counting, program_count, bare}

-- the text of each such program has its tree, its statements numbered anew
abbrev pub PrintingIsReadBack : Type 0
PrintingIsReadBack = (ps : List Procedure) → IsPrintable ps → HasTree ProgramText outside (program_text false ps) (renumbered ps)

-- what is read from a text is such a program
abbrev pub ReadIsPrintable : Type 0
ReadIsPrintable = (text : List ℕ) (ps : List Procedure) → HasTree ProgramText outside text ps → IsPrintable ps

-- so are the pieces that are read: a procedure, statements, a simple statement, a condition
abbrev pub ReadProcedureIsPrintable : Type 0
ReadProcedureIsPrintable = (n : ℕ) (text : List ℕ) (p : Procedure × ℕ) → HasTree (ProcedureText n) outside text p → IsPrintableProcedure p.0

abbrev pub ReadBodyIsPrintable : Type 0
ReadBodyIsPrintable = (n : ℕ) (text : List ℕ) (b : Statements × ℕ) → HasTree (BodyText n) inside text b → IsPrintableBlock 0 b.0

abbrev pub ReadSimpleIsPrintable : Type 0
ReadSimpleIsPrintable = (n : ℕ) (text : List ℕ) (s : Statement × ℕ) → HasTree (SimpleText n) inside text s → IsPrintableStatement 0 s.0

abbrev pub ReadConditionIsPrintable : Type 0
ReadConditionIsPrintable = (text : List ℕ) (c : Condition) → HasTree ConditionText inside text c → IsConditionOfText c

-- and its text is read back to it, numbers and all
abbrev pub ReadIsReadBack : Type 0
ReadIsReadBack = (text : List ℕ) (ps : List Procedure) → HasTree ProgramText outside text ps → HasTree ProgramText outside (program_text false ps) ps

-- numbering anew keeps all but the numbers
abbrev pub RenumberingKeepsTrees : Type 0
RenumberingKeepsTrees = (ps : List Procedure) → bare (renumbered ps) ≡ bare ps

-- the new numbers are 1, 2, .. in the order of the text
abbrev pub RenumberingCounts : Type 0
RenumberingCounts = (ps : List Procedure) → program_numbers (renumbered ps) ≡ counting 1 (program_count ps)

-- and the text is the same
abbrev pub RenumberingKeepsTexts : Type 0
RenumberingKeepsTexts = (ps : List Procedure) → program_text false (renumbered ps) ≡ program_text false ps
