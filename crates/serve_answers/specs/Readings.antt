-- Readings of programs and of the texts of edits by the grammar.
use Rattle.std.specs.Prelude.{ℕ}
use Rattle.imp_parse.specs.Answer.{IsAnswer}
use Rattle.imp_parse.specs.Languages.{SimpleText, BodyText, ConditionText, ProcedureText, ProgramText}
use Rattle.imp_parse.specs.Limits.{inside, outside}
use Rattle.serve_replies.specs.Readings.{ReadingOf}

-- The readings of a program, of a simple statement, of statements, of a condition and of a procedure. The statements of
-- a program are numbered from 1 on, those of the other texts from `next` on, in the order of the text. There is one reading
-- of each, and no other.
pub record Readings : Type 0 where
  pub program : ReadingOf (IsAnswer ProgramText outside)
  pub simple : (next : ℕ) → ReadingOf (IsAnswer (SimpleText next) inside)
  pub statements : (next : ℕ) → ReadingOf (IsAnswer (BodyText next) inside)
  pub condition : ReadingOf (IsAnswer ConditionText inside)
  pub procedure : (next : ℕ) → ReadingOf (IsAnswer (ProcedureText next) outside)
