-- Sources: the program of a text, or why it is refused.
use Rattle.std.specs.Prelude.{◌≡◌, ◌<◌, ℕ, List, All, Option, Some, None, Result, Ok, Err}
use Rattle.imp_syntax.specs.Plain.{Procedure, program_numbers}
use Rattle.imp_parse.specs.declared.error.ParseError.{ParseError}
use Rattle.imp_check.specs.declared.fault.LocatedFault.{LocatedFault}
use Rattle.imp_check.specs.Programs.{check_fault}
use Rattle.request_json.specs.declared.reply.Refusal.{Refusal}
use Rattle.serve_replies.specs.Refusals.{text_refusal, fault_refusal}
use Rattle.serve_answers.specs.Fine.{next_number}
use Rattle.serve_answers.specs.Readings.{Readings}
use Rattle.serve_output.specs.declared.error.JobError.{JobError}
use Rattle.serve_output.specs.declared.error.JobError.TheVariants.{Refused, Files, LongFile, Memory}

-- a program, unless it has a fault
abbrev pub unless_faulty : List Procedure → Option LocatedFault → Result (List Procedure) Refusal
unless_faulty ps None = Ok ps
unless_faulty ps (Some found) = Err (fault_refusal found)

abbrev pub checked : Result (List Procedure) ParseError → Result (List Procedure) Refusal
checked (Err error) = Err (text_refusal error)
checked (Ok ps) = unless_faulty ps (check_fault ps)

-- The program without faults that a source is, or why it is refused.
abbrev pub source_of : Readings → List ℕ → Result (List Procedure) Refusal
source_of readings source = checked (readings.program.answer source)

-- the error is why the source is refused, or out of memory
abbrev pub IsSourceError : Result (List Procedure) Refusal → JobError → Type 0
IsSourceError source (Refused why) = source ≡ Err why
IsSourceError source Files = ⊥
IsSourceError source LongFile = ⊥
IsSourceError source Memory = Unit {0}

-- The source is the text of this program without faults; or this is why it is refused, or out of memory.
abbrev pub IsTextOf : (source : List ℕ) → List Procedure → Type 0
IsTextOf source program = (readings : Readings) → source_of readings source ≡ Ok program

abbrev pub IsErrorOf : (source : List ℕ) → JobError → Type 0
IsErrorOf source error = (readings : Readings) → IsSourceError (source_of readings source) error

-- the numbers of a source are below the next one
abbrev pub IsNumbered : List Procedure → Type 0
IsNumbered program = All (λ (n : ℕ). n < next_number program) (program_numbers program)
