-- Machines whose programs have no fault.
use Rattle.std.specs.Prelude.{◌≡◌, ℕ, ◌<◌, ◌+◌, true, List, length, None, Ok}
use Rattle.std.specs.List.{All}
use Rattle.imp_syntax.specs.Plain.{Procedure, program_numbers}
use Rattle.imp_check.specs.Fine.{IsFine}
use Rattle.imp_check.specs.Programs.{check_fault}
use Rattle.imp_check.specs.Small.{small_program}
use Rattle.domain_laws.specs.Operations.{Operations}
use Rattle.batch_meaning.specs.Batch.{LoopOptions}
use Rattle.daig_machine.specs.Machine.{Machine, first_machine}
use Rattle.serve_answers.specs.Readings.{Readings}
use Rattle.serve_answers.specs.Lines.{Served, line_turn}

-- A program without faults, whose literals are below 2^63, and whose numbers are below the next one.
pub record IsFineBelow (next : ℕ) (program : List Procedure) : Type 0 where
  pub fine : IsFine program
  pub small : small_program program ≡ true
  pub below : All (λ (n : ℕ). n < next) (program_numbers program)

-- The present program is one, and so are those before it and after it.
pub record HasFinePrograms (m : Machine) : Type 0 where
  pub some : 0 < m.next
  pub present : IsFineBelow m.next m.program
  pub past : All (IsFineBelow m.next) m.past
  pub future : All (IsFineBelow m.next) m.future

-- Each line leaves it so: an edit that is accepted leads to such a program, and undo and redo lead to one that was there.
abbrev pub LinesKeepFine : {S : Type 0} → Operations S → Type 0
LinesKeepFine dom = (readings : Readings) (m : Machine) (line : List ℕ) → HasFinePrograms m → HasFinePrograms (line_turn readings dom line m).machine

-- the next number of the program of a source, which is one more than it has statements
abbrev pub next_number : List Procedure → ℕ
next_number program = length (program_numbers program) + 1

-- what serves a program at first
abbrev pub opening : Readings → LoopOptions → List Procedure → Served
opening readings engine program = record { readings = readings; machine = first_machine program engine (next_number program) }

-- The source is this program, and it has no fault.
pub record IsProgramOf (readings : Readings) (source : List ℕ) (program : List Procedure) : Type 0 where
  pub read : readings.program.answer source ≡ Ok program
  pub faultless : check_fault program ≡ None

-- So it is at first.
abbrev pub SourcesAreFine : Type 0
SourcesAreFine =
    (readings : Readings) (engine : LoopOptions) (source : List ℕ) (program : List Procedure) → IsProgramOf readings source program →
    HasFinePrograms (opening readings engine program).machine
