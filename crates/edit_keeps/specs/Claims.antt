-- Edits keep the places of statements.
use Rattle.std.specs.Prelude.{ℕ, ◌<◌, List}
use Rattle.std.specs.List.{All}
use Rattle.imp_syntax.specs.Plain.{Procedure, program_numbers}
use Rattle.imp_syntax.specs.declared.edit.Edit.{Edit}
use Rattle.imp_check.specs.Fine.{IsFine}
use Rattle.imp_check.specs.Slots.{routines_of}
use Rattle.imp_edit.specs.Edited.{edited, Continues}
use Rattle.cell_kept_set.specs.Places.{KeepPlaces}

-- Of a program without faults, whose numbers are below the next one, an edit whose statements carry the numbers from that
-- one on makes a program with the same places, where it makes one without faults; and taking the edit back does.
abbrev pub EditsKeepPlaces : Type 0
EditsKeepPlaces =
    (e : Edit) (program : List Procedure) (next : ℕ) → IsFine program → IsFine (edited e program) → All (λ (n : ℕ). n < next) (program_numbers program) → Continues e next →
    KeepPlaces (routines_of program) (routines_of (edited e program)) × KeepPlaces (routines_of (edited e program)) (routines_of program)
