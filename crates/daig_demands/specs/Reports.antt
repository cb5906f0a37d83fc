-- What a report demands: for each checked statement what is asked before it, over all chains to its procedure.
use Rattle.std.specs.Prelude.{List, [], map, Option, Some, None}
use Rattle.imp_syntax.specs.declared.edit.Location.{Location}
use Rattle.imp_syntax.specs.declared.edit.Location.TheVariants.{Before}
use Rattle.imp_slots.specs.Plain.{Routine}
use Rattle.batch_meaning.specs.Answers.{Found, In, Misses, procedure_of}
use Rattle.batch_meaning.specs.Report.{CheckedStatement, checked_statements}
use Rattle.cell_names.specs.Paths.{CellName}
use Rattle.cell_rows.specs.Cells.{Cell}
use Rattle.cell_rows.specs.Targets.{Target, demanded, targets}

-- the targets of a location, in its procedure, under the empty call string
abbrev pub or_none : Option (List Target) → List Target
or_none None = []
or_none (Some ts) = ts

abbrev pub targets_in : List Routine → Location → Found → List Target
targets_in program l (Misses r) = []
targets_in program l (In p) = or_none (targets program p l [])

abbrev pub check_targets : List Routine → CheckedStatement → List Target
check_targets program c = targets_in program (Before c.number) (procedure_of program (Before c.number))

-- the demands, one for each checked statement in the order of the text
abbrev pub report_demands : {S : Type 0} → (CellName → Cell S) → List Routine → List (List CellName)
report_demands f program = map (λ c. demanded f (check_targets program c)) (checked_statements program)
