-- Reports of faults: the statements that have fault points, and what is found of them.
use Rattle.std.specs.Prelude.{◌≡◌, ℕ, ◌+◌, ◌*◌, List, [], ◌∷◌, ◌++◌, map, length, Bool, true, false, Option, Some, None, Result, Ok, Err, OnOk}
use Rattle.imp_syntax.specs.Plain.{Procedure, Statement}
use Rattle.imp_syntax.specs.Plain as tree
use Rattle.imp_syntax.specs.declared.edit.Location.{Location}
use Rattle.imp_slots.specs.Plain.{Act, DoBreak, Does}
use Rattle.imp_slots.specs.ActionViews.{act_of}
use Rattle.imp_check.specs.Entries.{entries_of, entry_of}
use Rattle.imp_check.specs.Slots.{routines_of}
use Rattle.imp_check.specs.declared.entry.Entry.{Entry}
use Rattle.imp_check.specs.declared.entry.SlotForm.{SlotForm}
use Rattle.imp_check.specs.declared.entry.SlotForm.TheVariants as form
use Rattle.base_values.specs.declared.error.Memory.{Memory}
use Rattle.domain_laws.specs.Operations.{Operations}
use Rattle.fault_points.specs.declared.point.FaultPoint.{FaultPoint}
use Rattle.fault_points.specs.Points.{guard_points, effect_points, argument_points}
use Rattle.fault_words.specs.declared.finding.FaultFinding.{FaultFinding}
use Rattle.fault_verdicts.specs.declared.statement.Evaluated.{Evaluated}
use Rattle.fault_verdicts.specs.Statements.{evaluated, fault_places, place_of, with_points}
use Rattle.fault_verdicts.specs.Report.{faults, findings_of}
use Rattle.fault_verdicts.specs.Theorem.{IsReportSound}
use Rattle.daig_machine.specs.Machine.{Machine}
use Rattle.daig_machine.specs.Turns.{IsBetween, missing_for_faults, after_faults}
use Rattle.daig_session.specs.declared.parts.Parts.{Parts}
use Rattle.daig_session.specs.Places.{chain_count}
use Rattle.daig_session.specs.Sessions.{FromEach, TicksAtMost}

-- the fault points of a statement, by its entry
abbrev pub act_points : Act → List FaultPoint
act_points DoBreak = []
act_points (Does e) = effect_points e

abbrev pub form_points : SlotForm → List FaultPoint
form_points (form.Stmt s) = act_points (act_of s)
form_points (form.Cond c) = guard_points c
form_points (form.Call i q) = argument_points i.entering.arguments

abbrev pub is_loop : Statement → Bool
is_loop (tree.Simple n a) = false
is_loop (tree.Break n) = false
is_loop (tree.Call n x g es) = false
is_loop (tree.If n c t e) = false
is_loop (tree.While n c b) = true

abbrev pub entry_evaluates : Entry → Evaluated
entry_evaluates e = evaluated e.number (is_loop e.part) (form_points e.form)

-- a statement that has fault points, if one is there, and those among some statements, by their numbers
abbrev pub pointed_entry : Option Entry → List Evaluated
pointed_entry None = []
pointed_entry (Some e) = with_points (entry_evaluates e ∷ [])

abbrev pub pointed_at : List Procedure → ℕ → List Evaluated
pointed_at program n = pointed_entry (entry_of (entries_of program) n)

abbrev pub pointed_among : List Procedure → List ℕ → List Evaluated
pointed_among program [] = []
pointed_among program (n ∷ ns) = pointed_at program n ++ pointed_among program ns

-- where these evaluate, whatever the machine, and where all of a machine's program do that have fault points
abbrev pub places_of : List Evaluated → Machine → List Location
places_of xs m = map place_of xs

abbrev pub all_faulting : Machine → List Location
all_faulting m = fault_places (routines_of m.program)

-- A report of faults: that of the present program, interpreted from scratch; what was missing for it is kept.
abbrev pub AnswersFaults : {S : Type 0} → Operations S → (m : Machine) → (stands : Machine → Type 0) → Result (List FaultFinding) Memory → Type 0
AnswersFaults dom m stands (Ok found) = (found ≡ faults dom m.engine (routines_of m.program)) × stands (after_faults dom m)
AnswersFaults dom m stands (Err e) = IsBetween (missing_for_faults dom m) m stands

-- the number of chains to all of a machine's
abbrev pub fault_chains : Machine → ℕ
fault_chains m = chain_count (routines_of m.program) (all_faulting m)

-- What a report of faults does, from each machine that the session stood for.
module _ {D S : Type 0} (operations : D → Operations S) (old new : Parts D S) where
  -- What is found of statements comes after what was found before.
  abbrev pub FindsFaults : List Evaluated → (before after : List FaultFinding) → Type 0
  FindsFaults xs before after = FromEach operations old new (λ dom m _. after ≡ before ++ findings_of dom m.engine (routines_of m.program) xs)

  -- What is found is the report of faults of the program.
  abbrev pub FindsAllFaults : (found : List FaultFinding) → Type 0
  FindsAllFaults found = FromEach operations old new (λ dom m _. found ≡ faults dom m.engine (routines_of m.program))

  -- A report of faults: that of the present program, interpreted from scratch, ..
  abbrev pub ReportsFaults : Result (List FaultFinding) Memory → Type 0
  ReportsFaults result = FromEach operations old new (λ dom m stands. AnswersFaults dom m stands result)

  -- .. and the work for it.
  abbrev pub TicksForFaults : {E : Type 0} → (counted : D → ℕ) → (before after : ℕ) → Result (List FaultFinding) E → Type 0
  TicksForFaults counted before after result = FromEach operations old new
      (λ dom m _. OnOk result (TicksAtMost counted old before after (length (missing_for_faults dom m) + 2 * fault_chains m)))

-- What is found says what is so in every run of the session's program.
abbrev pub AreFaultsSound : {D S : Type 0} → Parts D S → List FaultFinding → Type 0
AreFaultsSound session found = IsReportSound (routines_of session.book.history.now) found
