-- What others did never makes a later question longer.
use Rattle.std.specs.Prelude.{◌≡◌, ◌≤◌, ◌-◌, ℕ, true, List, [], ◌∷◌, length}
use Rattle.imp_syntax.specs.Plain.{Procedure}
use Rattle.imp_syntax.specs.declared.edit.Location.{Location}
use Rattle.imp_slots.specs.Fits.{IsChecked}
use Rattle.imp_check.specs.Slots.{routines_of}
use Rattle.domain_laws.specs.Operations.{Operations}
use Rattle.batch_meaning.specs.Batch.{LoopOptions}
use Rattle.cell_names.specs.Paths.{CellName}
use Rattle.serve_script.specs.Replies.{machine_after}
use Rattle.daig_machine.specs.Claims.{KeepsCells}
use Rattle.daig_machine.specs.Machine.{Machine, ticket_of}
use Rattle.daig_machine.specs.Turns.{is_kept, missing_at, missing_for_faults, missing_for_report}
use Rattle.request_json.specs.declared.request.Request.{Request}
use Rattle.request_json.specs.declared.request.Request.TheVariants as q
use Rattle.request_json.specs.declared.reply.Reply.{Reply}
use Rattle.request_json.specs.declared.reply.Reply.TheVariants as r
use Rattle.serve_answers.specs.Fine.{IsProgramOf, opening}
use Rattle.serve_answers.specs.Histories.{AreQuiet, Asks, HoldsSame, IsKeptAs}
use Rattle.serve_answers.specs.Lines.{Served, line_turn, server}
use Rattle.serve_answers.specs.Readings.{Readings}
use Rattle.reuse_laws.specs.Rest.{IsRest}

-- Two machines hold the same program, and the second keeps each name that the first keeps.
pub record KeepsMore (m n : Machine) : Type 0 where
  pub holds : HoldsSame m n
  pub more : (x : CellName) → is_kept m x ≡ true → is_kept n x ≡ true

-- The request is answered at once from the cells: a state, what it depends on, the report, that of faults.
abbrev pub IsQuestion : Request → Type 0
IsQuestion (q.State query) = Unit {0}
IsQuestion (q.Why query) = Unit {0}
IsQuestion q.Report = Unit {0}
IsQuestion (q.Faults only) = Unit {0}
IsQuestion _ = ⊥

module _ {S : Type 0} (dom : Operations S) where
  -- For each question, and for each report, the second machine misses the rest of what the first misses.
  pub record IsShorter (m n : Machine) : Type 0 where
    pub question : (l : Location) (string : List ℕ) → IsRest (is_kept n) (missing_at dom l string n) (missing_at dom l string m)
    pub report : IsRest (is_kept n) (missing_for_report dom n) (missing_for_report dom m)
    pub faults : IsRest (is_kept n) (missing_for_faults dom n) (missing_for_faults dom m)

  -- So it is where the second keeps more, and both keep cells of the program alone.
  abbrev pub MoreIsShorter : Type 0
  MoreIsShorter = (m n : Machine) → IsChecked (routines_of m.program) → KeepsCells dom m → KeepsCells dom n → KeepsMore m n → IsShorter m n

  -- how many names a line fills
  abbrev pub filled_by : Served → (line : List ℕ) → ℕ
  filled_by s line = length (machine_after (server dom) s (line ∷ [])).machine.kept - length s.machine.kept

  -- the reply to a line
  abbrev pub replied : Served → (text : List ℕ) → Reply
  replied s text = (line_turn s.readings dom text s.machine).reply

  -- A step of a ticket that is open in both, or in neither: it fills no more, and is pending only where it was.
  pub record IsStepNoLonger (s t : Served) (line : List ℕ) (ticket n : ℕ) : Type 0 where
    pub fills : filled_by t line ≤ filled_by s line
    pub pending : (asks : Asks (q.Step ticket n) line) (count : ℕ) → replied t asks.text ≡ r.Pending count → replied s asks.text ≡ r.Pending count

  -- The second fills no more for any question, and for any step of a ticket.
  pub record IsNoLonger (s t : Served) : Type 0 where
    pub question : (line : List ℕ) → IsKeptAs IsQuestion line → filled_by t line ≤ filled_by s line
    pub step : (line : List ℕ) (ticket n : ℕ) → Asks (q.Step ticket n) line → ticket_of ticket t.machine.tickets ≡ ticket_of ticket s.machine.tickets → IsStepNoLonger s t line ticket n

  -- So it is after any quiet lines.
  abbrev pub NeverLonger : Served → Type 0
  NeverLonger s = (between : List (List ℕ)) → AreQuiet between → IsNoLonger s (machine_after (server dom) s between)

  -- So it is at each moment of each script, whatever lines came before.
  abbrev pub MomentsShorten : Type 0
  MomentsShorten =
      (readings : Readings) (engine : LoopOptions) (source : List ℕ) (program : List Procedure) → IsProgramOf readings source program →
      (before : List (List ℕ)) → NeverLonger (machine_after (server dom) (opening readings engine program) before)
