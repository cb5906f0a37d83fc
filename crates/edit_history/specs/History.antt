-- A program with those before it and those after it.
use Rattle.std.specs.Prelude.{ℕ, ◌+◌, ◌≤◌, Bool, List, length, refl}
use Rattle.std.specs.Coded.{Coded, code_by, coded×, coded_list, coded_ℕ}
use Rattle.std.specs.List.{All}
use Rattle.imp_syntax.specs.Plain.{Procedure}
use Rattle.imp_syntax.specs.ProgramCode.{program_code}
use Rattle.imp_check.specs.Fine.{IsFine}
use Rattle.imp_table.specs.Pages.{AreNeeded}
use Rattle.imp_table.specs.declared.change.Change.{Change}
use Rattle.edit_history.specs.After.{AllLead}

-- the program, how many places each page of its table has, and the programs on both sides, the nearest first
pub record Times : Type 0 where
  pub now : List Procedure
  pub places : List ℕ
  pub past : List (List Procedure)
  pub future : List (List Procedure)

abbrev pub times_code : Coded Times
times_code = code_by ((List Procedure × List ℕ) × (List (List Procedure) × List (List Procedure))) (coded× (coded× program_code (coded_list coded_ℕ)) (coded× (coded_list program_code) (coded_list program_code))) (λ t. ((t.now, t.places), (t.past, t.future))) (λ p. record { now = p.0.0; places = p.0.1; past = p.1.0; future = p.1.1 }) (λ _. refl)

-- the pages of these changes are needed
abbrev pub AllNeeded : (needed : List Bool) → List Change → Type 0
AllNeeded needed cs = All (λ (c : Change). AreNeeded needed c.entries.items) cs

-- The changes on both sides lead to programs without faults. There are at most 64 of them, and room for 64 on each side.
pub record AreKept (now : List Procedure) (places : List ℕ) (past future : List Change) (past_room future_room : ℕ) : Type 0 where
  pub fine : IsFine now
  pub behind : AllLead places now past
  pub ahead : AllLead places now future
  pub few : length past + length future ≤ 64
  pub room_behind : 64 ≤ past_room
  pub room_ahead : 64 ≤ future_room
