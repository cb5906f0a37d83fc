-- What a run comes to, and where configurations stand.
use Rattle.std.specs.Prelude.{◌≡◌, ℕ, zero, suc, ℤ, ◌+◌, ◌==◌, List, [], Bool, true, false, Option, Some, None}
use Rattle.std.specs.Str.{bytes_eq}
use Rattle.imp_syntax.specs.declared.edit.Location.{Location}
use Rattle.imp_syntax.specs.declared.edit.Location.TheVariants.{Before, After, Head, End}
use Rattle.imp_slots.specs.Plain.{Routine}
use Rattle.concrete_sem.specs.Steps.{Config}
use Rattle.concrete_sem.specs.Reach.{standing}
use Rattle.concrete_sem.specs.Runs.{Run}
use Rattle.imp_slots.specs.BlockViews.{number_of}
use Rattle.imp_run.specs.declared.work.Item.{Item}
use Rattle.imp_run.specs.declared.work.Item.TheVariants.{Do, Done, Test}
use Rattle.imp_run.specs.declared.machine.RunState.{RunState}
use Rattle.imp_run.specs.declared.machine.Stepped.{Stepped}
use Rattle.imp_run.specs.declared.machine.Stepped.TheVariants as s
use Rattle.imp_run.specs.Machine.{config_of}
use Rattle.imp_words.specs.declared.run_end.RunEnd.{RunEnd}
use Rattle.imp_words.specs.declared.run_end.RunEnd.TheVariants as e
use Rattle.imp_run.specs.declared.running.RunResult.{RunResult}

-- whether a location is this one
abbrev pub same_location : Option Location → Location → Bool
same_location None l = false
same_location (Some (Before n)) (Before m) = n == m
same_location (Some (After n)) (After m) = n == m
same_location (Some (Head n)) (Head m) = n == m
same_location (Some (End p)) (End q) = bytes_eq p q
same_location (Some k) l = false

-- whether a configuration stands at the location, if there is one to stand at
abbrev pub stands_at : List Routine → Option Location → Config → Bool
stands_at program None c = false
stands_at program (Some l) c = same_location (standing program c.frames) l

abbrev pub run_of : RunResult → Run
run_of o = record { end = o.end; reached = o.reached }

-- the run, with so many configurations more before
abbrev pub after_more : ℕ → Run → Run
after_more n r = record r { reached = n + r.reached }

abbrev pub is_name_of : Option Routine → List ℕ → Bool
is_name_of None name = false
is_name_of (Some r) name = bytes_eq r.name name

-- where an item on top stands, and where the return from a procedure does
abbrev pub item_location : Item → Location
item_location (Do first rest) = Before (number_of first.now)
item_location (Done n call) = After n
item_location (Test n cond body) = Head n

abbrev pub end_location : Option Routine → Option Location
end_location None = None
end_location (Some r) = Some (End r.name)

-- the configuration of a machine; without one there are no frames
abbrev pub config_or_none : Option RunState → List ℤ → Config
config_or_none None inputs = record { heap = record { cells = []; inputs = inputs }; frames = [] }
config_or_none (Some m) inputs = config_of m

-- The run after this step, with so many steps allowed that it is one of: it ends so, or it goes on.
abbrev pub IsEndAfter : Stepped → ℕ → Option RunEnd → Type 0
IsEndAfter s.Ended fuel r = r ≡ Some e.Ended
IsEndAfter (s.Next) zero r = r ≡ Some e.FuelUsedUp
IsEndAfter (s.Next) (suc k) r = r ≡ None
IsEndAfter (s.Fault n k) zero r = r ≡ Some e.FuelUsedUp
IsEndAfter (s.Fault n k) (suc j) r = r ≡ Some (e.Fault n k)
IsEndAfter (s.NoInput n) zero r = r ≡ Some e.FuelUsedUp
IsEndAfter (s.NoInput n) (suc k) r = r ≡ Some (e.InputsUsedUp n)

abbrev pub bit : Bool → ℕ
bit true = 1
bit false = 0
