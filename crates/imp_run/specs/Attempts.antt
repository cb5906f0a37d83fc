-- What an evaluation in code comes to.
use Rattle.std.specs.Prelude.{◌≡◌, ℕ, Result, Ok, Err}
use Rattle.imp_words.specs.declared.fault.FaultKind.{FaultKind}
use Rattle.concrete_sem.specs.Values.{Attempt, Gives, Faults, LacksInput, Cell}
use Rattle.imp_run.specs.declared.store.ListCell.{ListCell}
use Rattle.imp_run.specs.Store.{cell_of}
use Rattle.imp_run.specs.declared.halt.Halt.{Halt}
use Rattle.imp_run.specs.declared.halt.Halt.TheVariants as h

-- a value or a fault
abbrev pub attempt_of : {A : Type 0} → Result A FaultKind → Attempt A
attempt_of (Ok a) = Gives a
attempt_of (Err k) = Faults k

-- What an action in code comes to: the heap and variables after it, a fault, an input that is wanted, or out of memory,
-- of which nothing is said.
abbrev pub Stops : {A : Type 0} → Halt → Attempt A → Type 0
Stops (h.Fault k) x = x ≡ Faults k
Stops h.NoInput x = x ≡ LacksInput
Stops h.Memory x = Unit {0}

abbrev pub Comes : {A B : Type 0} → Result B Halt → Attempt A → A → Type 0
Comes (Ok b) x after = x ≡ Gives after
Comes (Err e) x after = Stops e x

-- a place and its cell, or a fault
abbrev pub placed_of : Result (ℕ × ListCell) FaultKind → Attempt (ℕ × Cell)
placed_of (Ok x) = Gives (x.0, cell_of x.1)
placed_of (Err k) = Faults k

-- what is made of an attempt, or how it stops
abbrev pub Gave : {A : Type 0} → Result A Halt → Attempt A → Type 0
Gave (Ok a) x = x ≡ Gives a
Gave (Err e) x = Stops e x
