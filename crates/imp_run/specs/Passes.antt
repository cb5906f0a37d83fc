-- Arguments that are passed one after another.
use Rattle.std.specs.Prelude.{◌≡◌, List, ◌∷◌, ◌++◌, Result, Ok, Err}
use Rattle.imp_slots.specs.Plain.{Argument}
use Rattle.concrete_sem.specs.Values.{Variables, Attempt, Gives, andthen}
use Rattle.concrete_sem.specs.Passing.{passed}
use Rattle.imp_run.specs.declared.halt.Halt.{Halt}
use Rattle.imp_run.specs.Attempts.{Stops}

-- these variables, and after them those of the attempt
abbrev pub behind : Variables → Attempt Variables → Attempt Variables
behind w x = andthen x (λ p. Gives (record { numbers = w.numbers ++ p.numbers; links = w.links ++ p.links }))

-- the value of one more argument is after the others
abbrev pub Passes : Result (Unit {0}) Halt → Variables → Argument → Variables → Variables → Type 0
Passes (Ok u) v a before after = (more : List Argument) → behind before (passed v (a ∷ more)) ≡ behind after (passed v more)
Passes (Err e) v a before after = (more : List Argument) → Stops e (behind before (passed v (a ∷ more)))
