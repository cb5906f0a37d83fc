-- The chains of a location that a call string selects.
use Rattle.std.specs.Prelude.{ℕ, List, []}
use Rattle.imp_syntax.specs.declared.edit.Location.{Location}
use Rattle.imp_slots.specs.Plain.{Routine}
use Rattle.imp_chains.specs.Chains.{selected}
use Rattle.batch_meaning.specs.Answers.{Found, In, Misses, procedure_of}

-- the chains to what is found that a call string selects
abbrev pub selected_at : List Routine → (string : List ℕ) → Found → List (List ℕ)
selected_at program string (In p) = selected program p string
selected_at program string (Misses r) = []

-- the chains of a location that a call string selects
abbrev pub targets_of : List Routine → Location → (string : List ℕ) → List (List ℕ)
targets_of program l string = selected_at program string (procedure_of program l)
