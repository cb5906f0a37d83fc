-- The states that a certificate has: those at the heads of loops, as batch interpretation finds them.
use Rattle.std.specs.Prelude.{ℕ, List, [], ◌∷◌, ◌++◌, Option, Some, None}
use Rattle.imp_syntax.specs.declared.edit.Location.TheVariants.{Head}
use Rattle.imp_slots.specs.Plain.{Code, Stop, Simple, If, While, Call, Break, Routine}
use Rattle.domain_laws.specs.Operations.{Operations}
use Rattle.batch_meaning.specs.Values.{Value, State, Over}
use Rattle.batch_meaning.specs.Batch.{LoopOptions}
use Rattle.batch_meaning.specs.Places.{value_at}

-- the loops of a block, in preorder
abbrev pub loops : Code → List ℕ
loops Stop = []
loops (Simple n e r) = loops r
loops (If n g t e r) = loops t ++ (loops e ++ loops r)
loops (While n g b r) = n ∷ (loops b ++ loops r)
loops (Call n i q r) = loops r
loops (Break n r) = loops r

-- the state of a value, where it is one
abbrev pub state_in : {S : Type 0} → Option (Value S) → Option S
state_in None = None
state_in (Some (State s)) = Some s
state_in (Some (Over n z)) = None

-- the state at the head of loop n under the call sites z, the last first
abbrev pub heads : {S : Type 0} → Operations S → LoopOptions → List Routine → (z : List ℕ) → (n : ℕ) → Option S
heads dom engine program z n = state_in (value_at dom engine program (Head n) z)
