-- What procedures gave, from the states before their bodies.
use Rattle.std.specs.Prelude.{◌≡◌, ℕ, List, Option, Some, None, All}
use Rattle.domain_laws.specs.Operations.{Operations}
use Rattle.batch_meaning.specs.Values.{State}
use Rattle.batch_interp.specs.Frames.{Plan, procedure_end}
use Rattle.batch_interp.specs.declared.remembered.Outcome.{Outcome}
use Rattle.batch_interp.specs.declared.remembered.Remembered.{Remembered}

module _ {S : Type 0} (dom : Operations S) (plan : Plan) where
  -- the procedure at a place gives a state from the one before its body, under any call sites
  abbrev pub Gives : (place : ℕ) → (entered end : S) → Type 0
  Gives place s t = (z : List ℕ) → procedure_end dom plan place z (State s) ≡ State t

  abbrev pub IsRight : Option (Outcome S) → Type 0
  IsRight None = Unit {0}
  IsRight (Some o) = Gives o.place o.entered o.end

  -- what is remembered is what procedures give
  abbrev pub AreRight : Remembered S → Type 0
  AreRight r = All IsRight r.outcomes.items

-- What is remembered stays right, for whatever domain and plan it is.
abbrev pub StaysRight : {S : Type 0} → (old new : Remembered S) → Type 0
StaysRight {S = S} old new = (dom : Operations S) (plan : Plan) → AreRight dom plan old → AreRight dom plan new
