-- What is known before the statements that have a check.
use Rattle.std.specs.Prelude.{ℕ, List, [], ◌∷◌, map, Option, Some, None}
use Rattle.imp_slots.specs.Plain.{Effect, Code}
use Rattle.imp_slots.specs.ActionViews.{effect_of}
use Rattle.domain_laws.specs.Checks.{Check, check_of}
use Rattle.domain_laws.specs.Operations.{Operations}
use Rattle.batch_meaning.specs.Values.{Value}
use Rattle.batch_meaning.specs.Report.{CheckedStatement}
use Rattle.batch_interp.specs.Frames.{Plan}
use Rattle.batch_interp.specs.Gathered.{Gathering, gathered, within}
use Rattle.batch_interp.specs.declared.claim.Claim.{Claim}

-- statements that have a check, by their number and what they do
abbrev pub claim_of : Claim → ℕ × Effect
claim_of c = (c.number, effect_of c.action)

abbrev pub claims : List CheckedStatement → List (ℕ × Effect)
claims cs = map (λ (c : CheckedStatement). (c.number, c.effect)) cs

abbrev pub before_one : {S : Type 0} → Option Check → Value S → List (Value S)
before_one None v = []
before_one (Some c) v = v ∷ []

-- of a statement that has a check the value before it
abbrev pub of_checks : {S : Type 0} → Gathering S (Value S)
of_checks = within (λ e v. before_one (check_of e) v) (λ n v. [])

-- the values before the statements of a block that have a check, in the order of the text
abbrev pub befores : {S : Type 0} → Operations S → Plan → (place : ℕ) → (z : List ℕ) → Code → Value S → List (Value S)
befores = gathered of_checks
