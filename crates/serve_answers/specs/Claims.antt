-- What is claimed of turns.
use Rattle.std.specs.Prelude.{◌≡◌, ◌⊎◌, ℕ, List}
use Rattle.domain_laws.specs.Operations.{Operations}
use Rattle.daig_machine.specs.Machine.{Machine}
use Rattle.request_json.specs.declared.reply.Reply.TheVariants as r
use Rattle.request_json.specs.declared.reply.Refusal.{Refusal}
use Rattle.request_json.specs.declared.reply.Refusal.TheVariants as refusal
use Rattle.serve_answers.specs.Readings.{Readings}
use Rattle.serve_answers.specs.Turns.{Outcome}
use Rattle.serve_answers.specs.Lines.{line_turn}

-- A turn that refuses leaves the machine, but where the location of a ticket is gone.
abbrev pub IsSafe : Outcome → Machine → Type 0
IsSafe turn m = (why : Refusal) → turn.reply ≡ r.Refused why → (turn.machine ≡ m) ⊎ (why ≡ refusal.Gone)

-- so it is with each line
abbrev pub RefusalsAreSafe : {S : Type 0} → Operations S → Type 0
RefusalsAreSafe dom = (readings : Readings) (m : Machine) (line : List ℕ) → IsSafe (line_turn readings dom line m) m
