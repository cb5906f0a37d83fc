-- The join of what is known under chains.
use Rattle.std.specs.Prelude.{ℕ, ◌+◌, Option, Some, None}
use Rattle.domain_laws.specs.Operations.{Operations}

-- a chain's state, shed, joined to those of the chains before it
abbrev pub joined : {S : Type 0} → Operations S → Option S → S → S
joined dom None t = dom.shed t
joined dom (Some s) t = dom.join s (dom.shed t)

-- how often the counter is ticked: for the shed, and for a join where something stands before
abbrev pub joined_ticks : {S : Type 0} → (each : ℕ) → Option S → ℕ
joined_ticks each None = each
joined_ticks each (Some s) = each + each
