use Rattle.std.proofs.Common.{◌<◌, ℕ}
use Rattle.dom_octagon_states.proofs.TransitiveLemmas.{LeadsOn}
use Rattle.dom_octagon_states.proofs.transitive.is_transitive.Given as goal

abbrev pub invariant-loop-i : goal.invariant-loop-i
invariant-loop-i l = (a : ℕ) → a < l.i → LeadsOn l.m a
