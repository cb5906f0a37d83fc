use Rattle.std.specs.Prelude.{◌≡◌, true, false, slice_index_or}
use Rattle.std.proofs.Common.{◌<◌, ℕ}
use Rattle.dom_octagon_states.specs.Transitive.{StaysWithin}
use Rattle.dom_octagon_states.proofs.transitive.leave.Given as goal

abbrev pub invariant-loop-k : goal.invariant-loop-k
invariant-loop-k l = (a : ℕ) → a < l.k → slice_index_or l.reached a false ≡ true → StaysWithin l.m l.reached a
