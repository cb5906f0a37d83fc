use Rattle.std.specs.Prelude.{◌≡◌, true, false, slice_index_or}
use Rattle.std.proofs.Common.{◌<◌, ℕ}
use Rattle.dbm_core.specs.Half.{entry}
use Rattle.dom_octagon_states.specs.Transitive.{is_bound}
use Rattle.dom_octagon_states.proofs.transitive.leaves.Given as goal

abbrev pub invariant-loop-j : goal.invariant-loop-j
invariant-loop-j l = (a : ℕ) → a < l.j → is_bound (entry l.m l.k a) ≡ true → slice_index_or l.reached a false ≡ true
