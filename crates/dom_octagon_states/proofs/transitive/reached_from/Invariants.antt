use Rattle.std.specs.Prelude.{◌≡◌, false, slice_index_or}
use Rattle.std.proofs.Common.{◌<◌, ℕ, length}
use Rattle.dbm_core.specs.Half.{entry}
use Rattle.dom_octagon_states.specs.Transitive.{is_bound}
use Rattle.dom_octagon_states.proofs.transitive.reached_from.Given as goal

abbrev pub invariant-loop-j : goal.invariant-loop-j
invariant-loop-j l = record {
  size : length l.reached ≡ 32;
  done : (k : ℕ) → k < l.j → slice_index_or l.reached k false ≡ is_bound (entry l.m l.i k);
}
