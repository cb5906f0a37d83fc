use Rattle.std.proofs.Common.{◌≡◌, ◌<◌, ◌≤◌, ◌*◌, ℕ, length}
use Rattle.dbm_core.specs.Nodes.{flip}
use Rattle.dbm_narrow.specs.Entries.{at, half_entry, none, pair_at}
use Rattle.dbm_narrow.proofs.steps.halves_of.Given as goal

abbrev pub invariant-loop-slot : goal.invariant-loop-slot
invariant-loop-slot gen l = record {
  size : length l.halves ≡ 32;
  done : (k : ℕ) → k < 2 * l.slot → at gen.W.Width.unit l.halves k ≡ half_entry gen.W.Width.unit (pair_at gen.W.Width.unit l.entries k (flip k));
  rest : (k : ℕ) → 2 * l.slot ≤ k → at gen.W.Width.unit l.halves k ≡ none gen.W.Width.unit;
}
