use Rattle.std.proofs.Common.{◌≡◌, ◌<◌, ◌≤◌, ◌*◌, ℕ, length}
use Rattle.dbm_core.specs.Nodes.{flip}
use Rattle.dbm_narrow.specs.Entries.{at, none}
use Rattle.dbm_narrow.proofs.middle.flipped.Given as goal

abbrev pub invariant-loop-slot : goal.invariant-loop-slot
invariant-loop-slot gen l = record {
  size : length l.turned ≡ 32;
  done : (k : ℕ) → k < 2 * l.slot → at gen.W.Width.unit l.turned k ≡ at gen.W.Width.unit l.row (flip k);
  rest : (k : ℕ) → 2 * l.slot ≤ k → at gen.W.Width.unit l.turned k ≡ none gen.W.Width.unit;
}
