use Rattle.std.specs.Prelude.{◌≡◌, ℕ, ◌*◌, ◌^◌, false, Option, ℤ, length}
use Rattle.std.proofs.Common.{drop}
use Rattle.dbm_core.specs.Half.{entry}
use Rattle.dbm_incremental.proofs.AllLemmas.{IsLoweredSoFar}
use Rattle.dbm_incremental.specs.Steps.{AreBounds}
use Rattle.dbm_narrow.specs.Entries.{AreEntries, held}
use Rattle.dbm_narrow.specs.Lowerings.{HasOwnWeights}
use Rattle.dbm_narrow.specs.Rounds.{IsNarrow}
use Rattle.dbm_narrow.proofs.adding.lower_all.Given as goal

abbrev pub invariant-loop-bound : goal.invariant-loop-bound
invariant-loop-bound gen l = record {
  narrow : IsNarrow gen.W.Width.unit l.kinds l.entries;
  own : HasOwnWeights gen.W.Width.unit l.kinds l.entries;
  rest : AreBounds (2 * length l.kinds) (drop l.bound-index l.bounds);
  so_far : (w : ℕ → ℕ → Option ℤ) × IsLoweredSoFar (entry (held gen.W.Width.unit l.kinds l.fn.entries)) (2 * length l.kinds) l.bounds (drop l.bound-index l.bounds) (entry (held gen.W.Width.unit l.kinds l.entries)) w;
  within : gen.W.Width.checked ≡ false → AreEntries gen.W.Width.unit (2 ^ 70 * 7 ^ l.bound-index) l.entries;
}
