use Rattle.std.specs.Prelude.{pos, Some}
use Rattle.std.proofs.Common.{◌<◌, ◌*◌, ℕ}
use Rattle.dbm_core.specs.Half.{entry}
use Rattle.dbm_core.specs.Weights.{AtMost}
use Rattle.dbm_narrow.specs.Entries.{held}
use Rattle.dbm_narrow.proofs.walks.is_diagonal_negative.Given as goal

abbrev pub invariant-loop-slot : goal.invariant-loop-slot
invariant-loop-slot gen l = (h : ℕ) → h < l.slot → AtMost (Some (pos 0)) (entry (held gen.W.Width.unit l.kinds l.entries) (2 * h) (2 * h))
