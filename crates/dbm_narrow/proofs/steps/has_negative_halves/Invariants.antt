use Rattle.std.specs.Prelude.{pos, Some, None, map, slice_index_or}
use Rattle.std.proofs.Common.{◌<◌, ℕ}
use Rattle.dbm_core.specs.Nodes.{flip}
use Rattle.dbm_core.specs.Weights.{AtMost, add_weight}
use Rattle.dbm_narrow.specs.Entries.{wide}
use Rattle.dbm_narrow.proofs.steps.has_negative_halves.Given as goal

abbrev pub invariant-loop-i : goal.invariant-loop-i
invariant-loop-i gen l = (a : ℕ) → a < l.i → AtMost (Some (pos 0)) (add_weight (slice_index_or (map (wide gen.W.Width.unit) l.halves) a None) (slice_index_or (map (wide gen.W.Width.unit) l.halves) (flip a) None))
