use Rattle.std.specs.Prelude.{◌<◌, ℕ, pos, Some, None, slice_index_or}
use Rattle.dbm_core.specs.Nodes.{flip}
use Rattle.dbm_core.specs.Weights.{AtMost, add_weight}
use Rattle.dbm_close.proofs.steps.has_negative_halves.Given as goal

abbrev pub invariant-loop-i : goal.invariant-loop-i
invariant-loop-i l = (a : ℕ) → a < l.i → AtMost (Some (pos 0)) (add_weight (slice_index_or l.halves a None) (slice_index_or l.halves (flip a) None))
