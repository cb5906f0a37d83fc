use Rattle.std.proofs.Common.{◌≡◌, ◌*◌}
use Rattle.base_sets.specs.Bits.{numbers_below}
use Rattle.why_slice.proofs.statements.StatementSet.rising.Given as goal

abbrev pub invariant-loop-place : goal.invariant-loop-place
invariant-loop-place l = l.stmts.items ≡ numbers_below l.words (64 * l.place)
