use Rattle.std.proofs.Common.{ℕ, ◌<◌, slice_index_or}
use Rattle.test_session.proofs.texts.are_below.Given as goal

abbrev pub invariant-loop-stmt : goal.invariant-loop-stmt
invariant-loop-stmt l = (i d : ℕ) → i < l.stmt-index → slice_index_or l.stmts i d < l.bound
