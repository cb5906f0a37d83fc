use Rattle.std.proofs.Common.{ℕ, ◌<◌}
use Rattle.std.specs.List.{All}
use Rattle.imp_check.specs.Walks.{numbers_at}
use Rattle.test_session.proofs.texts.next_of.Given as goal

abbrev pub invariant-loop-place : goal.invariant-loop-place
invariant-loop-place l = (k : ℕ) → k < l.place → All (λ (n : ℕ). n < l.next) (numbers_at l.table.program k)
