use Rattle.std.proofs.Common.{length, ◌+◌, ◌*◌}
use Rattle.imp_parse.proofs.expression.+expression.Given as goal

abbrev pub decreases-expression : goal.decreases-expression
decreases-expression l = 3 * length l.tokens.now + 2

abbrev pub decreases-term : goal.decreases-term
decreases-term l = 3 * length l.tokens.now + 1

abbrev pub decreases-factor : goal.decreases-factor
decreases-factor l = 3 * length l.tokens.now

abbrev pub decreases-sum_tail : goal.decreases-sum_tail
decreases-sum_tail l = 3 * length l.tokens.now

abbrev pub decreases-product_tail : goal.decreases-product_tail
decreases-product_tail l = 3 * length l.tokens.now
