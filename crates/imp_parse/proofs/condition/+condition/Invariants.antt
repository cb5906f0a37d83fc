use Rattle.std.proofs.Common.{length, ◌+◌, ◌*◌}
use Rattle.imp_parse.proofs.condition.+condition.Given as goal

abbrev pub decreases-condition : goal.decreases-condition
decreases-condition l = 3 * length l.tokens.now + 2

abbrev pub decreases-conjunction : goal.decreases-conjunction
decreases-conjunction l = 3 * length l.tokens.now + 1

abbrev pub decreases-unit : goal.decreases-unit
decreases-unit l = 3 * length l.tokens.now

abbrev pub decreases-or_tail : goal.decreases-or_tail
decreases-or_tail l = 3 * length l.tokens.now

abbrev pub decreases-and_tail : goal.decreases-and_tail
decreases-and_tail l = 3 * length l.tokens.now
