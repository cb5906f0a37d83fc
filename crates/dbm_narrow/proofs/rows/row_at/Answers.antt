use Rattle.std.proofs.Common.{arith}
use Rattle.dbm_core.proofs.HalfLemmas.{row_start-even, row_start-odd}
use Rattle.dbm_narrow.proofs.rows.row_at.Goals as goal

pub returns-then-i-eq0 : goal.returns-then-i-eq0
returns-then-i-eq0 c = record { start = omega (arith, row_start-even c.args.i (omega arith)) }

pub returns-else-i-eq0 : goal.returns-else-i-eq0
returns-else-i-eq0 c = record { start = omega (arith, row_start-odd c.args.i (omega arith)) }
