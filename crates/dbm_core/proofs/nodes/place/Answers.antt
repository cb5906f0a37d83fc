use Rattle.std.proofs.Common.{arith}
use Rattle.dbm_core.proofs.HalfLemmas.{place-small, row_start-even, row_start-odd}
use Rattle.dbm_core.proofs.nodes.place.Goals as goal

pub returns-then-i-eq0 : goal.returns-then-i-eq0
returns-then-i-eq0 c = record {
  place = omega (arith, row_start-even c.args.i (omega arith));
  small = omega (arith, row_start-even c.args.i (omega arith), place-small c.args.i c.args.j (omega arith) (omega arith));
}

pub returns-else-i-eq0 : goal.returns-else-i-eq0
returns-else-i-eq0 c = record {
  place = omega (arith, row_start-odd c.args.i (omega arith));
  small = omega (arith, row_start-odd c.args.i (omega arith), place-small c.args.i c.args.j (omega arith) (omega arith));
}
