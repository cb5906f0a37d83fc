use Rattle.std.proofs.Common.{arith}
use Rattle.dbm_core.proofs.HalfLemmas.{place-small}
use Rattle.dbm_narrow.proofs.rows.place.Goals as goal

pub overflow_add-result : goal.overflow_add-result
overflow_add-result c = omega (arith, place-small c.args.i c.args.j (omega arith) (omega arith))

pub returns-clause-small : goal.returns-clause-small
returns-clause-small c = omega (arith, place-small c.args.i c.args.j (omega arith) (omega arith))
