use Rattle.std.proofs.Common.{arith}
use Rattle.why_slice.proofs.Putting.{small_put}
use Rattle.why_slice.proofs.statements.StatementSet.put.Goals as goal

pub invariant_of-self : goal.invariant_of-self
invariant_of-self c = small_put c.add.result c.self.inside.numbers c.add.new.self c.args.number c.self.invariant (omega (arith, c.ranges.number.fits)) c.add.ensures.inserts c.add.ensures.err
