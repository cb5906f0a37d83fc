use Rattle.std.proofs.Common.{arith}
use Rattle.call_contexts.proofs.Differing.{same_items}
use Rattle.call_contexts.proofs.differences.are_alike.Goals as goal

pub returns : goal.returns
returns c = record { same = same_items c.args.lists.now c.args.others.now c.loop-i.i c.loop-i.invariant.as_many (omega (arith, c.loop-i-test.false)) c.loop-i.invariant.same }
