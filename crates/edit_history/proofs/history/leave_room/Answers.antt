use Rattle.std.proofs.Common.{arith}
use Rattle.edit_history.proofs.AfterLemmas.{take_few}
use Rattle.edit_history.proofs.history.leave_room.Goals as goal

pub returns-else-len-eq-MOST-clause-is : goal.returns-else-len-eq-MOST-clause-is
returns-else-len-eq-MOST-clause-is c = take_few 63 c.args.past.now.items (omega (arith, c.requires.few, c.if-len-eq-MOST.false, c.len.ensures, c.args.past.now.ok.0))
