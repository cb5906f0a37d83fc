use Rattle.std.proofs.Common.{◌+◌, ◌-◌, length}
use Rattle.domain_laws.specs.Operations.{Operations}
use Rattle.batch_interp.specs.Frames.{Plan}
use Rattle.batch_interp.specs.Remembering.{AreRight}
use Rattle.batch_interp.proofs.remembered.Remembered.reach.Given as goal

-- what is remembered stays right
abbrev pub invariant-loop-self : goal.invariant-loop-self
invariant-loop-self g l = (dom : Operations g.row.S.Denot) (plan : Plan) → AreRight dom plan l.initial.self → AreRight dom plan l.self

abbrev pub decreases-loop-self : goal.decreases-loop-self
decreases-loop-self g l = l.index + 1 - length l.self.outcomes.items
