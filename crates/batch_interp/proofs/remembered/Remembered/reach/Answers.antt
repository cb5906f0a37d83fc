use Rattle.std.proofs.Common.{All, subst, sym}
use Rattle.batch_interp.specs.Remembering.{IsRight}
use Rattle.batch_interp.proofs.Remembering.{longer_right}
use Rattle.batch_interp.proofs.remembered.Remembered.reach.Goals as goal

pub loop-self-preserved : goal.loop-self-preserved
loop-self-preserved g c = λ dom plan h. longer_right dom plan c.loop-self.self.outcomes.items c.push.new.self.items c.in_ok-push.ensures.items (c.loop-self.invariant dom plan h)

pub returns-in_err-push-clause-right : goal.returns-in_err-push-clause-right
returns-in_err-push-clause-right g c = λ dom plan h. subst (All (IsRight dom plan)) (sym c.in_err-push.ensures.items) (c.loop-self.invariant dom plan h)
