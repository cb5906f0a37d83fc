use Rattle.batch_interp.proofs.Remembering.{put_right}
use Rattle.batch_interp.proofs.remembered.Remembered.put.Goals as goal

pub returns : goal.returns
returns g c = record { right = λ dom plan h o. put_right dom plan c.reach.new.self.outcomes.items c.args.index c.args.outcome (c.reach.ensures.right dom plan h) o }

pub returns-in_err-reach : goal.returns-in_err-reach
returns-in_err-reach g c = record { right = λ dom plan h o. c.reach.ensures.right dom plan h }
