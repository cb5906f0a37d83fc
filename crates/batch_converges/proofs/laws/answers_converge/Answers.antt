use Rattle.batch_converges.proofs.Whole.{converges}
use Rattle.batch_converges.proofs.laws.answers_converge.Goals as goal

pub returns : goal.returns
returns g c = record { end = λ d wait most ending grows. converges (g.D.Domain.operations d) (g.D.Domain.covers d) (g.met.D.Domain.laws d) c.thresholds_rise.ensures.rising wait most ending grows }
