use Rattle.serve_answers.proofs.Refused.{refusals_safe}
use Rattle.serve_answers.proofs.laws.refusals_change_nothing.Goals as goal

pub returns : goal.returns
returns g c = record { same = λ d. refusals_safe (g.D.Domain.operations d) }
