use Rattle.serve_answers.proofs.Overs.{overs_are_answers}
use Rattle.serve_answers.proofs.laws.overs_are_answers.Goals as goal

pub returns : goal.returns
returns g c = record { over = λ d. overs_are_answers (g.D.Domain.operations d) }
