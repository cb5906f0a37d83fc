use Rattle.serve_answers.proofs.FineTurns.{lines_fine}
use Rattle.serve_answers.proofs.Sources.{sources_fine}
use Rattle.serve_answers.proofs.laws.machines_stay_fine.Goals as goal

pub returns : goal.returns
returns g c = record { source = sources_fine; line = λ d. lines_fine (g.D.Domain.operations d) }
