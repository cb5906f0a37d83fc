use Rattle.serve_answers.proofs.Histories.{same_alike, undo_restores, redo_restores}
use Rattle.serve_answers.proofs.laws.histories_do_not_matter.Goals as goal

pub returns : goal.returns
returns g c = record {
  alike = λ d. same_alike (g.D.Domain.operations d);
  undo = λ d. undo_restores (g.D.Domain.operations d);
  redo = λ d. redo_restores (g.D.Domain.operations d);
}
