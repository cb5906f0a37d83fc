use Rattle.cell_names.proofs.Telling.{frame_decides, point_decides, name_decides}
use Rattle.cell_names.proofs.equality_decides.Goals as goal

pub returns-clause-frames : goal.returns-clause-frames
returns-clause-frames c = frame_decides

pub returns-clause-points : goal.returns-clause-points
returns-clause-points c = point_decides

pub returns-clause-names : goal.returns-clause-names
returns-clause-names c = name_decides
