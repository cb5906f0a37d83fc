use Rattle.fault_points.proofs.Statements.{points_exact}
use Rattle.fault_points.proofs.exact.points_are_exact.Goals as goal

pub returns : goal.returns
returns c = record { exact = points_exact }
