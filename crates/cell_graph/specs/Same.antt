-- Whether two names are the same: of their paths frame by frame, and of their points.
use Rattle.std.specs.Prelude.{Bool, ◌&&◌}
use Rattle.std.specs.Cmp.Lexicographic.{pointwise}
use Rattle.cell_names.specs.Paths.{CellName}
use Rattle.cell_names.specs.contracts.frame.NameFramePartialEq.TheImpl as frames
use Rattle.cell_names.specs.contracts.frame.PointPartialEq.TheImpl as points

unfoldable pub same_name : CellName → CellName → Bool
same_name x y = pointwise frames.ghosts.eq x.path y.path && points.ghosts.eq x.point y.point
