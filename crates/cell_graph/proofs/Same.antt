-- Names are told apart.
use Rattle.std.proofs.Common.{◌≡◌, true, List, refl, ap₂}
use Rattle.std.proofs.lemmas.Bool.{and_parts, and_from}
use Rattle.std.specs.Cmp.Lexicographic.{pointwise, pointwise_decides}
use Rattle.cell_names.specs.declared.frame.NameFrame.{NameFrame}
use Rattle.cell_names.specs.declared.frame.Point.{Point}
use Rattle.cell_names.specs.contracts.frame.NameFramePartialEq.TheImpl as frames
use Rattle.cell_names.specs.contracts.frame.PointPartialEq.TheImpl as points
use Rattle.cell_names.specs.Paths.{CellName}
use Rattle.cell_names.proofs.Telling.{frame_decides, point_decides}
use Rattle.cell_rows.specs.Names.{IsSame, name}
use Rattle.cell_graph.specs.Same.{same_name}

tells : (x y : CellName) → same_name x y ≡ true → x ≡ y
unfolding same_name
tells x y h =
    let p = and_parts (pointwise frames.ghosts.eq x.path y.path) (points.ghosts.eq x.point y.point) h in
    let make : List NameFrame → Point → CellName = name in
    ap₂ make ((pointwise_decides frame_decides x.path y.path).0 p.0) ((point_decides x.point y.point).0 p.1)

itself : (x : CellName) → same_name x x ≡ true
unfolding same_name
itself x = and_from (pointwise frames.ghosts.eq x.path x.path) (points.ghosts.eq x.point x.point) ((pointwise_decides frame_decides x.path x.path).1 refl) ((point_decides x.point x.point).1 refl)

pub same_is : IsSame same_name
same_is = record { same_true = tells; same_refl = itself }
