use Rattle.std.proofs.Common.{◌≡◌, sym, ◌∙◌, subst}
use Rattle.shape_graph.specs.Shape.{Shape, shape_of, IsGraph}
use Rattle.shape_graph.proofs.Unique.{same_shape}
use Rattle.shape_graph.proofs.graph.ShapeGraph.copy.Goals as goal

pub from_parts-requires : goal.from_parts-requires
from_parts-requires c =
    let g : Shape = shape_of c.in_ok-frames.frames.items c.in_ok-atoms.atoms.items in
    let e : g ≡ c.args.self.now = same_shape g c.args.self.now c.in_ok-frames.ensures.frames (c.in_ok-atoms.ensures.items ∙ c.atoms.ensures.atoms) in
    record { is_graph = subst IsGraph (sym e) c.atoms.ensures.is_graph }
