use Rattle.std.proofs.Common.{◌∷◌, ◌++◌, [], ap, ◌∙◌}
use Rattle.shape_steps.specs.Steps.{last_of, last_frame_of}
use Rattle.shape_steps.proofs.Graphs.{moved, IsGraph-last}
use Rattle.shape_steps.proofs.last_frame.Goals as goal

pub from_parts-requires : goal.from_parts-requires
from_parts-requires c =
    record {
      is_graph = moved (last_frame_of c.args.graph.now) _ _ (IsGraph-last c.args.graph.now c.atoms.ensures.is_graph)
          (c.in_ok-push.ensures.items ∙ ap (λ xs. xs ++ c.in_ok-last_row.field-0 ∷ []) c.in_ok-frames.ensures.items ∙ ap (λ r. r ∷ []) (c.in_ok-last_row.ensures.last ∙ ap last_of c.frames.ensures.frames))
          (c.in_ok-atoms.ensures.items ∙ c.atoms.ensures.atoms);
    }
