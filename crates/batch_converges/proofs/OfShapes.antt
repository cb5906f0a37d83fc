-- How often shapes can change.
use Rattle.std.specs.Prelude.{◌≤◌, ◌∷◌, ◌+◌}
use Rattle.std.proofs.Common.{arith}
use Rattle.dom_listseg_meaning.specs.State.{Segments, Top, Graphs}
use Rattle.dom_shapes_meaning.specs.Domain.{shapes}
use Rattle.dom_shapes_meaning.specs.Convergence.{changes_left, most_weight}
use Rattle.dom_shapes_meaning.proofs.ConvergenceLaws.{joins-end, widenings-end}
use Rattle.batch_converges.specs.Converges.{Ending, Grows, from_the_first, most_shapes}

seldom : (s : Segments) → changes_left s ≤ most_weight + 1
seldom Top = omega arith
seldom (Graphs gs) = omega arith

pub shape_ending : Ending shapes from_the_first most_shapes
shape_ending = record {
  left = λ ms l s. changes_left s;
  falls = λ ms l ls s t f g. widenings-end ms (l ∷ ls) s t f;
  joins_fall = λ delay ms l ls s t h f g. joins-end (l ∷ ls) s t f;
  few = λ ms l ls s f. seldom s;
}

pub shape_grows : Grows most_shapes
shape_grows v w m n h k = omega arith
