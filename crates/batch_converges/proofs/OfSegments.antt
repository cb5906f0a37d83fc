-- How often list segments can change.
use Rattle.std.specs.Prelude.{◌≤◌, ◌∷◌}
use Rattle.std.proofs.Common.{arith}
use Rattle.dom_listseg_meaning.specs.State.{Segments, Top, Graphs}
use Rattle.dom_listseg_meaning.specs.Domain.{segments}
use Rattle.dom_listseg_meaning.specs.Convergence.{changes_left}
use Rattle.dom_listseg_meaning.proofs.ConvergenceLaws.{joins-end, widenings-end}
use Rattle.batch_converges.specs.Converges.{Ending, Grows, from_the_first, most_graphs}

seldom : (s : Segments) → changes_left s ≤ 65
seldom Top = omega arith
seldom (Graphs gs) = omega arith

pub segment_ending : Ending segments from_the_first most_graphs
segment_ending = record {
  left = λ ms l s. changes_left s;
  falls = λ ms l ls s t f g. widenings-end ms (l ∷ ls) s t f;
  joins_fall = λ delay ms l ls s t h f g. joins-end (l ∷ ls) s t f;
  few = λ ms l ls s f. seldom s;
}

pub segment_grows : Grows most_graphs
segment_grows v w m n h k = omega arith
