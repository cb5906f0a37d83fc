-- How often octagons can change.
use Rattle.std.specs.Prelude.{◌≤◌, ◌+◌, ◌*◌}
use Rattle.std.proofs.Common.{arith}
use Rattle.std.proofs.Math.Nat.{mul-le-mul_left, mul-le-mul_right}
use Rattle.dom_octagon_meaning.specs.Domain.{octagons}
use Rattle.dom_octagon_meaning.specs.Convergence.{most_changes, changes_left}
use Rattle.dom_octagon_meaning.proofs.Convergence.{widening_ends}
use Rattle.batch_converges.specs.Converges.{Ending, Grows, until_widening}

pub octagon_ending : Ending octagons until_widening most_changes
octagon_ending = record { left = changes_left; falls = widening_ends.falls; joins_fall = λ delay ms l ls s t h. absurd (omega arith); few = widening_ends.few }

pub octagon_grows : Grows most_changes
octagon_grows v w m n h k =
    let more : m + 1 ≤ n + 1 = omega arith in
    let squares : 4 * v * v ≤ 4 * w * w = omega (arith, mul-le-mul_left (4 * v) h, mul-le-mul_right w (mul-le-mul_left 4 h)) in
    omega (arith, mul-le-mul_right (m + 1) squares, mul-le-mul_left (4 * w * w) more)
