-- How often intervals can change.
use Rattle.std.specs.Prelude.{◌≡◌, ◌≤◌, ◌+◌, ◌*◌, ℤ, List, ◌∷◌, length, true}
use Rattle.std.proofs.Common.{arith}
use Rattle.std.proofs.Math.Nat.{mul-le-mul_left, mul-le-mul_right}
use Rattle.imp_slots.specs.Plain.{Layout}
use Rattle.dom_interval_meaning.specs.State.{Intervals, Empty, Within}
use Rattle.dom_interval_meaning.specs.Covers.{fits}
use Rattle.dom_interval_meaning.specs.Domain.{intervals}
use Rattle.dom_interval_meaning.specs.Convergence.{most_changes, changes_left}
use Rattle.dom_interval_meaning.proofs.ConvergenceLaws.{widening_does_end}
use Rattle.batch_converges.specs.Converges.{Ending, Grows, until_widening}

seldom : (ms : List ℤ) (l : Layout) (ls : List Layout) (s : Intervals) → fits s (l ∷ ls) ≡ true → changes_left ms l s ≤ most_changes (length l.numbers) (length ms) + 1
seldom ms l ls Empty h = let e = widening_does_end.few_from_empty ms l in omega arith
seldom ms l ls (Within rs) h = let f = widening_does_end.few ms l ls rs h in omega arith

pub interval_ending : Ending intervals until_widening most_changes
interval_ending = record { left = changes_left; falls = widening_does_end.falls; joins_fall = λ delay ms l ls s t h. absurd (omega arith); few = seldom }

pub interval_grows : Grows most_changes
interval_grows v w m n h k =
    let more : m + 1 ≤ n + 1 = omega arith in
    omega (arith, mul-le-mul_right (m + 1) (mul-le-mul_left 2 h), mul-le-mul_left (2 * w) more)
