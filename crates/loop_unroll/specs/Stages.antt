-- What a stage says of some iterates.
use Rattle.std.specs.Prelude.{ℕ, Bool, true, false, Option, IsTrue, ◌↔◌, ◌==◌, if◌then◌else◌}
use Rattle.daig_graph.specs.declared.value.Value.{Value}
use Rattle.loop_unroll.specs.declared.stage.Stage.{Stage}
use Rattle.loop_unroll.specs.declared.stage.Stage.TheVariants.{Open, Over, Equal, Spent}
use Rattle.loop_unroll.specs.Iterates.{StopsWithin, ConvergesWithin, OverrunsWithin}

abbrev pub is_end : Stage → Bool
is_end Open = false
is_end Over = true
is_end Equal = true
is_end Spent = true

abbrev pub is_equal : Stage → Bool
is_equal Open = false
is_equal Over = false
is_equal Equal = true
is_equal Spent = false

abbrev pub is_overrun : Stage → Bool
is_overrun Open = false
is_overrun Over = true
is_overrun Equal = false
is_overrun Spent = true

abbrev pub spent_or_open : ℕ → ℕ → Stage
spent_or_open budget last = if last == budget then Spent else Open

-- the stage of so many iterates
pub record IsStage {V : Type 0} (budget : ℕ) (iterate : ℕ → Option (Value V)) (count : ℕ) (stage : Stage) : Type 0 where
  pub stops : IsTrue (is_end stage) ↔ StopsWithin budget iterate count
  pub converges : IsTrue (is_equal stage) ↔ ConvergesWithin iterate count
  pub overruns : IsTrue (is_overrun stage) ↔ OverrunsWithin budget iterate count
