use Rattle.imp_check.specs.Slots.{routines_of}
use Rattle.call_contexts.specs.Settings.{engine_of}
use Rattle.call_contexts.proofs.Parted.{SoFar}
use Rattle.call_contexts.proofs.setting.Setting.new.Given as goal

-- the thresholds, tallies and loops of the procedures so far
abbrev pub invariant-loop-place : goal.invariant-loop-place
invariant-loop-place l = SoFar (engine_of l.budget l.widening) (routines_of l.prog) l.place l.setting
