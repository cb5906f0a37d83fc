use Rattle.imp_check.specs.Slots.{routines_of}
use Rattle.call_contexts.proofs.Parted.{SoFar}
use Rattle.call_contexts.proofs.setting.Setting.over.Given as goal

-- the thresholds, tallies and loops of the procedures so far
abbrev pub invariant-loop-place : goal.invariant-loop-place
invariant-loop-place l = SoFar l.self.engine (routines_of l.new) l.place l.setting
