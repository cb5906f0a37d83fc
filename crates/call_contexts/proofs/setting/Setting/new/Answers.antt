use Rattle.std.proofs.Common.{arith}
use Rattle.imp_check.specs.Slots.{routines_of}
use Rattle.call_contexts.specs.Settings.{engine_of}
use Rattle.call_contexts.proofs.Parted.{so_far_more, so_far_whole}
use Rattle.call_contexts.proofs.setting.Setting.new.Goals as goal

pub loop-place-preserved : goal.loop-place-preserved
loop-place-preserved c =
    so_far_more (engine_of c.args.budget c.args.widening) (routines_of c.args.prog.now) c.loop-place.place c.new.result c.loop-place.setting c.push.new.self c.in_ok-new.field-0.thresholds c.in_ok-new.field-0.tally c.in_ok-new.field-0.loops
    c.loop-place.invariant c.new.ensures.is c.in_ok-new.ensures.is c.push.ensures.engine c.in_ok-push.ensures.thresholds c.in_ok-push.ensures.tallies c.in_ok-push.ensures.loops

pub returns : goal.returns
returns c = record { is = so_far_whole (engine_of c.args.budget c.args.widening) c.args.prog.now c.loop-place.place c.loop-place.setting c.loop-place.invariant (omega (arith, c.loop-place-test.false, c.procedure_count-place-end.ensures.is)) }
