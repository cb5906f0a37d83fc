use Rattle.std.proofs.Common.{◌≡◌, drop, map}
use Rattle.imp_slots.specs.CallViews.{argument_of}
use Rattle.concrete_sem.specs.Passing.{passed}
use Rattle.imp_run.specs.Passes.{behind}
use Rattle.imp_run.proofs.passing.passed.Given as goal

abbrev pub invariant-loop-argument : goal.invariant-loop-argument
invariant-loop-argument l = behind l.slots (passed l.caller (map argument_of (drop l.argument-index l.arguments))) ≡ passed l.caller (map argument_of l.arguments)
