use Rattle.std.proofs.Common.{◌≡◌, ◌++◌, drop, map}
use Rattle.imp_slots.specs.CallViews.{argument_of}
use Rattle.imp_chains.specs.Thresholds.{argument_literals}
use Rattle.call_contexts.proofs.literals.add_arguments.Given as goal

abbrev pub invariant-loop-argument : goal.invariant-loop-argument
invariant-loop-argument l = l.found.items ++ argument_literals (map argument_of (drop l.argument-index l.arguments)) ≡ l.initial.found.items ++ argument_literals (map argument_of l.arguments)
