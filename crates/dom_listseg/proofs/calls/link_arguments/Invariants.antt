use Rattle.std.proofs.Common.{◌≡◌, ◌++◌, map, drop}
use Rattle.imp_slots.specs.CallViews.{argument_of}
use Rattle.dom_listseg_meaning.specs.Operations as operations
use Rattle.dom_listseg.proofs.calls.link_arguments.Given as goal

-- the links so far, and those to come
abbrev pub invariant-loop-argument : goal.invariant-loop-argument
invariant-loop-argument l = l.links.items ++ operations.link_arguments (map argument_of (drop l.argument-index l.arguments)) ≡ operations.link_arguments (map argument_of l.arguments)
