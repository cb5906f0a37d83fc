use Rattle.std.proofs.Common.{◌≡◌, ◌++◌, map, take, drop}
use Rattle.daig_graph.specs.Numbers.{renumbered}
use Rattle.daig_graph.proofs.renumbering.renumber_all.Given as goal

abbrev pub invariant-loop-place : goal.invariant-loop-place
invariant-loop-place l = l.numbers ≡ map (renumbered l.new_of) (take l.place l.initial.numbers) ++ drop l.place l.initial.numbers
