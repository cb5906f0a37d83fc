use Rattle.std.proofs.Common.{◌≡◌, ◌++◌, map, drop}
use Rattle.concrete_sem.specs.Passing.{first_link, over}
use Rattle.dom_listseg.proofs.calls.started_sides.Given as goal

-- the sides so far, and those to come
abbrev pub invariant-loop-slot : goal.invariant-loop-slot
invariant-loop-slot l = l.sides.items ++ over (drop l.slot l.links) (map first_link (drop l.slot l.names)) ≡ over l.links (map first_link l.names)
