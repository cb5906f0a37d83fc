use Rattle.std.proofs.Common.{◌≡◌, ◌++◌, take}
use Rattle.dom_listseg_sets.proofs.merging.append.Given as goal

abbrev pub invariant-loop-other : goal.invariant-loop-other
invariant-loop-other l = l.graphs.items ≡ l.fn.graphs.items ++ take l.other-index l.others
