use Rattle.std.proofs.Common.{◌≡◌, map, take}
use Rattle.fold_laws.specs.Folding.{fold_of}
use Rattle.dom_listseg_meaning.specs.Sets.{union}
use Rattle.dom_listseg.proofs.sets.put_all.Given as goal

abbrev pub invariant-loop-other : goal.invariant-loop-other
invariant-loop-other l = l.graphs ≡ union l.fn.graphs (map fold_of (take l.other-index l.others))
