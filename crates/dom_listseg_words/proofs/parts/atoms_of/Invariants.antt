use Rattle.std.proofs.Common.{◌≡◌, map}
use Rattle.std.specs.List.{range_with_len}
use Rattle.dom_listseg_words.specs.Words.{atom_of}
use Rattle.dom_listseg_words.proofs.parts.atoms_of.Given as goal

-- the nodes so far
abbrev pub invariant-loop-node : goal.invariant-loop-node
invariant-loop-node l = l.atoms.items ≡ map (atom_of l.words) (range_with_len 0 l.node)
