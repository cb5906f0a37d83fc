use Rattle.std.proofs.Common.{◌≡◌, ◌++◌, drop}
use Rattle.std.specs.List.{flat_map}
use Rattle.dom_listseg_words.specs.Words.{atom_told}
use Rattle.dom_listseg_words.proofs.write.put_atoms.Given as goal

-- what is written and what is still to be written are the words
abbrev pub invariant-loop-atom : goal.invariant-loop-atom
invariant-loop-atom l = l.words.items ++ flat_map atom_told (drop l.atom-index l.atoms) ≡ l.fn.words.items ++ flat_map atom_told l.atoms
