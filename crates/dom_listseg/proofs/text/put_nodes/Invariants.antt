use Rattle.std.proofs.Common.{◌≡◌, ◌++◌, drop}
use Rattle.dom_listseg_meaning.specs.Text.{nodes_text}
use Rattle.dom_listseg.proofs.text.put_nodes.Given as goal

abbrev pub invariant-loop-node : goal.invariant-loop-node
invariant-loop-node l = l.text ++ nodes_text l.node (drop l.node l.atoms) ≡ l.fn.text ++ nodes_text 0 l.atoms
