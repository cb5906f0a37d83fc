use Rattle.std.proofs.Common.{◌≡◌, ◌++◌, drop}
use Rattle.dom_listseg_meaning.specs.Text.{slots_text}
use Rattle.dom_listseg.proofs.text.put_slots.Given as goal

-- what is written and what is still to be written are the text
abbrev pub invariant-loop-slot : goal.invariant-loop-slot
invariant-loop-slot l = l.text ++ slots_text l.slot (drop l.slot l.names) (drop l.slot l.targets) ≡ l.fn.text ++ slots_text 0 l.names l.targets
