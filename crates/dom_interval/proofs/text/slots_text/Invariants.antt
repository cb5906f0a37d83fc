use Rattle.std.proofs.Common.{◌≡◌, ◌++◌, drop}
use Rattle.dom_interval_meaning.specs.Text.{ranges_text, slots_text}
use Rattle.dom_interval.proofs.text.slots_text.Given as goal

-- what is written and what is still to be written are the text
abbrev pub invariant-loop-slot : goal.invariant-loop-slot
invariant-loop-slot l = l.text ++ slots_text l.slot (drop l.slot l.numbers) (drop l.slot l.slots) ≡ ranges_text l.numbers l.slots
