use Rattle.std.proofs.Common.{◌≡◌, drop}
use Rattle.imp_check.specs.Slots.{names_link}
use Rattle.imp_check.proofs.slots.names_link.Given as goal

abbrev pub invariant-loop-link : goal.invariant-loop-link
invariant-loop-link l = names_link (drop l.link-index l.links) l.name ≡ names_link l.links l.name
