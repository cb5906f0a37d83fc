use Rattle.std.proofs.Common.{◌≡◌, ◌++◌, take, map}
use Rattle.concrete_sem.specs.Passing.{first_link}
use Rattle.imp_run.proofs.slots.fill_links.Given as goal

abbrev pub invariant-loop-name : goal.invariant-loop-name
invariant-loop-name l = l.links.items ≡ l.initial.links.items ++ map first_link (take l._name-index l._name-items)
