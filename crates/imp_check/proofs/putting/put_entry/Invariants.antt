use Rattle.std.proofs.Common.{◌≡◌, ◌-◌, Option, length}
use Rattle.imp_check.specs.declared.entry.Entry.{Entry}
use Rattle.imp_check.specs.Puts.{put_at}
use Rattle.imp_check.proofs.putting.put_entry.Given as goal

-- what is put then is put all the same
abbrev pub invariant-loop-places : goal.invariant-loop-places
invariant-loop-places l = (o : Option Entry) → put_at l.places.items l.number o ≡ put_at l.initial.places.items l.number o

abbrev pub decreases-loop-places : goal.decreases-loop-places
decreases-loop-places l = l.number - length l.places.items
