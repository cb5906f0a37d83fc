use Rattle.std.proofs.Common.{refl}
use Rattle.daig_tickets.specs.Tickets.{anew}
use Rattle.daig_tickets.proofs.Beginning.{written_next}
use Rattle.daig_tickets.proofs.tickets.begin_all.Goals as goal

pub loop-place-preserved : goal.loop-place-preserved
loop-place-preserved g c = written_next anew c.loop-place.place c.args.open_ones.now c.loop-place.open_ones _ c.index-open_ones-place.result c.loop-place.invariant c.loop-place-test.true refl
