use Rattle.dom_octagon_states.proofs.Tight.{closed_tight}
use Rattle.dom_octagon.proofs.assign.close_form.Goals as goal

pub close_with-requires-clause-tight : goal.close_with-requires-clause-tight
close_with-requires-clause-tight c = closed_tight c.in_ok-free.free (c.in_ok-free.ensures.closed c.requires.tight.closed)
