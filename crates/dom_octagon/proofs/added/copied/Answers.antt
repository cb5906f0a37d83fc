use Rattle.dom_octagon.proofs.Tables.{if_ok-by}
use Rattle.dom_octagon_states.proofs.Tight.{limited_ready}
use Rattle.dom_octagon_states.specs.Limits.{IsReady}
use Rattle.dom_octagon.proofs.added.copied.Goals as goal

pub returns-clause-ready : goal.returns-clause-ready
returns-clause-ready c = if_ok-by c.matrix_of_bounds.result c.args.m.now IsReady c.matrix_of_bounds.ensures.same (limited_ready c.args.m.now c.requires.limited)
