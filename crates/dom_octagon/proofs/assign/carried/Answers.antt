use Rattle.std.proofs.Common.{sym, subst}
use Rattle.std.proofs.lemmas.Int.{to_z-of_z}
use mir.Syntax.{w128}
use Rattle.dom_octagon.proofs.Tables.{carried-is_ready}
use Rattle.dom_octagon_states.specs.Limits.{IsReady}
use Rattle.dom_octagon.proofs.assign.carried.Goals as goal

pub returns-clause-ready : goal.returns-clause-ready
returns-clause-ready c = subst IsReady (sym (rw (to_z-of_z w128 c.args.c c.ranges.c) at c.carry.ensures.value))
    (carried-is_ready c.args.m.now c.args.x c.args.i c.args.c c.kinds-kinds.ensures.matrix c.requires.limited c.requires.small)

pub returns-clause-value : goal.returns-clause-value
returns-clause-value c = rw (to_z-of_z w128 c.args.c c.ranges.c) at c.carry.ensures.value
