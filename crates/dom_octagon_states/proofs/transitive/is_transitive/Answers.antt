use Rattle.std.proofs.Common.{arith, ap, below_more, length}
use Rattle.dom_octagon_states.proofs.TransitiveLemmas.{LeadsOn, leads_on, transitive_whole}
use Rattle.dom_octagon_states.proofs.transitive.is_transitive.Goals as goal

pub loop-i-preserved : goal.loop-i-preserved
loop-i-preserved c = below_more (LeadsOn c.args.m.now) c.loop-i.i c.loop-i.invariant
    (leads_on c.args.m.now c.loop-i.i c.reached_from-reached.result c.reached_from-reached.ensures.reached (c.leave.ensures.within c.if-leave.false))

pub returns-clause-transitive : goal.returns-clause-transitive
returns-clause-transitive c = λ e i k j hi. c.loop-i.invariant i (omega (arith, c.loop-i-test.false, ap length c.kinds-kinds.ensures.value)) k j

pub returns-clause-whole : goal.returns-clause-whole
returns-clause-whole c = λ e h. transitive_whole c.args.m.now h (λ i k j hi. c.loop-i.invariant i (omega (arith, c.loop-i-test.false, ap length c.kinds-kinds.ensures.value)) k j)
