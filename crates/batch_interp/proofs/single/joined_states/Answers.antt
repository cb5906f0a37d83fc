use Rattle.std.proofs.Common.{sym, ◌∙◌}
use Rattle.batch_interp.proofs.BlockLemmas.{joined_step, joined_end}
use Rattle.batch_interp.proofs.single.joined_states.Goals as goal

pub loop-other-preserved : goal.loop-other-preserved
loop-other-preserved g c = λ e. joined_step (g.D.Domain.operations c.args.dom.now) e c.args.others.now c.loop-other.other-index c.loop-other.all c.other-item.result c.in_ok-all.all c.loop-other-test.true c.other-item.is c.in_ok-all.ensures.value ∙ c.loop-other.invariant e

pub returns : goal.returns
returns g c = record { value = λ e. sym (joined_end (g.D.Domain.operations c.args.dom.now) e c.args.others.now c.loop-other.other-index c.loop-other.all c.loop-other-test.false) ∙ c.loop-other.invariant e }
