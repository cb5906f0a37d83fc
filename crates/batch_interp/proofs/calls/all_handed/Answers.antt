use Rattle.std.proofs.Common.{reverse, sym, ap, ◌∙◌}
use Rattle.batch_interp.specs.Handing.{all_handed}
use Rattle.batch_interp.proofs.Lists.{nothing_left}
use Rattle.batch_interp.proofs.Turned.{one_handed}
use Rattle.batch_interp.proofs.calls.all_handed.Goals as goal

pub loop-next-preserved : goal.loop-next-preserved
loop-next-preserved g c =
    one_handed c.loop-next.all c.add_handed.new.all c.loop-next.before c.add_handed.new.so_far c.loop-next.left c.pop.new.self c.in-Some.next c.in-Some.ensures.last c.in_ok-add_handed.ensures.rest c.in_ok-add_handed.ensures.added
    ∙ c.loop-next.invariant

pub returns : goal.returns
returns g c = record { is = sym (nothing_left _ _ (ap (λ xs. all_handed (reverse c.loop-next.before) (reverse xs)) c.in_default.ensures.last.0)) ∙ c.loop-next.invariant }
