use Rattle.std.proofs.Common.{◌++◌, map, reverse, sym, ap, ◌∙◌}
use Rattle.batch_interp.specs.Answered.{value_of}
use Rattle.batch_interp.specs.Totalling.{all_added}
use Rattle.batch_interp.proofs.Lists.{nothing_left}
use Rattle.batch_interp.proofs.Fronts.{one_added}
use Rattle.batch_interp.proofs.totals.all_added.Goals as goal

pub loop-next-init : goal.loop-next-init
loop-next-init g c = ap (λ xs. map value_of xs ++ all_added (g.D.Domain.operations c.args.dom.now) (map value_of (reverse c.args.so_far)) (map value_of (reverse c.args.more))) c.in_ok-all.ensures.empty

pub loop-next-preserved : goal.loop-next-preserved
loop-next-preserved g c =
    one_added (g.D.Domain.operations c.args.dom.now) c.loop-next.all c.add_total.new.all c.loop-next.before c.add_total.new.so_far c.loop-next.left c.pop.new.self c.in-Some.next c.in-Some.ensures.last c.in_ok-add_total.ensures.rest c.in_ok-add_total.ensures.added
    ∙ c.loop-next.invariant

pub returns : goal.returns
returns g c =
    record { is = sym (nothing_left _ _ (ap (λ xs. all_added (g.D.Domain.operations c.args.dom.now) (map value_of (reverse c.loop-next.before)) (map value_of (reverse xs))) c.in_default.ensures.last.0)) ∙ c.loop-next.invariant }
