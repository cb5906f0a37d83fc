use Rattle.std.proofs.Common.{rules, ◌+◌, take}
use Rattle.call_contexts.specs.Tallies.{occurs}
use Rattle.call_contexts.proofs.Counted.{less_none, less_then, less_all, occurs_first, occurs_step, occurs_whole}
use Rattle.call_contexts.proofs.counts.take_each.Goals as goal

pub loop-item-init : goal.loop-item-init
loop-item-init c = record { less = less_none _ (λ n. occurs n (take 0 c.args.numbers.now)) (λ n. occurs_first n c.args.numbers.now) }

pub loop-item-preserved : goal.loop-item-preserved
loop-item-preserved c =
    record {
      less = less_then _ _ _ (λ n. occurs n (take c.loop-item.item-index c.args.numbers.now)) _ (λ n. occurs n (take (c.loop-item.item-index + 1) c.args.numbers.now)) (λ n. occurs_step n c.args.numbers.now c.loop-item.item-index _ c.loop-item-test.true (search rules)) c.loop-item.invariant.less c.take_one.ensures.less;
    }

pub returns : goal.returns
returns c = record { less = less_all _ _ (λ n. occurs n (take c.loop-item.item-index c.args.numbers.now)) (λ n. occurs n c.args.numbers.now) (λ n. occurs_whole n c.args.numbers.now c.loop-item.item-index c.loop-item-test.false) c.loop-item.invariant.less }
