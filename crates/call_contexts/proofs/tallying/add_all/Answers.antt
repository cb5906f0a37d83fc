use Rattle.std.proofs.Common.{rules, ◌+◌, take}
use Rattle.call_contexts.specs.Tallies.{times}
use Rattle.call_contexts.proofs.Counted.{more_none, more_then, more_all, times_first, times_step, times_whole}
use Rattle.call_contexts.proofs.tallying.add_all.Goals as goal

pub loop-numbers-init : goal.loop-numbers-init
loop-numbers-init c = record { more = more_none _ (λ n. times n (take 0 c.args.lists.now)) (λ n. times_first n c.args.lists.now) }

pub loop-numbers-preserved : goal.loop-numbers-preserved
loop-numbers-preserved c =
    record {
      more = more_then _ _ _ (λ n. times n (take c.loop-numbers.numbers-index c.args.lists.now)) _ (λ n. times n (take (c.loop-numbers.numbers-index + 1) c.args.lists.now)) (λ n. times_step n c.args.lists.now c.loop-numbers.numbers-index _ c.loop-numbers-test.true (search rules)) c.loop-numbers.invariant.more c.in_ok-add.ensures.more;
    }

pub returns : goal.returns
returns c = record { more = more_all _ _ (λ n. times n (take c.loop-numbers.numbers-index c.args.lists.now)) (λ n. times n c.args.lists.now) (λ n. times_whole n c.args.lists.now c.loop-numbers.numbers-index c.loop-numbers-test.false) c.loop-numbers.invariant.more }
