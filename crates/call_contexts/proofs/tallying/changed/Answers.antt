use Rattle.std.proofs.Common.{◌-◌, subst, sym, arith}
use Rattle.call_contexts.specs.Tallies.{times, Tells, capped}
use Rattle.call_contexts.proofs.Counted.{retold}
use Rattle.call_contexts.proofs.tallying.changed.Goals as goal

pub returns : goal.returns
returns c =
    record {
      told = λ f t b.
          let had = subst (λ es. Tells es f) (sym c.in_ok-after.ensures.same) t in
          let less = c.in_ok-take_all.ensures.less f had in
          let few = retold c.take_all.new.counts (λ n. f n - times n c.args.lost.now) (λ n. capped (f n - times n c.args.lost.now)) (λ n. omega (arith, b n)) less in
          c.in_ok-add_all.ensures.more (λ n. f n - times n c.args.lost.now) few;
    }
