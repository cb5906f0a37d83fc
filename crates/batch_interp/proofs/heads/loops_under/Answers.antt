use Rattle.std.proofs.Common.{ap, map}
use Rattle.imp_chains.specs.Chains.{chains}
use Rattle.batch_interp.specs.Handing.{IsEnteredBy}
use Rattle.batch_interp.specs.Heads.{under_told}
use Rattle.batch_interp.proofs.HeadLemmas.{loops_next, loops_end}
use Rattle.batch_interp.proofs.Handings.{columns_next, columns_end}
use Rattle.batch_interp.proofs.Members.{all2_at}
use Rattle.batch_interp.proofs.heads.loops_under.Goals as goal

pub loop-next-init : goal.loop-next-init
loop-next-init g c = record { told = ap (map under_told) c.new-loops.ensures.empty; handed = c.new-handed.ensures.empty; right = c.requires.right }

pub loop-next-preserved : goal.loop-next-preserved
loop-next-preserved g c =
    let dom = g.D.Domain.operations c.args.dom.now in
    let plan = c.args.plan.now in
    let place = c.args.place in
    let i = c.loop-next.next-index in
    let e = c.next-item.result in
    let body = c.body-body.result.now in
    let at = all2_at (IsEnteredBy dom plan place) (chains plan.program place) c.args.entered.now i e c.requires.entered c.loop-next-test.true c.next-item.is in
    record {
      told = loops_next dom plan place i body e at c.new-heads.result c.loop-next.loops c.push.new.self _ c.requires.checked c.requires.within c.body-body.ensures.is c.in_ok-chain.ensures.is c.new-heads.ensures.empty c.in_ok-gather_entered.ensures.added c.in_ok-push.ensures.added c.loop-next.invariant.told;
      handed = columns_next dom plan place i body e at c.new-calls.result c.gather_entered.new.calls c.loop-next.handed c.in_ok-handed.handed c.requires.checked c.requires.within c.body-body.ensures.is c.new-calls.ensures.empty c.in_ok-gather_entered.ensures.calls c.in_ok-handed.ensures.is c.loop-next.invariant.handed;
      right = c.in_ok-gather_entered.ensures.right;
    }

pub returns : goal.returns
returns g c =
    let dom = g.D.Domain.operations c.args.dom.now in
    let plan = c.args.plan.now in
    let place = c.args.place in
    let es = c.args.entered.now in
    record {
      loops = loops_end dom plan place c.loop-next.next-index es c.loop-next.loops c.requires.entered c.loop-next-test.false c.loop-next.invariant.told;
      calls = columns_end dom plan place c.loop-next.next-index es c.loop-next.handed c.requires.entered c.loop-next-test.false c.loop-next.invariant.handed;
      right = c.loop-next.invariant.right;
    }
