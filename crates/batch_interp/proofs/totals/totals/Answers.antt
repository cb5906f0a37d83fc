use Rattle.std.proofs.Common.{sym, subst, map}
use Rattle.imp_chains.specs.Chains.{chains}
use Rattle.batch_meaning.specs.Report.{checked_in}
use Rattle.batch_interp.specs.Answered.{value_of}
use Rattle.batch_interp.specs.Frames.{body_at}
use Rattle.batch_interp.specs.Handing.{IsEnteredBy}
use Rattle.batch_interp.specs.Reporting.{claims}
use Rattle.batch_interp.proofs.Fronts.{SoFar, none_so_far, totals_next, totals_end}
use Rattle.batch_interp.proofs.Handings.{columns_next, columns_end}
use Rattle.batch_interp.proofs.Members.{all2_at}
use Rattle.batch_interp.proofs.totals.totals.Goals as goal

pub loop-next-init : goal.loop-next-init
loop-next-init g c =
    let dom = g.D.Domain.operations c.args.dom.now in
    let plan = c.args.plan.now in
    let zs = chains plan.program c.args.place in
    let cs = claims (checked_in (body_at plan.program c.args.place)) in
    record {
      known = subst (λ vs. SoFar dom plan zs zs cs (map value_of vs)) (sym c.new-known.ensures.empty) (none_so_far dom plan zs cs);
      handed = c.new-handed.ensures.empty;
      right = c.requires.right;
    }

pub loop-next-preserved : goal.loop-next-preserved
loop-next-preserved g c =
    let dom = g.D.Domain.operations c.args.dom.now in
    let plan = c.args.plan.now in
    let place = c.args.place in
    let i = c.loop-next.next-index in
    let e = c.next-item.result in
    let body = c.body-body.result.now in
    let at = all2_at (IsEnteredBy dom plan place) (chains plan.program place) c.args.entered.now i e c.requires.entered c.loop-next-test.true c.next-item.is in
    record {
      known = totals_next dom plan place i body e at c.new-more.result c.loop-next.known c.gather_entered.new.found c.last_first.result c.last_first-in-loop-next.result c.in_ok-known.known c.requires.checked c.requires.within c.body-body.ensures.is c.new-more.ensures.empty c.in_ok-gather_entered.ensures.added c.last_first.ensures.is c.last_first-in-loop-next.ensures.is c.in_ok-known.ensures.is c.loop-next.invariant.known;
      handed = columns_next dom plan place i body e at c.new-calls.result c.gather_entered.new.calls c.loop-next.handed c.in_ok-handed.handed c.requires.checked c.requires.within c.body-body.ensures.is c.new-calls.ensures.empty c.in_ok-gather_entered.ensures.calls c.in_ok-handed.ensures.is c.loop-next.invariant.handed;
      right = c.in_ok-gather_entered.ensures.right;
    }

pub returns : goal.returns
returns g c =
    let dom = g.D.Domain.operations c.args.dom.now in
    let plan = c.args.plan.now in
    let place = c.args.place in
    let es = c.args.entered.now in
    record {
      known = totals_end dom plan place c.loop-next.next-index es (claims (checked_in (body_at plan.program place))) (map value_of c.loop-next.known) c.requires.entered c.loop-next-test.false c.loop-next.invariant.known;
      calls = columns_end dom plan place c.loop-next.next-index es c.loop-next.handed c.requires.entered c.loop-next-test.false c.loop-next.invariant.handed;
      right = c.loop-next.invariant.right;
    }
