use Rattle.std.proofs.Common.{◌∙◌}
use Rattle.batch_interp.proofs.Handings.{handed_all, handed_down}
use Rattle.batch_interp.proofs.heads.loops_at.Goals as goal

pub loops_under-requires-clause-entered : goal.loops_under-requires-clause-entered
loops_under-requires-clause-entered g c =
    let dom = g.D.Domain.operations c.args.dom.now in
    handed_all dom c.args.plan.now c.args.place c.args.calls c.as_slice.result.now c.requires.checked c.chains_go_through_callers.ensures.through c.requires.within c.requires.handed (c.as_slice.ensures.same ∙ c.in_ok-entered.ensures.entered)

pub returns : goal.returns
returns g c =
    let dom = g.D.Domain.operations c.args.dom.now in
    let plan = c.args.plan.now in
    record {
      loops = c.in_ok-loops.ensures.loops;
      calls = handed_down dom plan c.args.place c.args.calls c.in_ok-loops.field-0.calls c.in_ok-entered.field-0.others c.append.new.all c.requires.within c.requires.handed c.in_ok-loops.ensures.calls c.in_ok-entered.ensures.others c.in_ok-append.ensures.added;
      right = c.in_ok-loops.ensures.right;
    }
