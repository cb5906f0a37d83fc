use Rattle.std.proofs.Common.{ap, ◌∙◌}
use Rattle.batch_meaning.specs.Places.{find}
use Rattle.batch_interp.specs.Answered.{value_of}
use Rattle.batch_interp.specs.Seeking.{places}
use Rattle.batch_interp.proofs.Walkings.{get_same, not_seen, seen_there}
use Rattle.batch_interp.proofs.walks.enter_call.Goals as goal

pub returns-in-None : goal.returns-in-None
returns-in-None g c =
    let dom = g.D.Domain.operations c.args.dom.now in
    let plan = c.args.plan.now in
    let k = c.args.caller.frame.place in
    let z = c.args.caller.frame.sites in
    let v = value_of c.args.caller.before in
    let r = c.index-routines-frame.result in
    let there = get_same c.routines.result.now plan.program k r c.routines.ensures.is c.requires.there c.index-routines-frame.is in
    let h = rw c.in-None.is at c.in_ok-seek.ensures.is in
    record { is = not_seen dom plan k c.args.site z r v there (h ∙ ap (λ b. find c.args.site (places dom plan k z b v)) c.body-body.ensures.same) }

pub returns : goal.returns
returns g c =
    let dom = g.D.Domain.operations c.args.dom.now in
    let plan = c.args.plan.now in
    let k = c.args.caller.frame.place in
    let z = c.args.caller.frame.sites in
    let v = value_of c.args.caller.before in
    let r = c.index-routines-frame.result in
    let there = get_same c.routines.result.now plan.program k r c.routines.ensures.is c.requires.there c.index-routines-frame.is in
    let h = rw c.in-Some.is at c.in_ok-seek.ensures.is in
    record { is = seen_there dom plan k c.args.site z r v c.in-Some.seen c.enter_seen.result there (h ∙ ap (λ b. find c.args.site (places dom plan k z b v)) c.body-body.ensures.same) c.enter_seen.ensures.is }

pub seek-requires : goal.seek-requires
seek-requires g c = record { right = c.new-remembered.ensures.right (g.D.Domain.operations c.args.dom.now) c.args.plan.now }
