use Rattle.std.proofs.Common.{◌≡◌, ◌≤◌, ◌+◌, ◌*◌, suc, Ok, refl, sym, ap, subst, ◌∙◌}
use Rattle.std.specs.FinMap.{len}
use Rattle.std.specs.Prelude.{IfSome, MatchOption}
use Rattle.std.proofs.lemmas.Result.{err_from_is_err_and}
use Rattle.daig_query.specs.Filled.{cells_added}
use Rattle.daig_machine.specs.Machine.{Ticket, keeping, ticket_of}
use Rattle.daig_session.specs.Holds.{Holds}
use Rattle.daig_session.specs.Turns.{chains_along, chains_read, work_until, IsJudged, IsStepOf, IsSteppedOf}
use Rattle.daig_session.proofs.Judging.{added_names}
use Rattle.daig_session.proofs.LastSteps.{judging_done, judging_failed, judging_most, judging_work}
use Rattle.daig_session.proofs.session.Session.step_now.Goals as goal

pub returns-in_err-turn-in-Full-clause-steps : goal.returns-in_err-turn-in-Full-clause-steps
returns-in_err-turn-in-Full-clause-steps g c = rw (← c.self.view_is) (λ m h.
    let s = c.self.inside.parts in
    let ops = g.D.Domain.operations in
    let dom = ops s.engine.domain in
    let mid = c.step_until.new.self in
    let kind = c.in-Full.kind in
    let filled = c.in-Full.filled in
    let there = ticket_of c.args.ticket m.tickets in
    let stepped = subst (λ r. IsSteppedOf dom m (Holds (ops mid.engine.domain) mid.engine.store mid.book) c.args.ticket c.args.most there (Ok r)) c.in-Full.is (c.in_ok-turn.ensures.steps m h) in
    let new = c.judged.new.self in
    let p = err_from_is_err_and c.from_residual-in_err-turn-in-Full.result c.from_residual-in_err-turn-in-Full.ensures.1 in
    rw (p.1, p.2) (judging_failed dom m c.args.most c.args.ticket filled kind (Holds (ops mid.engine.domain) mid.engine.store mid.book) there (Holds (ops new.engine.domain) new.engine.store new.book) stepped (λ z k. c.in_err-turn-in-Full.ensures.unjudged z k)))

pub returns-in_err-turn-in-Full-clause-ticked_filled : goal.returns-in_err-turn-in-Full-clause-ticked_filled
returns-in_err-turn-in-Full-clause-ticked_filled g c = rw (← c.self.view_is) (λ m h.
    let s = c.self.inside.parts in
    let ops = g.D.Domain.operations in
    let dom = ops s.engine.domain in
    let mid = c.step_until.new.self in
    let kind = c.in-Full.kind in
    let filled = c.in-Full.filled in
    let there = ticket_of c.args.ticket m.tickets in
    let stepped = subst (λ r. IsSteppedOf dom m (Holds (ops mid.engine.domain) mid.engine.store mid.book) c.args.ticket c.args.most there (Ok r)) c.in-Full.is (c.in_ok-turn.ensures.steps m h) in
    let new = c.judged.new.self in
    let each = g.D.Domain.counted s.engine.domain in
    let fill = subst (λ r. IfSome there (λ (t : Ticket). c.step_until.new.steps ≤ c.args.steps.now + each * work_until dom m t.question r)) c.in-Full.is (c.in_ok-turn.ensures.ticked m h) in
    judging_most dom m c.args.most c.args.ticket filled kind (Holds (ops mid.engine.domain) mid.engine.store mid.book) there c.args.steps.now c.step_until.new.steps c.judged.new.steps each (cells_added s.engine.store new.engine.store) stepped fill
    (λ z k. subst (λ d. c.judged.new.steps ≤ c.step_until.new.steps + g.D.Domain.counted d * suc (2 * chains_along z kind)) c.step_until.ensures.setup.0 (c.judged.ensures.ticked_filled z k))
    (λ xs k. added_names dom (ops mid.engine.domain) s.engine.store mid.engine.store new.engine.store s.book mid.book m xs c.self.invariant h c.step_until.ensures.ready k c.judged.ensures.no_cells))

pub returns-in_ok-turn-in-Full-clause-steps : goal.returns-in_ok-turn-in-Full-clause-steps
returns-in_ok-turn-in-Full-clause-steps g c = rw (← c.self.view_is) (λ m h.
    let s = c.self.inside.parts in
    let ops = g.D.Domain.operations in
    let dom = ops s.engine.domain in
    let mid = c.step_until.new.self in
    let kind = c.in-Full.kind in
    let filled = c.in-Full.filled in
    let there = ticket_of c.args.ticket m.tickets in
    let stepped = subst (λ r. IsSteppedOf dom m (Holds (ops mid.engine.domain) mid.engine.store mid.book) c.args.ticket c.args.most there (Ok r)) c.in-Full.is (c.in_ok-turn.ensures.steps m h) in
    let last = c.cancel-closed.new.self in
    let turn = c.in_ok-turn-in-Full.turn in
    subst (λ p. IsStepOf dom m (Holds (ops p.engine.domain) p.engine.store (record p.book { cost = filled })) c.args.most there (Ok turn)) (sym c.self-in-Full.view_is) (
    judging_done dom m c.args.most c.args.ticket filled kind (Holds (ops mid.engine.domain) mid.engine.store mid.book) there refl turn (ops last.engine.domain) last.engine.store last.book c.cancel-closed.result stepped
    (λ z k. let j = c.in_ok-turn-in-Full.ensures.judges z k in (subst (λ d. IsJudged (ops d) z kind turn) c.step_until.ensures.setup.0 j.0, c.cancel-closed.ensures.cancels (keeping z.kept 0 z) j.1))))

pub returns-in_ok-turn-in-Full-clause-ticked : goal.returns-in_ok-turn-in-Full-clause-ticked
returns-in_ok-turn-in-Full-clause-ticked g c = rw (← c.self.view_is) (λ m h.
    let s = c.self.inside.parts in
    let ops = g.D.Domain.operations in
    let dom = ops s.engine.domain in
    let mid = c.step_until.new.self in
    let kind = c.in-Full.kind in
    let filled = c.in-Full.filled in
    let there = ticket_of c.args.ticket m.tickets in
    let stepped = subst (λ r. IsSteppedOf dom m (Holds (ops mid.engine.domain) mid.engine.store mid.book) c.args.ticket c.args.most there (Ok r)) c.in-Full.is (c.in_ok-turn.ensures.steps m h) in
    let each = g.D.Domain.counted s.engine.domain in
    let fill = subst (λ r. IfSome there (λ (t : Ticket). c.step_until.new.steps ≤ c.args.steps.now + each * work_until dom m t.question r)) c.in-Full.is (c.in_ok-turn.ensures.ticked m h) in
    let turn = c.in_ok-turn-in-Full.turn in
    judging_work dom m c.args.most c.args.ticket filled kind (Holds (ops mid.engine.domain) mid.engine.store mid.book) there turn c.args.steps.now c.step_until.new.steps c.judged.new.steps each stepped fill
    (λ z k. (
      subst (λ d. IsJudged (ops d) z kind turn) c.step_until.ensures.setup.0 (c.in_ok-turn-in-Full.ensures.judges z k).0,
      subst (λ d. c.judged.new.steps ≤ c.step_until.new.steps + g.D.Domain.counted d * (2 * chains_along z kind)) c.step_until.ensures.setup.0 (c.in_ok-turn-in-Full.ensures.ticked z k),
    )))

pub returns-in_ok-turn-in-Full-clause-ticked_filled : goal.returns-in_ok-turn-in-Full-clause-ticked_filled
returns-in_ok-turn-in-Full-clause-ticked_filled g c = rw (← c.self.view_is) (λ m h.
    let s = c.self.inside.parts in
    let ops = g.D.Domain.operations in
    let dom = ops s.engine.domain in
    let mid = c.step_until.new.self in
    let kind = c.in-Full.kind in
    let filled = c.in-Full.filled in
    let there = ticket_of c.args.ticket m.tickets in
    let stepped = subst (λ r. IsSteppedOf dom m (Holds (ops mid.engine.domain) mid.engine.store mid.book) c.args.ticket c.args.most there (Ok r)) c.in-Full.is (c.in_ok-turn.ensures.steps m h) in
    let last = c.cancel-closed.new.self in
    let each = g.D.Domain.counted s.engine.domain in
    let fill = subst (λ r. IfSome there (λ (t : Ticket). c.step_until.new.steps ≤ c.args.steps.now + each * work_until dom m t.question r)) c.in-Full.is (c.in_ok-turn.ensures.ticked m h) in
    subst (λ p. MatchOption there (c.judged.new.steps ≡ c.args.steps.now) (λ (t : Ticket). c.judged.new.steps ≤ c.args.steps.now + each * suc (cells_added s.engine.store p.engine.store + 2 * chains_read m t.question))) (sym c.self-in-Full.view_is) (
    judging_most dom m c.args.most c.args.ticket filled kind (Holds (ops mid.engine.domain) mid.engine.store mid.book) there c.args.steps.now c.step_until.new.steps c.judged.new.steps each (cells_added s.engine.store last.engine.store) stepped fill
    (λ z k. subst (λ d. c.judged.new.steps ≤ c.step_until.new.steps + g.D.Domain.counted d * suc (2 * chains_along z kind)) c.step_until.ensures.setup.0 (c.judged.ensures.ticked_filled z k))
    (λ xs k. added_names dom (ops mid.engine.domain) s.engine.store mid.engine.store last.engine.store s.book mid.book m xs c.self.invariant h c.step_until.ensures.ready k (ap (λ e. len e.graph.cells) c.cancel-closed.ensures.unmoved ∙ c.judged.ensures.no_cells))))
