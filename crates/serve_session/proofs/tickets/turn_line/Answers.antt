use Rattle.std.proofs.Common.{Option, sym, subst}
use Rattle.daig_session.specs.declared.stepping.StepResult as stepping
use Rattle.daig_session.specs.Holds.{Holds}
use Rattle.serve_session.specs.Followed.{TellsTurn}
use Rattle.serve_session.proofs.tickets.turn_line.Goals as goal

pub returns-in-Pending : goal.returns-in-Pending
returns-in-Pending g c =
    let now = c.args.session.now in
    let dom = g.D.Domain.operations now.engine.domain in
    record { tells = subst (λ (t : stepping.StepResult g.row.D-State.Denot). TellsTurn c.line_of.result (λ v. v.items) dom (Holds dom now.engine.store now.book) c.args.at.now c.args.only t) (sym c.in-Pending.is) c.line_of.ensures.line }

pub returns-in-State : goal.returns-in-State
returns-in-State g c =
    let now = c.args.session.now in
    let dom = g.D.Domain.operations now.engine.domain in
    record { tells = subst (λ (t : stepping.StepResult g.row.D-State.Denot). TellsTurn c.value_line.result (λ v. v.items) dom (Holds dom now.engine.store now.book) c.args.at.now c.args.only t) (sym c.in-State.is) c.value_line.ensures.line }
