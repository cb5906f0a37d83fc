use Rattle.daig_machine.specs.Machine.{ticket_of}
use Rattle.request_json.specs.declared.reply.Reply.TheVariants as r
use Rattle.serve_answers.specs.Turns.{cancel_turn}
use Rattle.daig_session.specs.Holds.{Holds}
use Rattle.serve_session.proofs.Replied.{line_follows, on_error}
use Rattle.serve_session.proofs.Turned.{cancel_done, cancel_stays, number_found}
use Rattle.serve_session.proofs.tickets.cancel_line.Goals as goal

pub returns-in-Ok-clause-turn : goal.returns-in-Ok-clause-turn
returns-in-Ok-clause-turn g c = λ m h.
    let stands = Holds (g.D.Domain.operations c.cancel.new.self.engine.domain) c.cancel.new.self.engine.store c.cancel.new.self.book in
    line_follows (cancel_turn c.args.ticket m) stands (r.Cancelled c.args.ticket) c.in_ok-line.line.items
    (cancel_done m stands c.args.ticket (ticket_of c.args.ticket m.tickets) c.in-Ok.field-0 (number_found c.args.ticket m.tickets) (c.in-Ok.ensures.cancels m h)) c.in_ok-line.ensures.line

pub returns-in-Err-clause-unchanged : goal.returns-in-Err-clause-unchanged
returns-in-Err-clause-unchanged g c = λ m h.
    let stands = Holds (g.D.Domain.operations c.cancel.new.self.engine.domain) c.cancel.new.self.engine.store c.cancel.new.self.book in
    on_error c.refused.result (stands m) (cancel_stays m stands c.args.ticket (ticket_of c.args.ticket m.tickets) c.in-Err.field-0 (c.in-Err.ensures.cancels m h))
