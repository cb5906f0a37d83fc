-- What a refusal leaves of the machine.
use Rattle.std.specs.Prelude.{◌≡◌, ◌⊎◌, ℕ, List, Some, Ok}
use Rattle.imp_words.specs.declared.refusal.QueryRefusal as words
use Rattle.domain_laws.specs.Operations.{Operations}
use Rattle.daig_machine.specs.Machine.{Machine, Ticket, ticket_of}
use Rattle.daig_machine.specs.Turns.{after_close, refusal_asked}
use Rattle.request_json.specs.declared.request.Request.TheVariants as q
use Rattle.request_json.specs.declared.reply.Reply.TheVariants as r
use Rattle.request_json.specs.declared.reply.Refusal.{Refusal}
use Rattle.request_json.specs.declared.reply.Refusal.TheVariants as refusal
use Rattle.request_json.specs.Requests.{request_of}
use Rattle.serve_answers.specs.Readings.{Readings}
use Rattle.serve_answers.specs.Lines.{line_turn}

-- The line is a step of an open ticket whose question the present program refuses: that ticket is closed, and nothing else is
-- changed.
pub record ClosesTicket {S : Type 0} (dom : Operations S) (m next : Machine) (line : List ℕ) : Type 0 where
  pub ticket : ℕ
  pub steps : ℕ
  pub asked : Ticket
  pub cause : words.QueryRefusal
  pub reads : request_of line ≡ Ok (q.Step ticket steps)
  pub open_one : ticket_of ticket m.tickets ≡ Some asked
  pub refuses : refusal_asked dom asked.question m ≡ Some cause
  pub closes : next ≡ after_close asked.number m

-- A line that is refused leaves the machine as it is, or closes such a ticket.
abbrev pub RefusalsKeep : {S : Type 0} → Operations S → Type 0
RefusalsKeep dom =
    (readings : Readings) (m : Machine) (line : List ℕ) (why : Refusal) → (line_turn readings dom line m).reply ≡ r.Refused why →
    ((line_turn readings dom line m).machine ≡ m) ⊎ ((why ≡ refusal.Gone) × ClosesTicket dom m (line_turn readings dom line m).machine line)
