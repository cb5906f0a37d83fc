-- Quiet lines leave the program, and keep each name that was kept.
use Rattle.std.proofs.Common.{◌≡◌, ◌∙◌, ℕ, nat_le, nat_lt, Bool, true, false, List, [], ◌∷◌, ◌++◌, length, Option, Some, None, Result, Ok, Err, if◌then◌else◌, refl}
use Rattle.std.proofs.lemmas.Bool.{or_left}
use Rattle.std.proofs.lemmas.List.Elements.{All-head, All-tail}
use Rattle.imp_words.specs.declared.refusal.QueryRefusal.{QueryRefusal}
use Rattle.domain_laws.specs.Operations.{Operations}
use Rattle.batch_meaning.specs.Answers.{Answer, Refuses, Answers}
use Rattle.cell_names.specs.Paths.{CellName}
use Rattle.daig_order.specs.Order.{member}
use Rattle.daig_order.proofs.OrderLemmas.{member-append}
use Rattle.cell_graph.specs.Same.{same_name}
use Rattle.serve_script.specs.Lines.{kept}
use Rattle.serve_script.specs.Replies.{machine_after, next_to}
use Rattle.daig_machine.specs.Machine.{Machine, Ticket, keeping, ticket_of, with_tickets}
use Rattle.daig_machine.specs.Turns.{answer_at, missing_asked, refusal_asked, string_of}
use Rattle.daig_machine.specs.declared.question.Question.{Question}
use Rattle.request_json.specs.declared.error.ReadError.{ReadError}
use Rattle.request_json.specs.declared.request.Query.{Query}
use Rattle.request_json.specs.declared.request.Request.{Request}
use Rattle.request_json.specs.declared.request.Request.TheVariants as q
use Rattle.request_json.specs.Requests.{request_of}
use Rattle.serve_answers.specs.Readings.{Readings}
use Rattle.serve_answers.specs.Turns.{Outcome, cancel_by, state_by, why_by, begin_by, question_of, step_by, step_of}
use Rattle.serve_answers.specs.Lines.{Served, request_turn, read_turn, server}
use Rattle.serve_answers.specs.Histories.{AreQuiet, IsQuiet, IsQuietKept, IsQuietRead}
use Rattle.reuse_laws.specs.Shorter.{KeepsMore}

-- a name that is kept is kept beside others
beside_others : (ks xs : List CellName) (x : CellName) → member same_name ks x ≡ true → member same_name (ks ++ xs) x ≡ true
beside_others ks xs x h = member-append same_name ks xs x ∙ or_left (member same_name ks x) (member same_name xs x) h

more_itself : (m : Machine) → KeepsMore m m
more_itself m = record { holds = record { program = refl; engine = refl }; more = λ x h. h }

module _ {S : Type 0} (dom : Operations S) (m : Machine) where
  abbrev GrowsIn : Outcome → Type 0
  GrowsIn turn = KeepsMore m turn.machine

  -- with other tickets, and with other names beside those that are kept
  same_names : (tickets : List Ticket) (next_ticket : ℕ) → KeepsMore m (with_tickets tickets next_ticket m)
  same_names tickets next_ticket = record { holds = record { program = refl; engine = refl }; more = λ x h. h }

  more_names : (xs : List CellName) (cost : ℕ) → KeepsMore m (keeping (m.kept ++ xs) cost m)
  more_names xs cost = record { holds = record { program = refl; engine = refl }; more = beside_others m.kept xs }

  more_and_closed : (xs : List CellName) (cost : ℕ) (tickets : List Ticket) → KeepsMore m (with_tickets tickets m.next_ticket (keeping (m.kept ++ xs) cost m))
  more_and_closed xs cost tickets = record { holds = record { program = refl; engine = refl }; more = beside_others m.kept xs }

  either_grows : (b : Bool) (one other : Outcome) → GrowsIn one → GrowsIn other → GrowsIn (if b then one else other)
  either_grows true one other first second = first
  either_grows false one other first second = second

  cancel_grows : (t : Option Ticket) → GrowsIn (cancel_by t m)
  cancel_grows None = more_itself m
  cancel_grows (Some t) = same_names _ _

  state_grows : (query : Query) (a : Answer S) → GrowsIn (state_by dom query a m)
  state_grows query (Refuses why) = more_itself m
  state_grows query (Answers v) = more_names _ _

  why_grows : (query : Query) (a : Answer S) → GrowsIn (why_by dom query a m)
  why_grows query (Refuses why) = more_itself m
  why_grows query (Answers v) = more_names _ _

  begin_grows : (question : Question) (refusal : Option QueryRefusal) → GrowsIn (begin_by dom question refusal m)
  begin_grows question (Some why) = more_itself m
  begin_grows question None = same_names _ _

  step_by_grows : (t : Ticket) (n : ℕ) (refusal : Option QueryRefusal) → GrowsIn (step_by dom t n refusal m)
  step_by_grows t n (Some why) = same_names _ _
  step_by_grows t n None = either_grows (nat_lt n (length (missing_asked dom t.question m))) _ _ (more_names _ _) (more_and_closed _ _ _)

  step_grows : (n : ℕ) (t : Option Ticket) → GrowsIn (step_of dom n t m)
  step_grows n None = more_itself m
  step_grows n (Some t) = step_by_grows t n (refusal_asked dom t.question m)

  request_grows : (readings : Readings) (request : Request) → IsQuiet request → GrowsIn (request_turn readings dom request m)
  unfolding request_turn
  request_grows readings (q.State query) quiet = state_grows query (answer_at dom query.at query.string m)
  request_grows readings q.Report quiet = more_names _ _
  request_grows readings (q.Faults only) quiet = more_names _ _
  request_grows readings q.Cost quiet = more_itself m
  request_grows readings q.Program quiet = more_itself m
  request_grows readings q.Listing quiet = more_itself m
  request_grows readings (q.Run inputs fuel at) quiet = more_itself m
  request_grows readings (q.Replace id text) quiet = absurd quiet
  request_grows readings (q.Insert place text) quiet = absurd quiet
  request_grows readings (q.Delete id) quiet = absurd quiet
  request_grows readings (q.Guard id text) quiet = absurd quiet
  request_grows readings (q.Declare proc name kind) quiet = absurd quiet
  request_grows readings (q.Add before text) quiet = absurd quiet
  request_grows readings (q.Drop proc) quiet = absurd quiet
  request_grows readings (q.Why query) quiet = why_grows query (answer_at dom query.at query.string m)
  request_grows readings q.Undo quiet = absurd quiet
  request_grows readings q.Redo quiet = absurd quiet
  request_grows readings (q.Begin task) quiet =
      let question = question_of task in
      either_grows (nat_lt 2 (length (string_of question))) _ _ (more_itself m) (
      either_grows (nat_le 16 (length m.tickets)) _ _ (more_itself m) (begin_grows question (refusal_asked dom question m)))
  request_grows readings (q.Step ticket n) quiet = step_grows n (ticket_of ticket m.tickets)
  request_grows readings (q.Cancel ticket) quiet = cancel_grows (ticket_of ticket m.tickets)

  read_grows : (readings : Readings) (read : Result Request ReadError) → IsQuietRead read → GrowsIn (read_turn readings dom read m)
  read_grows readings (Err error) quiet = more_itself m
  read_grows readings (Ok request) quiet = request_grows readings request quiet

-- ---- many lines

more_on : (a b c : Machine) → KeepsMore a b → KeepsMore b c → KeepsMore a c
more_on a b c one other = record {
  holds = record { program = one.holds.program ∙ other.holds.program; engine = one.holds.engine ∙ other.holds.engine };
  more = λ x h. other.more x (one.more x h);
}

kept_more : {S : Type 0} (dom : Operations S) (s : Served) (read : Option (List ℕ)) → IsQuietKept read → KeepsMore s.machine (next_to (server dom) s read).machine
kept_more dom s None quiet = more_itself s.machine
kept_more dom s (Some text) quiet = read_grows dom s.machine s.readings (request_of text) quiet

pub quiet_more : {S : Type 0} (dom : Operations S) (s : Served) (lines : List (List ℕ)) → AreQuiet lines → KeepsMore s.machine (machine_after (server dom) s lines).machine
quiet_more dom s [] quiet = more_itself s.machine
quiet_more dom s (line ∷ lines) quiet =
    let first = kept_more dom s (kept line) (All-head (λ (x : List ℕ). IsQuietKept (kept x)) line lines quiet) in
    let others = quiet_more dom (next_to (server dom) s (kept line)) lines (All-tail (λ (x : List ℕ). IsQuietKept (kept x)) line lines quiet) in
    more_on s.machine (next_to (server dom) s (kept line)).machine _ first others
