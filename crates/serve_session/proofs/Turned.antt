-- What requests for questions, tickets, undo and redo are replied.
use Rattle.std.proofs.Common.{◌≡◌, ◌⊎◌, inl, inr, ◌<◌, ◌≤◌, ℕ, Bool, true, false, List, [], ◌∷◌, map, length, Option, Some, None, Result, Ok, Err, if◌then◌else◌, refl, sym, ap, subst, ◌∙◌, arith}
use Rattle.std.specs.Prelude.{nat_le, nat_lt, IfErr, IfSome, option_map}
use Rattle.std.proofs.lemmas.Bool.Decides.{nat_tests}
use Rattle.base_values.proofs.Cases.{by_bool, by_test}
use Rattle.imp_syntax.specs.Plain.{Procedure}
use Rattle.imp_syntax.specs.declared.edit.Location.{Location}
use Rattle.imp_check.specs.Slots.{routines_of}
use Rattle.imp_words.specs.declared.findings.Finding.{Finding}
use Rattle.imp_words.specs.declared.refusal.QueryRefusal as cause
use Rattle.imp_words.specs.declared.refusal.QueryRefusal.TheVariants.{LongString}
use Rattle.fault_words.specs.declared.finding.FaultFinding.{FaultFinding}
use Rattle.fault_words.specs.declared.finding.FaultVerdict.{FaultVerdict}
use Rattle.fault_words.specs.Picking.{with_verdict}
use Rattle.domain_laws.specs.Operations.{Operations}
use Rattle.batch_meaning.specs.Answers.{Answer, Answers, Refuses}
use Rattle.daig_graph.specs.declared.value.Value.{Value}
use Rattle.daig_machine.specs.Machine.{Machine, Ticket, ticket_of}
use Rattle.daig_machine.specs.Turns.{answer_at, after_question, after_close, after_last_step, missing_asked, missing_at, after_step, refusal_asked, refusal_in, string_of, upstream_at}
use Rattle.daig_machine.specs.declared.question.Question.{Question}
use Rattle.daig_machine.specs.declared.question.Question.TheVariants as what
use Rattle.daig_tickets.specs.declared.tickets.NoTicket.{NoTicket}
use Rattle.daig_session.specs.declared.error.QueryError.{QueryError}
use Rattle.daig_session.specs.declared.error.QueryError.TheVariants as question
use Rattle.daig_session.specs.declared.error.AskError.{AskError}
use Rattle.daig_session.specs.declared.error.AskError.TheVariants as ask
use Rattle.daig_session.specs.declared.error.StepError.{StepError}
use Rattle.daig_session.specs.declared.error.StepError.TheVariants as step
use Rattle.daig_session.specs.declared.error.UndoError.{UndoError}
use Rattle.daig_session.specs.declared.error.UndoError.TheVariants as undo
use Rattle.daig_session.specs.declared.stepping.StepResult as stepping
use Rattle.daig_session.specs.declared.stepping.StepResult.TheVariants as stepped
use Rattle.daig_session.specs.Going.{IsAnswered}
use Rattle.daig_session.specs.Turns.{Cancels, Explains, Fails, Goes, IsDone, IsGone, IsPending, IsStepOf, IsTold, Opens, Questions}
use Rattle.daig_session.proofs.Asked.{too_long}
use Rattle.request_json.specs.declared.request.Query.{Query}
use Rattle.request_json.specs.Requests.{query_of}
use Rattle.request_json.specs.declared.reply.Reply.TheVariants as r
use Rattle.request_json.specs.declared.reply.Refusal.{Refusal}
use Rattle.request_json.specs.declared.reply.Refusal.TheVariants as refusal
use Rattle.serve_replies.specs.States.{answer_reply, layout_at}
use Rattle.serve_answers.specs.Turns.{Outcome, begin_by, begin_turn, cancel_by, goes, move_turn, refused, state_by, state_turn, step_by, step_of, whole_turn, why_by, why_turn}
use Rattle.serve_session.proofs.Places.{says_answered, short_not_long}
use Rattle.serve_session.specs.Followed.{ask_refusal, missing_for_ticket, move_refusal, query_refusal, step_refusal, told_at, told_only, Follows, IsHalted, Tells, TellsTurn}
use Rattle.serve_session.proofs.Replied.{IsFollowed, IsReplied, Writes, follows, halted_after, halted_before, never_ok, on_error}

-- the ticket that is found has the number
pub number_found : (n : ℕ) (ts : List Ticket) → IfSome (ticket_of n ts) (λ t. t.number ≡ n)
number_found n [] = tt
number_found n (t ∷ ts) = by_test t.number n (λ (b : Bool). IfSome (if b then Some t else ticket_of n ts) (λ u. u.number ≡ n)) (λ e. e) (λ e. number_found n ts)

-- ---- questions

module _ {S : Type 0} (dom : Operations S) (m : Machine) (stands : Machine → Type 0) where
  told_by : (query : Query) (a : Answer S) → IsAnswered a → stands (after_question dom query.at query.string m) → IsReplied (state_by dom query a m) stands (answer_reply dom (layout_at (routines_of m.program) query.at) a)
  told_by query a (v, is) h = subst (λ b. IsReplied (state_by dom query b m) stands (answer_reply dom (layout_at (routines_of m.program) query.at) b)) (sym is) (record { is = refl; after = h })

  pub state_answered : (query : Query) (v : Value S) → Questions dom m stands query.at query.string (Ok v) → IsReplied (state_turn dom query m) stands (answer_reply dom (layout_at (routines_of m.program) query.at) (answer_at dom query.at query.string m))
  state_answered query v h = told_by query (answer_at dom query.at query.string m) (says_answered (answer_at dom query.at query.string m) v h.0) h.1

  why_by_list : (query : Query) (stmts : List ℕ) (a : Answer S) → IsAnswered a → stmts ≡ upstream_at dom query.at query.string m → stands (after_question dom query.at query.string m) → IsReplied (why_by dom query a m) stands (r.Why stmts)
  why_by_list query stmts a (v, is) e h = subst (λ b. IsReplied (why_by dom query b m) stands (r.Why stmts)) (sym is) (record { is = ap r.Why (sym e); after = h })

  pub why_answered : (query : Query) (stmts : List ℕ) → Explains dom m stands query.at query.string (Ok stmts) → IsReplied (why_turn dom query m) stands (r.Why stmts)
  why_answered query stmts h = why_by_list query stmts (answer_at dom query.at query.string m) h.0 h.1 h.2

  -- a question without an answer, whose turn is refused where the program refuses the question
  module _ (query : Query) (turn : Outcome) (refuses : (why : cause.QueryRefusal) → answer_at dom query.at query.string m ≡ Refuses why → turn ≡ refused (refusal.Query why) m) {V E : Type 0} (line : Result V E) (items : V → List ℕ) where
    pub unanswered_follows : (error : QueryError) → Fails dom m stands query.at query.string error → Tells line items (query_refusal error) → IsFollowed line items turn stands
    unanswered_follows (question.Refused why) h tells =
        subst (λ (t : Outcome). IsFollowed line items t stands) (sym (refuses why h.0)) (follows line items (refused (refusal.Query why) m) stands (r.Refused (refusal.Query why)) (record { is = refl; after = h.1 }) tells)
    unanswered_follows question.Memory h tells = never_ok line (λ v. Follows turn stands (items v)) tells

    pub unanswered_halts : (error : QueryError) → Fails dom m stands query.at query.string error → IfErr line (λ _. IsHalted (missing_at dom query.at query.string m) turn m stands)
    unanswered_halts (question.Refused why) h = on_error line (IsHalted (missing_at dom query.at query.string m) turn m stands) (halted_before (missing_at dom query.at query.string m) turn m stands h.1)
    unanswered_halts question.Memory h = on_error line (IsHalted (missing_at dom query.at query.string m) turn m stands) (inl h)

-- ---- a ticket is opened

-- what refuses an answer
refuses_by : {S : Type 0} (a : Answer S) (why : cause.QueryRefusal) → refusal_in a ≡ Some why → a ≡ Refuses why
refuses_by (Refuses w) why is = let e : w ≡ why = cc in ap Refuses e
refuses_by (Answers v) why is = absurd cc

module _ {S : Type 0} (dom : Operations S) (m : Machine) where
  -- A call string that is too long is the cause of a refusal, and no other is.
  long_refused : (q : Question) → nat_lt 2 (length (string_of q)) ≡ true → refusal_asked dom q m ≡ Some LongString
  long_refused (what.State l string) long = ap refusal_in (too_long dom m.engine (routines_of m.program) l string long)
  long_refused (what.Why l string) long = ap refusal_in (too_long dom m.engine (routines_of m.program) l string long)
  long_refused what.Report long = absurd (let e : false ≡ true = long in cc)
  long_refused (what.Faults only) long = absurd (let e : false ≡ true = long in cc)

  short_unrefused : (q : Question) → nat_lt 2 (length (string_of q)) ≡ false → refusal_asked dom q m ≡ Some LongString → ⊥
  short_unrefused (what.State l string) short is =
      short_not_long dom m.engine (routines_of m.program) l string short (refuses_by (answer_at dom l string m) LongString is)
  short_unrefused (what.Why l string) short is =
      short_not_long dom m.engine (routines_of m.program) l string short (refuses_by (answer_at dom l string m) LongString is)
  short_unrefused what.Report short is = cc
  short_unrefused (what.Faults only) short is = cc

module _ {S : Type 0} (dom : Operations S) (m : Machine) (q : Question) where
  abbrev opened_by : Option cause.QueryRefusal → Outcome
  opened_by why = begin_by dom q why m

  abbrev if_room : Bool → Outcome → Outcome
  if_room full turn = if full then refused refusal.ManyTickets m else turn

  abbrev if_short : Bool → Outcome → Outcome
  if_short long turn = if long then refused (refusal.Query LongString) m else turn

  abbrev many : Bool
  many = nat_le 16 (length m.tickets)

  short_turn : nat_lt 2 (length (string_of q)) ≡ false → begin_turn dom q m ≡ if_room many (opened_by (refusal_asked dom q m))
  short_turn short = ap (λ (b : Bool). if_short b (if_room many (opened_by (refusal_asked dom q m)))) short

  long_turn : nat_lt 2 (length (string_of q)) ≡ true → begin_turn dom q m ≡ refused (refusal.Query LongString) m
  long_turn long = ap (λ (b : Bool). if_short b (if_room many (opened_by (refusal_asked dom q m)))) long

  full_turn : nat_lt 2 (length (string_of q)) ≡ false → many ≡ true → begin_turn dom q m ≡ refused refusal.ManyTickets m
  full_turn short full = short_turn short ∙ ap (λ (b : Bool). if_room b (opened_by (refusal_asked dom q m))) full

  room_turn : (why : Option cause.QueryRefusal) → nat_lt 2 (length (string_of q)) ≡ false → many ≡ false → refusal_asked dom q m ≡ why → begin_turn dom q m ≡ opened_by why
  room_turn why short room is = short_turn short ∙ (ap (λ (b : Bool). if_room b (opened_by (refusal_asked dom q m))) room ∙ ap opened_by is)

  has_room : length m.tickets < 16 → nat_le 16 (length m.tickets) ≡ false
  has_room few = grind (arith, nat_tests)

  has_none : 16 ≤ length m.tickets → nat_le 16 (length m.tickets) ≡ true
  has_none full = grind (arith, nat_tests)

  -- a question that is not refused has no call string that is too long
  is_short : refusal_asked dom q m ≡ None → nat_lt 2 (length (string_of q)) ≡ false
  is_short none =
      by_bool (nat_lt 2 (length (string_of q)))
      (λ long. let some = long_refused dom m q long in absurd cc)
      (λ short. short)

  module _ (stands : Machine → Type 0) where
    pub opened : (n : ℕ) → Opens dom m stands q (Ok n) → IsReplied (begin_turn dom q m) stands (r.Ticket m.next_ticket)
    opened n (number, few, none, h) =
        subst (λ (turn : Outcome). IsReplied turn stands (r.Ticket m.next_ticket)) (sym (room_turn None (is_short none) (has_room few) none)) (record { is = refl; after = h })

    refused_turn : (why : cause.QueryRefusal) → refusal_asked dom q m ≡ Some why → (why ≡ LongString) ⊎ (length m.tickets < 16) → begin_turn dom q m ≡ refused (refusal.Query why) m
    refused_turn why is first =
        by_bool (nat_lt 2 (length (string_of q)))
        (λ long.
        let some = long_refused dom m q long in
        let w : LongString ≡ why = cc in
        long_turn long ∙ ap (λ (u : cause.QueryRefusal). refused (refusal.Query u) m) w)
        (λ short. elim first [
          | inl w ↦ absurd (short_unrefused dom m q short (is ∙ ap Some w))
          | inr few ↦ room_turn (Some why) short (has_room few) is
        ])

    begin_refused : (why : cause.QueryRefusal) → Opens dom m stands q (Err (ask.Refused why)) → IsReplied (begin_turn dom q m) stands (r.Refused (refusal.Query why))
    begin_refused why (is, first, h) = subst (λ (turn : Outcome). IsReplied turn stands (r.Refused (refusal.Query why))) (sym (refused_turn why is first)) (record { is = refl; after = h })

    begin_full : Opens dom m stands q (Err ask.Full) → IsReplied (begin_turn dom q m) stands (r.Refused refusal.ManyTickets)
    begin_full (short, full, h) = subst (λ (turn : Outcome). IsReplied turn stands (r.Refused refusal.ManyTickets)) (sym (full_turn short (has_none full))) (record { is = refl; after = h })

    -- a ticket that is not opened
    pub unopened_stays : (error : AskError) → Opens dom m stands q (Err error) → stands m
    unopened_stays (ask.Refused why) h = h.2
    unopened_stays ask.Full h = h.2
    unopened_stays ask.Memory h = h

    pub unopened_follows : {V E : Type 0} (line : Result V E) (items : V → List ℕ) (error : AskError) → Opens dom m stands q (Err error) → Tells line items (ask_refusal error) → IsFollowed line items (begin_turn dom q m) stands
    unopened_follows line items (ask.Refused why) h tells = follows line items (begin_turn dom q m) stands (r.Refused (refusal.Query why)) (begin_refused why h) tells
    unopened_follows line items ask.Full h tells = follows line items (begin_turn dom q m) stands (r.Refused refusal.ManyTickets) (begin_full h) tells
    unopened_follows line items ask.Memory h tells = never_ok line (λ v. Follows (begin_turn dom q m) stands (items v)) tells

-- ---- what a step tells is the reply of the whole request

module _ {S : Type 0} (dom : Operations S) (m : Machine) where
  answered_unrefused : (a : Answer S) → IsAnswered a → refusal_in a ≡ None
  answered_unrefused a (v, is) = ap refusal_in is

  -- where something is told the program does not refuse the question
  told_unrefused : (q : Question) (turn : stepping.StepResult S) → IsTold dom m q turn → refusal_asked dom q m ≡ None
  told_unrefused (what.State l string) (stepped.Pending n) says = absurd says
  told_unrefused (what.State l string) (stepped.State v) says = answered_unrefused (answer_at dom l string m) (says_answered (answer_at dom l string m) v says)
  told_unrefused (what.State l string) (stepped.Why stmts) says = absurd says
  told_unrefused (what.State l string) (stepped.Report found) says = absurd says
  told_unrefused (what.State l string) (stepped.Faults found) says = absurd says
  told_unrefused (what.Why l string) (stepped.Pending n) says = absurd says
  told_unrefused (what.Why l string) (stepped.State v) says = absurd says
  told_unrefused (what.Why l string) (stepped.Why stmts) says = answered_unrefused (answer_at dom l string m) says.0
  told_unrefused (what.Why l string) (stepped.Report found) says = absurd says
  told_unrefused (what.Why l string) (stepped.Faults found) says = absurd says
  told_unrefused what.Report turn says = refl
  told_unrefused (what.Faults only) turn says = refl

  state_replied : (query : Query) (a : Answer S) → (state_by dom query a m).reply ≡ answer_reply dom (layout_at (routines_of m.program) query.at) a
  state_replied query (Refuses why) = refl
  state_replied query (Answers v) = refl

  why_replied : (query : Query) (stmts : List ℕ) (a : Answer S) → IsAnswered a → stmts ≡ upstream_at dom query.at query.string m → (why_by dom query a m).reply ≡ r.Why stmts
  why_replied query stmts a (v, is) e = ap (λ (b : Answer S). (why_by dom query b m).reply) is ∙ ap r.Why (sym e)

  -- The line of what is told, after which a machine with the same program stands, is that of the reply.
  module _ {V E : Type 0} (line : Result V E) (items : V → List ℕ) (stands : Machine → Type 0) (k : Machine) (same : k.program ≡ m.program) (h : stands k) where
    state_written : (l : Location) (string : List ℕ) (turn : stepping.StepResult S) → IsTold dom m (what.State l string) turn → TellsTurn line items dom stands l None turn → Writes line items (whole_turn dom (what.State l string) m).reply
    state_written l string (stepped.Pending n) says tells = absurd says
    state_written l string (stepped.State v) says tells =
        let a = answer_at dom l string m in
        subst (Writes line items) (sym (state_replied (query_of l string) a)) (
        subst (λ (program : List Procedure). Writes line items (answer_reply dom (layout_at (routines_of program) l) a)) same (tells k a h says))
    state_written l string (stepped.Why stmts) says tells = absurd says
    state_written l string (stepped.Report found) says tells = absurd says
    state_written l string (stepped.Faults found) says tells = absurd says

    why_written : (l : Location) (string : List ℕ) (turn : stepping.StepResult S) → IsTold dom m (what.Why l string) turn → TellsTurn line items dom stands l None turn → Writes line items (whole_turn dom (what.Why l string) m).reply
    why_written l string (stepped.Pending n) says tells = absurd says
    why_written l string (stepped.State v) says tells = absurd says
    why_written l string (stepped.Why stmts) says tells =
        subst (Writes line items) (sym (why_replied (query_of l string) stmts (answer_at dom l string m) says.0 says.1)) tells
    why_written l string (stepped.Report found) says tells = absurd says
    why_written l string (stepped.Faults found) says tells = absurd says

    report_written : (turn : stepping.StepResult S) → IsTold dom m what.Report turn → TellsTurn line items dom stands (told_at what.Report) None turn → Writes line items (whole_turn dom what.Report m).reply
    report_written (stepped.Pending n) says tells = absurd says
    report_written (stepped.State v) says tells = absurd says
    report_written (stepped.Why stmts) says tells = absurd says
    report_written (stepped.Report found) says tells = subst (λ (fs : List Finding). Writes line items (r.Report fs)) says tells
    report_written (stepped.Faults found) says tells = absurd says

    faults_written : (only : Option FaultVerdict) (turn : stepping.StepResult S) → IsTold dom m (what.Faults only) turn → TellsTurn line items dom stands (told_at (what.Faults only)) only turn → Writes line items (whole_turn dom (what.Faults only) m).reply
    faults_written only (stepped.Pending n) says tells = absurd says
    faults_written only (stepped.State v) says tells = absurd says
    faults_written only (stepped.Why stmts) says tells = absurd says
    faults_written only (stepped.Report found) says tells = absurd says
    faults_written only (stepped.Faults found) says tells = subst (λ (fs : List FaultFinding). Writes line items (r.Faults (with_verdict only fs))) says tells

    whole_written : (q : Question) (turn : stepping.StepResult S) → IsTold dom m q turn → TellsTurn line items dom stands (told_at q) (told_only q) turn → Writes line items (whole_turn dom q m).reply
    whole_written (what.State l string) turn says tells = state_written l string turn says tells
    whole_written (what.Why l string) turn says tells = why_written l string turn says tells
    whole_written what.Report turn says tells = report_written turn says tells
    whole_written (what.Faults only) turn says tells = faults_written only turn says tells

-- ---- a ticket is stepped

module _ {S : Type 0} (dom : Operations S) (m : Machine) (stands : Machine → Type 0) (most : ℕ) where
  -- the step of a ticket whose question the program does not refuse
  abbrev stepped_if : Ticket → Bool → Outcome
  stepped_if t more = if more then goes (r.Pending most) (after_step dom t most m) else goes (whole_turn dom t.question m).reply (after_last_step dom t m)

  unrefused_step : (t : Ticket) (more : Bool) → refusal_asked dom t.question m ≡ None → nat_lt most (length (missing_asked dom t.question m)) ≡ more → step_of dom most (Some t) m ≡ stepped_if t more
  unrefused_step t more none is = ap (λ (o : Option cause.QueryRefusal). step_by dom t most o m) none ∙ ap (stepped_if t) is

  pending_by : (t : Ticket) → refusal_asked dom t.question m ≡ None → most < length (missing_asked dom t.question m) → stands (after_step dom t most m) → IsReplied (step_of dom most (Some t) m) stands (r.Pending most)
  pending_by t none more h =
      let test : nat_lt most (length (missing_asked dom t.question m)) ≡ true = grind (arith, nat_tests) in
      subst (λ (turn : Outcome). IsReplied turn stands (r.Pending most)) (sym (unrefused_step t true none test)) (record { is = refl; after = h })

  done_by : (t : Ticket) (turn : stepping.StepResult S) → IsDone dom m stands t most turn → IsReplied (step_of dom most (Some t) m) stands (whole_turn dom t.question m).reply
  done_by t turn h =
      let few = h.few in
      let test : nat_lt most (length (missing_asked dom t.question m)) ≡ false = grind (arith, nat_tests) in
      subst (λ (turn : Outcome). IsReplied turn stands (whole_turn dom t.question m).reply) (sym (unrefused_step t false (told_unrefused dom m t.question turn h.says) test)) (record { is = refl; after = h.after })

  step_pending : (t : Ticket) (n : ℕ) → IsPending dom m stands t most n → IsReplied (step_of dom most (Some t) m) stands (r.Pending n)
  step_pending t n h =
      subst (λ (k : ℕ). IsReplied (step_of dom most (Some t) m) stands (r.Pending k)) (sym h.filled) (pending_by t h.answers h.more h.after)

  -- Where a step tells something its line is that of the turn, ..
  module _ {V E : Type 0} (line : Result V E) (items : V → List ℕ) (t : Ticket) where
    done_follows : (turn : stepping.StepResult S) → IsDone dom m stands t most turn → TellsTurn line items dom stands (told_at t.question) (told_only t.question) turn → IsFollowed line items (step_of dom most (Some t) m) stands
    done_follows turn h tells =
        follows line items (step_of dom most (Some t) m) stands (whole_turn dom t.question m).reply (done_by t turn h) (
        whole_written dom m line items stands (after_last_step dom t m) refl h.after t.question turn h.says tells)

    open_follows : (turn : stepping.StepResult S) → IsStepOf dom m stands most (Some t) (Ok turn) → TellsTurn line items dom stands (told_at t.question) (told_only t.question) turn → IsFollowed line items (step_of dom most (Some t) m) stands
    open_follows (stepped.Pending n) h tells = follows line items (step_of dom most (Some t) m) stands (r.Pending n) (step_pending t n h) tells
    open_follows (stepped.State v) h tells = done_follows (stepped.State v) h tells
    open_follows (stepped.Why stmts) h tells = done_follows (stepped.Why stmts) h tells
    open_follows (stepped.Report found) h tells = done_follows (stepped.Report found) h tells
    open_follows (stepped.Faults found) h tells = done_follows (stepped.Faults found) h tells

  -- .. and where that is not written its machine stands.
  module _ {V E : Type 0} (line : Result V E) (t : Ticket) where
    abbrev Halts : Type 0
    Halts = IfErr line (λ _. IsHalted (missing_asked dom t.question m) (step_of dom most (Some t) m) m stands)

    open_halts : (turn : stepping.StepResult S) → IsStepOf dom m stands most (Some t) (Ok turn) → Halts
    open_halts (stepped.Pending n) h = halted_after line _ _ m stands (r.Pending n) (step_pending t n h)
    open_halts (stepped.State v) h = halted_after line _ _ m stands _ (done_by t (stepped.State v) h)
    open_halts (stepped.Why stmts) h = halted_after line _ _ m stands _ (done_by t (stepped.Why stmts) h)
    open_halts (stepped.Report found) h = halted_after line _ _ m stands _ (done_by t (stepped.Report found) h)
    open_halts (stepped.Faults found) h = halted_after line _ _ m stands _ (done_by t (stepped.Faults found) h)

  pub step_follows : {V E : Type 0} (line : Result V E) (items : V → List ℕ) (o : Option Ticket) (q : Question) → Some q ≡ option_map (λ (t : Ticket). t.question) o →
      (turn : stepping.StepResult S) → IsStepOf dom m stands most o (Ok turn) → TellsTurn line items dom stands (told_at q) (told_only q) turn → IsFollowed line items (step_of dom most o m) stands
  step_follows line items None q there turn h tells = absurd (let e = h.0 in cc)
  step_follows line items (Some t) q there turn h tells =
      let same : q ≡ t.question = cc in
      open_follows line items t turn h (subst (λ (asked : Question). TellsTurn line items dom stands (told_at asked) (told_only asked) turn) same tells)

  pub step_halts : {V E : Type 0} (line : Result V E) (o : Option Ticket) (turn : stepping.StepResult S) → IsStepOf dom m stands most o (Ok turn) → IfErr line (λ _. IsHalted (missing_for_ticket dom o m) (step_of dom most o m) m stands)
  step_halts line None turn h = absurd (let e = h.0 in cc)
  step_halts line (Some t) turn h = open_halts line t turn h

  -- a ticket that is not stepped
  gone_replied : (t : Ticket) → IsGone dom m stands t most → IsReplied (step_of dom most (Some t) m) stands (r.Refused refusal.Gone)
  gone_replied t h = subst (λ (o : Option cause.QueryRefusal). IsReplied (step_by dom t most o m) stands (r.Refused refusal.Gone)) (sym h.refused) (record { is = refl; after = h.after })

  pub unstepped_follows : {V E : Type 0} (line : Result V E) (items : V → List ℕ) (o : Option Ticket) (error : StepError) → IsStepOf dom m stands most o (Err error) → Tells line items (step_refusal error) → IsFollowed line items (step_of dom most o m) stands
  unstepped_follows line items None error h tells =
      let same : error ≡ step.NoTicket = let e = h.0 in cc in
      follows line items (refused refusal.NoTicket m) stands (r.Refused refusal.NoTicket) (record { is = refl; after = h.1 }) (subst (λ (e : StepError). Tells line items (step_refusal e)) same tells)
  unstepped_follows line items (Some t) step.NoTicket h tells = absurd h
  unstepped_follows line items (Some t) step.Gone h tells = follows line items (step_of dom most (Some t) m) stands (r.Refused refusal.Gone) (gone_replied t h) tells
  unstepped_follows line items (Some t) step.Memory h tells = never_ok line (λ v. Follows (step_of dom most (Some t) m) stands (items v)) tells

  pub unstepped_halts : {V E : Type 0} (line : Result V E) (o : Option Ticket) (error : StepError) → IsStepOf dom m stands most o (Err error) → IfErr line (λ _. IsHalted (missing_for_ticket dom o m) (step_of dom most o m) m stands)
  unstepped_halts line None error h = on_error line (IsHalted [] (refused refusal.NoTicket m) m stands) (halted_before [] (refused refusal.NoTicket m) m stands h.1)
  unstepped_halts line (Some t) step.NoTicket h = absurd h
  unstepped_halts line (Some t) step.Gone h = halted_after line (missing_asked dom t.question m) (step_of dom most (Some t) m) m stands (r.Refused refusal.Gone) (gone_replied t h)
  unstepped_halts line (Some t) step.Memory h = on_error line (IsHalted (missing_asked dom t.question m) (step_of dom most (Some t) m) m stands) (inl h)

-- ---- a ticket is closed

module _ (m : Machine) (stands : Machine → Type 0) where
  pub cancel_done : (number : ℕ) (o : Option Ticket) (done : Unit {0}) → IfSome o (λ t. t.number ≡ number) → Cancels m stands number o (Ok done) → IsReplied (cancel_by o m) stands (r.Cancelled number)
  cancel_done number None done same h = absurd h
  cancel_done number (Some t) done same h =
      subst (λ (k : ℕ). IsReplied (goes (r.Cancelled t.number) (after_close t.number m)) stands (r.Cancelled k)) same (record { is = refl; after = subst (λ (k : ℕ). stands (after_close k m)) (sym same) h })

  pub cancel_stays : (number : ℕ) (o : Option Ticket) (none : NoTicket) → Cancels m stands number o (Err none) → stands m
  cancel_stays number None none h = h
  cancel_stays number (Some t) none h = absurd h

  -- ---- undo and redo

  move_none : (side : List (List Procedure)) (otherwise : Refusal) (there : Machine) → Goes m stands side there (Err undo.Nothing) → IsReplied (move_turn side otherwise there m) stands (r.Refused otherwise)
  move_none side otherwise there h = subst (λ (ps : List (List Procedure)). IsReplied (move_turn ps otherwise there m) stands (r.Refused otherwise)) (sym h.0) (record { is = refl; after = h.1 })

  pub unmoved_stays : (side : List (List Procedure)) (there : Machine) (error : UndoError) → Goes m stands side there (Err error) → stands m
  unmoved_stays side there undo.Nothing h = h.1
  unmoved_stays side there undo.Memory h = h

  pub unmoved_follows : {V E : Type 0} (line : Result V E) (items : V → List ℕ) (side : List (List Procedure)) (otherwise : Refusal) (there : Machine) (error : UndoError) → Goes m stands side there (Err error) → Tells line items (move_refusal error otherwise) → IsFollowed line items (move_turn side otherwise there m) stands
  unmoved_follows line items side otherwise there undo.Nothing h tells = follows line items (move_turn side otherwise there m) stands (r.Refused otherwise) (move_none side otherwise there h) tells
  unmoved_follows line items side otherwise there undo.Memory h tells = never_ok line (λ v. Follows (move_turn side otherwise there m) stands (items v)) tells
