-- After quiet lines a question fills no more, and neither does a step.
use Rattle.std.proofs.Common.{◌≡◌, ◌∙◌, ◌≤◌, ◌-◌, ℕ, min, nat_lt, Bool, true, false, List, ◌++◌, length, take, Option, Some, None, Result, Ok, if◌then◌else◌, refl, sym, ap, subst, arith, length-append}
use Rattle.std.proofs.lemmas.Bool.{ltb-true, ltb-false}
use Rattle.std.proofs.lemmas.List.{length-take}
use Rattle.imp_words.specs.declared.refusal.QueryRefusal.{QueryRefusal}
use Rattle.domain_laws.specs.Operations.{Operations}
use Rattle.batch_meaning.specs.Values.{Value, State, Over}
use Rattle.batch_meaning.specs.Answers.{Answer, Refuses, Answers}
use Rattle.imp_syntax.specs.declared.edit.Location.{Location}
use Rattle.cell_names.specs.Paths.{CellName}
use Rattle.serve_script.specs.Lines.{kept}
use Rattle.serve_script.specs.Replies.{machine_after, next_to}
use Rattle.daig_machine.specs.Machine.{Machine, Ticket, ticket_of}
use Rattle.daig_machine.specs.Turns.{answer_at, after_last_step, missing_asked, missing_at, after_step, refusal_asked, refusal_in}
use Rattle.daig_machine.specs.declared.question.Question.{Question}
use Rattle.daig_machine.specs.declared.question.Question.TheVariants as what
use Rattle.request_json.specs.declared.error.ReadError.{ReadError}
use Rattle.request_json.specs.declared.request.Query.{Query}
use Rattle.request_json.specs.declared.request.Request.{Request}
use Rattle.request_json.specs.declared.request.Request.TheVariants as q
use Rattle.request_json.specs.declared.reply.Reply.TheVariants as r
use Rattle.request_json.specs.Requests.{query_of, request_of}
use Rattle.serve_answers.specs.Readings.{Readings}
use Rattle.serve_answers.specs.Turns.{Outcome, goes, state_reply, state_by, why_by, step_by, step_of, whole_turn}
use Rattle.serve_answers.specs.Lines.{Served, request_turn, read_turn, server}
use Rattle.serve_answers.specs.Fine.{opening}
use Rattle.serve_answers.specs.Histories.{Asks, AnswerAlike, IsKeptAs}
use Rattle.serve_answers.proofs.Histories.{same_alike}
use Rattle.reuse_laws.specs.Shorter as shorter
use Rattle.reuse_laws.specs.Shorter.{IsNoLonger, IsQuestion, IsShorter, IsStepNoLonger, KeepsMore, MomentsShorten, NeverLonger}
use Rattle.reuse_laws.proofs.Cells.{HasCells, after_cells, opening_cells}
use Rattle.reuse_laws.proofs.Grown.{quiet_more}
use Rattle.reuse_laws.proofs.Shorter.{more_is_shorter}

-- ---- what a turn fills

abbrev gain : Machine → Outcome → ℕ
gain m turn = length turn.machine.kept - length m.kept

gained : (ks xs : List CellName) → length (ks ++ xs) - length ks ≡ length xs
gained ks xs = let both = length-append ks xs in omega arith

gains_less : (ks xs ls ys : List CellName) → length xs ≤ length ys → length (ks ++ xs) - length ks ≤ length (ls ++ ys) - length ls
gains_less ks xs ls ys less = let first = gained ks xs in let second = gained ls ys in omega arith

no_gain : (n a : ℕ) → n - n ≤ a
no_gain n a = omega arith

least_less : (n a b : ℕ) → a ≤ b → min n a ≤ min n b
least_less n a b less = omega arith

-- ---- a step of a ticket, where so many names are missing

-- what it fills
step_gain : (kept missing : List CellName) (n : ℕ) (b : Bool) (turn other : Outcome) → nat_lt n (length missing) ≡ b → turn.machine.kept ≡ kept ++ take n missing → other.machine.kept ≡ kept ++ missing →
    length (if b then turn else other).machine.kept - length kept ≡ min n (length missing)
step_gain kept missing n true turn other is one both =
    ap (λ (ks : List CellName). length ks - length kept) one ∙ gained kept (take n missing) ∙ length-take n missing
step_gain kept missing n false turn other is one both =
    let few = ltb-false n (length missing) is in
    let all : min n (length missing) ≡ length missing = omega arith in
    ap (λ (ks : List CellName). length ks - length kept) both ∙ gained kept missing ∙ sym all

module _ {S : Type 0} (dom : Operations S) (m n : Machine) (less : IsShorter dom m n) (same : AnswerAlike dom m n) where
  -- ---- questions

  state_less : (query : Query) (a : Answer S) → gain n (state_by dom query a n) ≤ gain m (state_by dom query a m)
  state_less query (Refuses why) = no_gain (length n.kept) _
  state_less query (Answers v) = gains_less n.kept (missing_at dom query.at query.string n) m.kept (missing_at dom query.at query.string m) (less.question query.at query.string).most

  why_less : (query : Query) (a : Answer S) → gain n (why_by dom query a n) ≤ gain m (why_by dom query a m)
  why_less query (Refuses why) = no_gain (length n.kept) _
  why_less query (Answers v) = gains_less n.kept (missing_at dom query.at query.string n) m.kept (missing_at dom query.at query.string m) (less.question query.at query.string).most

  request_less : (first second : Readings) (request : Request) → IsQuestion request → gain n (request_turn second dom request n) ≤ gain m (request_turn first dom request m)
  unfolding request_turn
  request_less first second (q.State query) is =
      subst (λ (a : Answer S). gain n (state_by dom query a n) ≤ gain m (state_by dom query (answer_at dom query.at query.string m) m)) (same query.at query.string) (state_less query (answer_at dom query.at query.string m))
  request_less first second q.Report is = gains_less n.kept _ m.kept _ less.report.most
  request_less first second (q.Faults only) is = gains_less n.kept _ m.kept _ less.faults.most
  request_less first second q.Cost is = absurd is
  request_less first second q.Program is = absurd is
  request_less first second q.Listing is = absurd is
  request_less first second (q.Run inputs fuel at) is = absurd is
  request_less first second (q.Replace id text) is = absurd is
  request_less first second (q.Insert place text) is = absurd is
  request_less first second (q.Delete id) is = absurd is
  request_less first second (q.Guard id text) is = absurd is
  request_less first second (q.Declare proc name kind) is = absurd is
  request_less first second (q.Add before text) is = absurd is
  request_less first second (q.Drop proc) is = absurd is
  request_less first second (q.Why query) is =
      subst (λ (a : Answer S). gain n (why_by dom query a n) ≤ gain m (why_by dom query (answer_at dom query.at query.string m) m)) (same query.at query.string) (why_less query (answer_at dom query.at query.string m))
  request_less first second q.Undo is = absurd is
  request_less first second q.Redo is = absurd is
  request_less first second (q.Begin task) is = absurd is
  request_less first second (q.Step ticket count) is = absurd is
  request_less first second (q.Cancel ticket) is = absurd is

  -- ---- steps

  -- Any question misses no more, and is refused alike.
  asked_less : (question : Question) → length (missing_asked dom question n) ≤ length (missing_asked dom question m)
  asked_less (what.State l string) = (less.question l string).most
  asked_less (what.Why l string) = (less.question l string).most
  asked_less what.Report = less.report.most
  asked_less (what.Faults only) = less.faults.most

  refused_alike : (question : Question) → refusal_asked dom question m ≡ refusal_asked dom question n
  refused_alike (what.State l string) = ap refusal_in (same l string)
  refused_alike (what.Why l string) = ap refusal_in (same l string)
  refused_alike what.Report = refl
  refused_alike (what.Faults only) = refl

  step_by_less : (t : Ticket) (count : ℕ) (why : Option QueryRefusal) → gain n (step_by dom t count why n) ≤ gain m (step_by dom t count why m)
  step_by_less t count (Some why) = no_gain (length n.kept) _
  step_by_less t count None =
      let few = missing_asked dom t.question n in
      let all = missing_asked dom t.question m in
      let first = step_gain n.kept few count (nat_lt count (length few)) (goes (r.Pending count) (after_step dom t count n)) (goes (whole_turn dom t.question n).reply (after_last_step dom t n)) refl refl refl in
      let second = step_gain m.kept all count (nat_lt count (length all)) (goes (r.Pending count) (after_step dom t count m)) (goes (whole_turn dom t.question m).reply (after_last_step dom t m)) refl refl refl in
      subst (λ (x : ℕ). x ≤ gain m (step_by dom t count None m)) (sym first) (
      subst (λ (x : ℕ). min count (length few) ≤ x) (sym second) (least_less count (length few) (length all) (asked_less t.question)))

  step_less : (count : ℕ) (t : Option Ticket) → gain n (step_of dom count t n) ≤ gain m (step_of dom count t m)
  step_less count None = no_gain (length n.kept) _
  step_less count (Some t) =
      subst (λ (why : Option QueryRefusal). gain n (step_by dom t count why n) ≤ gain m (step_by dom t count (refusal_asked dom t.question m) m)) (refused_alike t.question) (
      step_by_less t count (refusal_asked dom t.question m))

  -- a whole request is not pending
  told_now : (l : Location) (v : Value S) (count : ℕ) → state_reply dom l v n ≡ r.Pending count → ⊥
  told_now l (State s) count is = cc
  told_now l (Over head chain) count is = cc

  state_now : (query : Query) (a : Answer S) (count : ℕ) → (state_by dom query a n).reply ≡ r.Pending count → ⊥
  state_now query (Refuses why) count is = cc
  state_now query (Answers v) count is = told_now query.at v count is

  why_now : (query : Query) (a : Answer S) (count : ℕ) → (why_by dom query a n).reply ≡ r.Pending count → ⊥
  why_now query (Refuses why) count is = cc
  why_now query (Answers v) count is = cc

  whole_now : (question : Question) (count : ℕ) → (whole_turn dom question n).reply ≡ r.Pending count → ⊥
  whole_now (what.State l string) count is = state_now (query_of l string) (answer_at dom l string n) count is
  whole_now (what.Why l string) count is = why_now (query_of l string) (answer_at dom l string n) count is
  whole_now what.Report count is = cc
  whole_now (what.Faults only) count is = cc

  either_pending : (t : Ticket) (count told_count : ℕ) (few all : ℕ) (b c : Bool) → few ≤ all → nat_lt count few ≡ b → nat_lt count all ≡ c →
      (if b then goes (r.Pending count) (after_step dom t count n) else goes (whole_turn dom t.question n).reply (after_last_step dom t n)).reply ≡ r.Pending told_count →
      (if c then goes (r.Pending count) (after_step dom t count m) else goes (whole_turn dom t.question m).reply (after_last_step dom t m)).reply ≡ r.Pending told_count
  either_pending t count told_count few all true true most is_few is_all pending = pending
  either_pending t count told_count few all true false most is_few is_all pending =
      let more = ltb-true count few is_few in let no_more = ltb-false count all is_all in absurd (omega arith)
  either_pending t count told_count few all false c most is_few is_all pending = absurd (whole_now t.question told_count pending)

  step_by_pending : (t : Ticket) (count told_count : ℕ) (why : Option QueryRefusal) → (step_by dom t count why n).reply ≡ r.Pending told_count → (step_by dom t count why m).reply ≡ r.Pending told_count
  step_by_pending t count told_count (Some why) pending = absurd cc
  step_by_pending t count told_count None pending =
      let few = length (missing_asked dom t.question n) in
      let all = length (missing_asked dom t.question m) in
      either_pending t count told_count few all (nat_lt count few) (nat_lt count all) (asked_less t.question) refl refl pending

  step_pending : (count told_count : ℕ) (t : Option Ticket) → (step_of dom count t n).reply ≡ r.Pending told_count → (step_of dom count t m).reply ≡ r.Pending told_count
  step_pending count told_count None pending = absurd cc
  step_pending count told_count (Some t) pending =
      step_by_pending t count told_count (refusal_asked dom t.question m) (
      subst (λ (why : Option QueryRefusal). (step_by dom t count why n).reply ≡ r.Pending told_count) (sym (refused_alike t.question)) pending)

-- ---- lines

module _ {S : Type 0} (dom : Operations S) where
  -- what a line fills, by the request that it is read as
  fills_as : (s : Served) (line text : List ℕ) (request : Request) → kept line ≡ Some text → request_of text ≡ Ok request →
      shorter.filled_by dom s line ≡ gain s.machine (request_turn s.readings dom request s.machine)
  fills_as s line text request short read =
      ap (λ (o : Option (List ℕ)). length (next_to (server dom) s o).machine.kept - length s.machine.kept) short
      ∙ ap (λ (o : Result Request ReadError). gain s.machine (read_turn s.readings dom o s.machine)) read

  -- a bound on what a line fills in two machines
  fills_less : (s t : Served) (line text : List ℕ) (request : Request) → kept line ≡ Some text → request_of text ≡ Ok request →
      gain t.machine (request_turn t.readings dom request t.machine) ≤ gain s.machine (request_turn s.readings dom request s.machine) →
      shorter.filled_by dom t line ≤ shorter.filled_by dom s line
  fills_less s t line text request short read less =
      subst (λ (x : ℕ). x ≤ shorter.filled_by dom s line) (sym (fills_as t line text request short read)) (
      subst (λ (x : ℕ). gain t.machine (request_turn t.readings dom request t.machine) ≤ x) (sym (fills_as s line text request short read)) less)

  module _ (s t : Served) (less : IsShorter dom s.machine t.machine) (same : AnswerAlike dom s.machine t.machine) where
    question_less : (line : List ℕ) → IsKeptAs IsQuestion line → shorter.filled_by dom t line ≤ shorter.filled_by dom s line
    question_less line asks =
        fills_less s t line asks.text asks.reads.request asks.short asks.reads.read (request_less dom s.machine t.machine less same s.readings t.readings asks.reads.request asks.reads.kind)

    reads_step : (line : List ℕ) (ticket n : ℕ) (asks : Asks (q.Step ticket n) line) → request_of asks.text ≡ Ok (q.Step ticket n)
    reads_step line ticket n asks = asks.reads.read ∙ ap (λ (x : Request). Ok x) asks.reads.kind

    step_turn_less : (ticket n : ℕ) → ticket_of ticket t.machine.tickets ≡ ticket_of ticket s.machine.tickets →
        gain t.machine (request_turn t.readings dom (q.Step ticket n) t.machine) ≤ gain s.machine (request_turn s.readings dom (q.Step ticket n) s.machine)
    unfolding request_turn
    step_turn_less ticket n open_both =
        subst (λ (o : Option Ticket). gain t.machine (step_of dom n o t.machine) ≤ gain s.machine (step_of dom n (ticket_of ticket s.machine.tickets) s.machine)) (sym open_both) (
        step_less dom s.machine t.machine less same n (ticket_of ticket s.machine.tickets))

    step_turn_pending : (ticket n count : ℕ) → ticket_of ticket t.machine.tickets ≡ ticket_of ticket s.machine.tickets →
        (request_turn t.readings dom (q.Step ticket n) t.machine).reply ≡ r.Pending count → (request_turn s.readings dom (q.Step ticket n) s.machine).reply ≡ r.Pending count
    unfolding request_turn
    step_turn_pending ticket n count open_both pending =
        step_pending dom s.machine t.machine less same n count (ticket_of ticket s.machine.tickets) (
        subst (λ (o : Option Ticket). (step_of dom n o t.machine).reply ≡ r.Pending count) open_both pending)

    step_line : (line : List ℕ) (ticket n : ℕ) → Asks (q.Step ticket n) line → ticket_of ticket t.machine.tickets ≡ ticket_of ticket s.machine.tickets → IsStepNoLonger dom s t line ticket n
    step_line line ticket n asks open_both = record {
      fills = fills_less s t line asks.text (q.Step ticket n) asks.short (reads_step line ticket n asks) (step_turn_less ticket n open_both);
      pending = λ other count replied.
          let read = reads_step line ticket n other in
          subst (λ (o : Result Request ReadError). (read_turn s.readings dom o s.machine).reply ≡ r.Pending count) (sym read) (
          step_turn_pending ticket n count open_both (subst (λ (o : Result Request ReadError). (read_turn t.readings dom o t.machine).reply ≡ r.Pending count) read replied));
    }

  never_longer : (s : Served) → HasCells dom s.machine → NeverLonger dom s
  never_longer s has between quiet =
      let t = machine_after (server dom) s between in
      let there = after_cells dom s between has in
      let more = quiet_more dom s between quiet in
      let less = more_is_shorter dom s.machine t.machine has.fine.present.fine.fit has.cells there.cells more in
      let same = (same_alike dom s t more.holds).answers in
      record { question = question_less s t less same; step = step_line s t less same }

  pub moments_shorten : MomentsShorten dom
  moments_shorten readings engine source program is before =
      let first = opening readings engine program in
      never_longer (machine_after (server dom) first before) (after_cells dom first before (opening_cells dom readings engine source program is))
