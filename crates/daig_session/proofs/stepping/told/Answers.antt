use Rattle.std.proofs.Common.{◌≡◌, ◌*◌, ◌+◌, ◌≤◌, ℕ, List, length, Some, sym, ap, subst, refl, ◌∙◌, arith}
use Rattle.imp_flow.specs.Plans.{Plan}
use Rattle.imp_check.specs.Slots.{routines_of}
use Rattle.batch_meaning.specs.Answers.{In, answer, procedure_of}
use Rattle.cell_rows.specs.Targets.{Target, targets}
use Rattle.cell_graph.specs.Same.{same_name}
use Rattle.cell_graph.proofs.Same.{same_is}
use Rattle.daig_query.specs.Answered.{AreFilled, Covers, Says}
use Rattle.why_slice.specs.Claims.{Suffices}
use Rattle.daig_machine.specs.Machine.{Machine}
use Rattle.daig_machine.specs.Turns.{answer_at, targets_of}
use Rattle.daig_machine.specs.declared.question.Question.{Question}
use Rattle.daig_machine.specs.declared.question.Question.TheVariants as asks
use Rattle.daig_tickets.specs.declared.tickets.OpenTicket.{OpenTicket}
use Rattle.daig_session.specs.declared.course.Course.{Course}
use Rattle.daig_session.specs.declared.stepping.StepResult.TheVariants as told
use Rattle.daig_session.specs.Books.{flow_in, machine_of}
use Rattle.daig_session.specs.Going.{IsAnswered, IsAsked, IsAtOne}
use Rattle.daig_session.specs.Turns.{chains_read, IsTold, SoundDone}
use Rattle.daig_session.proofs.Asked.{asked_answered, targets_are}
use Rattle.daig_session.proofs.Explained.{listed_is, upstream_of, IsListed}
use Rattle.daig_session.proofs.TicketLemmas.{read_is}
use Rattle.daig_session.proofs.stepping.told.Goals as goal
use Rattle.base_values.proofs.Lists.{get_some}

pub flow-flow-requires : goal.flow-flow-requires
flow-flow-requires g c = record { set = c.requires.ready.order.set }

pub read_answer-requires : goal.read_answer-requires
read_answer-requires g c =
    let dom = g.D.Domain.operations c.args.engine.now.domain in
    let book = c.args.book.now in
    let os = book.tickets.open_ones.items in
    let p = get_some os c.args.place c.requires.there in
    let one = c.index-one.result.now in
    let same = read_is os c.args.place one p.0 c.index-one.ensures p.1 in
    let filled = subst (λ q. IsAtOne q (λ l string. (us : List Target) × IsAsked (flow_in book).program l string us × AreFilled dom c.args.engine.now.store c.args.walk.now (flow_in book) us)) (ap (λ (x : OpenTicket Course). x.question) (sym same) ∙ c.in-State.is) (c.requires.filled p.0 p.1) in
    record { filled = (flow_in book, c.in-State.at, c.in-State.string, filled.0, filled.1, filled.2) }

pub returns-in_err-value-in-State-clause-ticked : goal.returns-in_err-value-in-State-clause-ticked
returns-in_err-value-in-State-clause-ticked g c = λ m is o e.
    let dom = g.D.Domain.operations c.args.engine.now.domain in
    let book = c.args.book.now in
    let os = book.tickets.open_ones.items in
    let p = get_some os c.args.place c.requires.there in
    let one = c.index-one.result.now in
    let same = read_is os c.args.place one p.0 c.index-one.ensures p.1 in
    let filled = subst (λ q. IsAtOne q (λ l string. (us : List Target) × IsAsked (flow_in book).program l string us × AreFilled dom c.args.engine.now.store c.args.walk.now (flow_in book) us)) (ap (λ (x : OpenTicket Course). x.question) (sym same) ∙ c.in-State.is) (c.requires.filled p.0 p.1) in
    let asks : asks.State c.in-State.at c.in-State.string ≡ o.question = sym c.in-State.is ∙ ap (λ (x : OpenTicket Course). x.question) (read_is os c.args.place one o c.index-one.ensures e) in
    let read = c.read_answer.ensures.ticked (flow_in book) filled.0 filled.2 in
    subst (λ (q : Question). c.read_answer.new.steps ≤ c.args.steps.now + g.D.Domain.counted c.args.engine.now.domain * (2 * chains_read m q)) asks (
    subst (λ (z : Machine). c.read_answer.new.steps ≤ c.args.steps.now + g.D.Domain.counted c.args.engine.now.domain * (2 * length (targets_of z c.in-State.at c.in-State.string))) is (
    subst (λ us. c.read_answer.new.steps ≤ c.args.steps.now + g.D.Domain.counted c.args.engine.now.domain * (2 * length us)) (sym (targets_are (machine_of book m.kept) c.in-State.at c.in-State.string filled.0 filled.1)) read))

pub returns-in_ok-value-in-State-clause-ticked : goal.returns-in_ok-value-in-State-clause-ticked
returns-in_ok-value-in-State-clause-ticked g c = λ m is o e.
    let dom = g.D.Domain.operations c.args.engine.now.domain in
    let book = c.args.book.now in
    let os = book.tickets.open_ones.items in
    let p = get_some os c.args.place c.requires.there in
    let one = c.index-one.result.now in
    let same = read_is os c.args.place one p.0 c.index-one.ensures p.1 in
    let filled = subst (λ q. IsAtOne q (λ l string. (us : List Target) × IsAsked (flow_in book).program l string us × AreFilled dom c.args.engine.now.store c.args.walk.now (flow_in book) us)) (ap (λ (x : OpenTicket Course). x.question) (sym same) ∙ c.in-State.is) (c.requires.filled p.0 p.1) in
    let asks : asks.State c.in-State.at c.in-State.string ≡ o.question = sym c.in-State.is ∙ ap (λ (x : OpenTicket Course). x.question) (read_is os c.args.place one o c.index-one.ensures e) in
    let read = c.read_answer.ensures.ticked (flow_in book) filled.0 filled.2 in
    subst (λ (q : Question). c.read_answer.new.steps ≤ c.args.steps.now + g.D.Domain.counted c.args.engine.now.domain * (2 * chains_read m q)) asks (
    subst (λ (z : Machine). c.read_answer.new.steps ≤ c.args.steps.now + g.D.Domain.counted c.args.engine.now.domain * (2 * length (targets_of z c.in-State.at c.in-State.string))) is (
    subst (λ us. c.read_answer.new.steps ≤ c.args.steps.now + g.D.Domain.counted c.args.engine.now.domain * (2 * length us)) (sym (targets_are (machine_of book m.kept) c.in-State.at c.in-State.string filled.0 filled.1)) read))

pub returns-in_ok-value-in-State-clause-says : goal.returns-in_ok-value-in-State-clause-says
returns-in_ok-value-in-State-clause-says g c = λ m is o e.
    let dom = g.D.Domain.operations c.args.engine.now.domain in
    let book = c.args.book.now in
    let os = book.tickets.open_ones.items in
    let p = get_some os c.args.place c.requires.there in
    let one = c.index-one.result.now in
    let same = read_is os c.args.place one p.0 c.index-one.ensures p.1 in
    let filled = subst (λ q. IsAtOne q (λ l string. (us : List Target) × IsAsked (flow_in book).program l string us × AreFilled dom c.args.engine.now.store c.args.walk.now (flow_in book) us)) (ap (λ (x : OpenTicket Course). x.question) (sym same) ∙ c.in-State.is) (c.requires.filled p.0 p.1) in
    let asks : asks.State c.in-State.at c.in-State.string ≡ o.question = sym c.in-State.is ∙ ap (λ (x : OpenTicket Course). x.question) (read_is os c.args.place one o c.index-one.ensures e) in
    let v = c.in_ok-value-in-State.value in
    subst (λ (q : Question). IsTold dom m q (told.State v)) asks (
    subst (λ (z : Machine). Says (answer_at dom c.in-State.at c.in-State.string z) (Some v)) is (
    c.in_ok-value-in-State.ensures.says (flow_in book) c.in-State.at c.in-State.string filled.0 filled.1 filled.2))

pub returns-in_ok-value-in-State-clause-sound : goal.returns-in_ok-value-in-State-clause-sound
returns-in_ok-value-in-State-clause-sound g c = λ m is o e.
    let dom = g.D.Domain.operations c.args.engine.now.domain in
    let book = c.args.book.now in
    let os = book.tickets.open_ones.items in
    let p = get_some os c.args.place c.requires.there in
    let one = c.index-one.result.now in
    let same = read_is os c.args.place one p.0 c.index-one.ensures p.1 in
    let filled = subst (λ q. IsAtOne q (λ l string. (us : List Target) × IsAsked (flow_in book).program l string us × AreFilled dom c.args.engine.now.store c.args.walk.now (flow_in book) us)) (ap (λ (x : OpenTicket Course). x.question) (sym same) ∙ c.in-State.is) (c.requires.filled p.0 p.1) in
    let asks : asks.State c.in-State.at c.in-State.string ≡ o.question = sym c.in-State.is ∙ ap (λ (x : OpenTicket Course). x.question) (read_is os c.args.place one o c.index-one.ensures e) in
    let v = c.in_ok-value-in-State.value in
    let covers = g.D.Domain.covers c.args.engine.now.domain in
    subst (λ (q : Question). SoundDone dom covers m.engine m.program q (told.State v)) asks (
    subst (λ (z : Machine). Covers covers (routines_of z.program) c.in-State.at c.in-State.string (Some v)) is (
    c.in_ok-value-in-State.ensures.sound (flow_in book) c.in-State.at c.in-State.string filled.0 filled.1 filled.2))

pub upstream-requires : goal.upstream-requires
upstream-requires g c =
    let dom = g.D.Domain.operations c.args.engine.now.domain in
    let book = c.args.book.now in
    let os = book.tickets.open_ones.items in
    let p = get_some os c.args.place c.requires.there in
    let one = c.index-one.result.now in
    let same = read_is os c.args.place one p.0 c.index-one.ensures p.1 in
    let filled = subst (λ q. IsAtOne q (λ l string. (us : List Target) × IsAsked (flow_in book).program l string us × AreFilled dom c.args.engine.now.store c.args.walk.now (flow_in book) us)) (ap (λ (x : OpenTicket Course). x.question) (sym same) ∙ c.in-Why.is) (c.requires.filled p.0 p.1) in
    let a = filled.1 in
    record {
      filled = subst (λ (xs : List ℕ). (q : ℕ) × (us : List Target) × (procedure_of c.flow-flow.result.program c.in-Why.at ≡ In q) × (targets c.flow-flow.result.program q c.in-Why.at xs ≡ Some us) × AreFilled dom c.args.engine.now.store c.args.walk.now c.flow-flow.result us) (sym c.as_slice.ensures.same) (
          subst (λ (f : Plan). (q : ℕ) × (us : List Target) × (procedure_of f.program c.in-Why.at ≡ In q) × (targets f.program q c.in-Why.at c.in-Why.string ≡ Some us) × AreFilled dom c.args.engine.now.store c.args.walk.now f us) (sym c.flow-flow.ensures.is) (a.place, filled.0, a.there, a.are, filled.2));
    }

pub returns-in_ok-stmts-in-Why-clause-says : goal.returns-in_ok-stmts-in-Why-clause-says
returns-in_ok-stmts-in-Why-clause-says g c = λ m is o e.
    let dom = g.D.Domain.operations c.args.engine.now.domain in
    let book = c.args.book.now in
    let os = book.tickets.open_ones.items in
    let p = get_some os c.args.place c.requires.there in
    let one = c.index-one.result.now in
    let same = read_is os c.args.place one p.0 c.index-one.ensures p.1 in
    let filled = subst (λ q. IsAtOne q (λ l string. (us : List Target) × IsAsked (flow_in book).program l string us × AreFilled dom c.args.engine.now.store c.args.walk.now (flow_in book) us)) (ap (λ (x : OpenTicket Course). x.question) (sym same) ∙ c.in-Why.is) (c.requires.filled p.0 p.1) in
    let asks : asks.Why c.in-Why.at c.in-Why.string ≡ o.question = sym c.in-Why.is ∙ ap (λ (x : OpenTicket Course). x.question) (read_is os c.args.place one o c.index-one.ensures e) in
    let a = filled.1 in
    let stmts = subst (λ xs. IsListed dom c.args.engine.now.store c.args.walk.now c.flow-flow.result c.in-Why.at xs c.in_ok-stmts-in-Why.stmts) c.as_slice.ensures.same c.in_ok-stmts-in-Why.ensures.is in
    let listed = listed_is dom dom c.args.engine.now.store c.args.walk.now c.flow-flow.result (flow_in book) c.in-Why.at c.in-Why.string c.in_ok-stmts-in-Why.stmts filled.0 refl c.flow-flow.ensures.is stmts a filled.2 in
    subst (λ (q : Question). IsTold dom m q (told.Why c.in_ok-stmts-in-Why.stmts)) asks (
      subst (λ (z : Machine). IsAnswered (answer_at dom c.in-Why.at c.in-Why.string z)) is (asked_answered dom (flow_in book).engine (flow_in book).program c.in-Why.at c.in-Why.string filled.0 c.requires.ready.right.checked a),
      upstream_of dom book c.args.engine.now.store m is c.in-Why.at c.in-Why.string filled.0 c.in_ok-stmts-in-Why.stmts a listed,
    )

pub returns-in_ok-stmts-in-Why-clause-sound : goal.returns-in_ok-stmts-in-Why-clause-sound
returns-in_ok-stmts-in-Why-clause-sound g c = λ m is o e.
    let dom = g.D.Domain.operations c.args.engine.now.domain in
    let book = c.args.book.now in
    let os = book.tickets.open_ones.items in
    let p = get_some os c.args.place c.requires.there in
    let one = c.index-one.result.now in
    let same = read_is os c.args.place one p.0 c.index-one.ensures p.1 in
    let filled = subst (λ q. IsAtOne q (λ l string. (us : List Target) × IsAsked (flow_in book).program l string us × AreFilled dom c.args.engine.now.store c.args.walk.now (flow_in book) us)) (ap (λ (x : OpenTicket Course). x.question) (sym same) ∙ c.in-Why.is) (c.requires.filled p.0 p.1) in
    let asks : asks.Why c.in-Why.at c.in-Why.string ≡ o.question = sym c.in-Why.is ∙ ap (λ (x : OpenTicket Course). x.question) (read_is os c.args.place one o c.index-one.ensures e) in
    let a = filled.1 in
    let stmts = subst (λ xs. IsListed dom c.args.engine.now.store c.args.walk.now c.flow-flow.result c.in-Why.at xs c.in_ok-stmts-in-Why.stmts) c.as_slice.ensures.same c.in_ok-stmts-in-Why.ensures.is in
    let listed = listed_is dom dom c.args.engine.now.store c.args.walk.now c.flow-flow.result (flow_in book) c.in-Why.at c.in-Why.string c.in_ok-stmts-in-Why.stmts filled.0 refl c.flow-flow.ensures.is stmts a filled.2 in
    subst (λ (q : Question). SoundDone dom (g.D.Domain.covers c.args.engine.now.domain) m.engine m.program q (told.Why c.in_ok-stmts-in-Why.stmts)) asks (
    subst (λ (z : Machine). Suffices dom z.engine z.program c.in-Why.at c.in-Why.string c.in_ok-stmts-in-Why.stmts) is (
    subst (Suffices dom book.setting.engine book.history.now c.in-Why.at c.in-Why.string) (sym listed) (
    c.answers_stay.ensures.listed c.args.engine.now.domain book.setting.engine same_name book.history.now c.in-Why.at c.in-Why.string a.place filled.0 same_is a.there a.are)))

pub unreachable-requires : goal.unreachable-requires
unreachable-requires g c =
    let dom = g.D.Domain.operations c.args.engine.now.domain in
    let book = c.args.book.now in
    let os = book.tickets.open_ones.items in
    let p = get_some os c.args.place c.requires.there in
    let one = c.index-one.result.now in
    let same = read_is os c.args.place one p.0 c.index-one.ensures p.1 in
    let filled = subst (λ q. IsAtOne q (λ l string. (us : List Target) × IsAsked (flow_in book).program l string us × AreFilled dom c.args.engine.now.store c.args.walk.now (flow_in book) us)) (ap (λ (x : OpenTicket Course). x.question) (sym same) ∙ c.in-Report.is) (c.requires.filled p.0 p.1) in
    filled

pub unreachable-requires-in-Faults : goal.unreachable-requires-in-Faults
unreachable-requires-in-Faults g c =
    let dom = g.D.Domain.operations c.args.engine.now.domain in
    let book = c.args.book.now in
    let os = book.tickets.open_ones.items in
    let p = get_some os c.args.place c.requires.there in
    let one = c.index-one.result.now in
    let same = read_is os c.args.place one p.0 c.index-one.ensures p.1 in
    let filled = subst (λ q. IsAtOne q (λ l string. (us : List Target) × IsAsked (flow_in book).program l string us × AreFilled dom c.args.engine.now.store c.args.walk.now (flow_in book) us)) (ap (λ (x : OpenTicket Course). x.question) (sym same) ∙ c.in-Faults.is) (c.requires.filled p.0 p.1) in
    filled
