use Rattle.std.proofs.Common.{refl}
use Rattle.std.specs.Option.{option_copied}
use Rattle.request_json.specs.declared.request.Request.TheVariants as q
use Rattle.serve_answers.specs.Turns.{cost_turn, listing_turn, program_turn}
use Rattle.serve_answers.specs.Lines.{request_turn}
use Rattle.serve_session.proofs.Answered.{edits_not_filled, filled_not, halted, not_filled, only_edits, ran, told, turned}
use Rattle.serve_session.proofs.answer.request_line.Goals as goal

pub returns-in-State-clause-turn : goal.returns-in-State-clause-turn
unfolding request_turn
returns-in-State-clause-turn g c = λ readings m h.
    turned c.state_line.result (λ v. v.items) (g.D.Domain.operations c.args.session.now.engine.domain) m _ readings c.args.request (q.State c.in-State.query) c.in-State.is (c.state_line.ensures.turn m h)

pub returns-in-State-clause-between : goal.returns-in-State-clause-between
unfolding request_turn
returns-in-State-clause-between g c = λ readings m fills h.
    halted c.state_line.result (λ v. v.items) (g.D.Domain.operations c.args.session.now.engine.domain) m _ readings c.args.request (q.State c.in-State.query) c.in-State.is (c.state_line.ensures.between m h)

pub returns-in-Why-clause-turn : goal.returns-in-Why-clause-turn
unfolding request_turn
returns-in-Why-clause-turn g c = λ readings m h.
    turned c.why_line.result (λ v. v.items) (g.D.Domain.operations c.args.session.now.engine.domain) m _ readings c.args.request (q.Why c.in-Why.query) c.in-Why.is (c.why_line.ensures.turn m h)

pub returns-in-Why-clause-between : goal.returns-in-Why-clause-between
unfolding request_turn
returns-in-Why-clause-between g c = λ readings m fills h.
    halted c.why_line.result (λ v. v.items) (g.D.Domain.operations c.args.session.now.engine.domain) m _ readings c.args.request (q.Why c.in-Why.query) c.in-Why.is (c.why_line.ensures.between m h)

pub returns-in-Report-clause-turn : goal.returns-in-Report-clause-turn
unfolding request_turn
returns-in-Report-clause-turn g c = λ readings m h.
    turned c.report_line.result (λ v. v.items) (g.D.Domain.operations c.args.session.now.engine.domain) m _ readings c.args.request q.Report c.in-Report.is (c.report_line.ensures.turn m h)

pub returns-in-Report-clause-between : goal.returns-in-Report-clause-between
unfolding request_turn
returns-in-Report-clause-between g c = λ readings m fills h.
    halted c.report_line.result (λ v. v.items) (g.D.Domain.operations c.args.session.now.engine.domain) m _ readings c.args.request q.Report c.in-Report.is (c.report_line.ensures.between m h)

pub returns-in-Faults-clause-turn : goal.returns-in-Faults-clause-turn
unfolding request_turn
returns-in-Faults-clause-turn g c = λ readings m h.
    turned c.faults_line.result (λ v. v.items) (g.D.Domain.operations c.args.session.now.engine.domain) m _ readings c.args.request (q.Faults c.in-Faults.only) c.in-Faults.is (c.faults_line.ensures.turn m h)

pub returns-in-Faults-clause-between : goal.returns-in-Faults-clause-between
unfolding request_turn
returns-in-Faults-clause-between g c = λ readings m fills h.
    halted c.faults_line.result (λ v. v.items) (g.D.Domain.operations c.args.session.now.engine.domain) m _ readings c.args.request (q.Faults c.in-Faults.only) c.in-Faults.is (c.faults_line.ensures.between m h)

pub returns-in-Undo-clause-turn : goal.returns-in-Undo-clause-turn
unfolding request_turn
returns-in-Undo-clause-turn g c = λ readings m h.
    turned c.undo_line.result (λ v. v.items) (g.D.Domain.operations c.args.session.now.engine.domain) m _ readings c.args.request q.Undo c.in-Undo.is (c.undo_line.ensures.turn m h)

pub returns-in-Redo-clause-turn : goal.returns-in-Redo-clause-turn
unfolding request_turn
returns-in-Redo-clause-turn g c = λ readings m h.
    turned c.redo_line.result (λ v. v.items) (g.D.Domain.operations c.args.session.now.engine.domain) m _ readings c.args.request q.Redo c.in-Redo.is (c.redo_line.ensures.turn m h)

pub returns-in-Begin-clause-turn : goal.returns-in-Begin-clause-turn
unfolding request_turn
returns-in-Begin-clause-turn g c = λ readings m h.
    turned c.begin_line.result (λ v. v.items) (g.D.Domain.operations c.args.session.now.engine.domain) m _ readings c.args.request (q.Begin c.in-Begin.task) c.in-Begin.is (c.begin_line.ensures.turn m h)

pub returns-in-Step-clause-turn : goal.returns-in-Step-clause-turn
unfolding request_turn
returns-in-Step-clause-turn g c = λ readings m h.
    turned c.step_line.result (λ v. v.items) (g.D.Domain.operations c.args.session.now.engine.domain) m _ readings c.args.request (q.Step c.in-Step.ticket c.in-Step.n) c.in-Step.is (c.step_line.ensures.turn m h)

pub returns-in-Step-clause-between : goal.returns-in-Step-clause-between
unfolding request_turn
returns-in-Step-clause-between g c = λ readings m fills h.
    halted c.step_line.result (λ v. v.items) (g.D.Domain.operations c.args.session.now.engine.domain) m _ readings c.args.request (q.Step c.in-Step.ticket c.in-Step.n) c.in-Step.is (c.step_line.ensures.between m h)

pub returns-in-Cancel-clause-turn : goal.returns-in-Cancel-clause-turn
unfolding request_turn
returns-in-Cancel-clause-turn g c = λ readings m h.
    turned c.cancel_line.result (λ v. v.items) (g.D.Domain.operations c.args.session.now.engine.domain) m _ readings c.args.request (q.Cancel c.in-Cancel.ticket) c.in-Cancel.is (c.cancel_line.ensures.turn m h)

pub returns-in-Cost-clause-turn : goal.returns-in-Cost-clause-turn
unfolding request_turn
returns-in-Cost-clause-turn g c = λ readings m h.
    turned c.cost_line.result (λ v. v.items) (g.D.Domain.operations c.args.session.now.engine.domain) m _ readings c.args.request q.Cost c.in-Cost.is
    (told c.cost_line.result (λ v. v.items) m _ (cost_turn m) refl h (c.cost_line.ensures.line m h))

pub returns-in-Program-clause-turn : goal.returns-in-Program-clause-turn
unfolding request_turn
returns-in-Program-clause-turn g c = λ readings m h.
    turned c.program_line.result (λ v. v.items) (g.D.Domain.operations c.args.session.now.engine.domain) m _ readings c.args.request q.Program c.in-Program.is
    (told c.program_line.result (λ v. v.items) m _ (program_turn m) refl h (c.program_line.ensures.line m h))

pub returns-in-Listing-clause-turn : goal.returns-in-Listing-clause-turn
unfolding request_turn
returns-in-Listing-clause-turn g c = λ readings m h.
    turned c.listing_line.result (λ v. v.items) (g.D.Domain.operations c.args.session.now.engine.domain) m _ readings c.args.request q.Listing c.in-Listing.is
    (told c.listing_line.result (λ v. v.items) m _ (listing_turn m) refl h (c.listing_line.ensures.line m h))

pub returns-in-Run-clause-turn : goal.returns-in-Run-clause-turn
unfolding request_turn
returns-in-Run-clause-turn g c = λ readings m h.
    turned c.run_line.result (λ v. v.items) (g.D.Domain.operations c.args.session.now.engine.domain) m _ readings c.args.request (q.Run c.in-Run.inputs c.in-Run.fuel c.in-Run.at) c.in-Run.is
    (ran c.run_line.result (λ v. v.items) m _ c.in-Run.inputs c.as_slice.result.now c.in-Run.fuel c.in-Run.at (option_copied c.as_ref.result) c.as_slice.ensures.same c.as_ref.ensures.value h (c.run_line.ensures.line m h))

pub returns-in-State-clause-unchanged : goal.returns-in-State-clause-unchanged
returns-in-State-clause-unchanged g c = λ m h other. filled_not c.args.request (q.State c.in-State.query) c.in-State.is tt other

pub returns-in-Why-clause-unchanged : goal.returns-in-Why-clause-unchanged
returns-in-Why-clause-unchanged g c = λ m h other. filled_not c.args.request (q.Why c.in-Why.query) c.in-Why.is tt other

pub returns-in-Report-clause-unchanged : goal.returns-in-Report-clause-unchanged
returns-in-Report-clause-unchanged g c = λ m h other. filled_not c.args.request q.Report c.in-Report.is tt other

pub returns-in-Faults-clause-unchanged : goal.returns-in-Faults-clause-unchanged
returns-in-Faults-clause-unchanged g c = λ m h other. filled_not c.args.request (q.Faults c.in-Faults.only) c.in-Faults.is tt other

pub returns-in-Step-clause-unchanged : goal.returns-in-Step-clause-unchanged
returns-in-Step-clause-unchanged g c = λ m h other. filled_not c.args.request (q.Step c.in-Step.ticket c.in-Step.n) c.in-Step.is tt other

pub returns-in-Undo-clause-between : goal.returns-in-Undo-clause-between
returns-in-Undo-clause-between g c = λ readings m fills h. not_filled c.args.request q.Undo c.in-Undo.is (λ none. none) fills

pub returns-in-Redo-clause-between : goal.returns-in-Redo-clause-between
returns-in-Redo-clause-between g c = λ readings m fills h. not_filled c.args.request q.Redo c.in-Redo.is (λ none. none) fills

pub returns-in-Begin-clause-between : goal.returns-in-Begin-clause-between
returns-in-Begin-clause-between g c = λ readings m fills h. not_filled c.args.request (q.Begin c.in-Begin.task) c.in-Begin.is (λ none. none) fills

pub returns-in-Cancel-clause-between : goal.returns-in-Cancel-clause-between
returns-in-Cancel-clause-between g c = λ readings m fills h. not_filled c.args.request (q.Cancel c.in-Cancel.ticket) c.in-Cancel.is (λ none. none) fills

pub returns-in-Cost-clause-between : goal.returns-in-Cost-clause-between
returns-in-Cost-clause-between g c = λ readings m fills h. not_filled c.args.request q.Cost c.in-Cost.is (λ none. none) fills

pub returns-in-Program-clause-between : goal.returns-in-Program-clause-between
returns-in-Program-clause-between g c = λ readings m fills h. not_filled c.args.request q.Program c.in-Program.is (λ none. none) fills

pub returns-in-Listing-clause-between : goal.returns-in-Listing-clause-between
returns-in-Listing-clause-between g c = λ readings m fills h. not_filled c.args.request q.Listing c.in-Listing.is (λ none. none) fills

pub returns-in-Run-clause-between : goal.returns-in-Run-clause-between
returns-in-Run-clause-between g c = λ readings m fills h. not_filled c.args.request (q.Run c.in-Run.inputs c.in-Run.fuel c.in-Run.at) c.in-Run.is (λ none. none) fills

pub returns-in_default-clause-turn : goal.returns-in_default-clause-turn
returns-in_default-clause-turn g c = λ readings m h.
    let other = c.in_default in
    let edits = only_edits c.args.request other.not-State other.not-Report other.not-Faults other.not-Cost other.not-Program other.not-Listing other.not-Run other.not-Why other.not-Undo other.not-Redo other.not-Begin other.not-Step other.not-Cancel in
    c.edit_request.ensures.turn readings m edits h

pub returns-in_default-clause-between : goal.returns-in_default-clause-between
returns-in_default-clause-between g c = λ readings m fills h.
    let other = c.in_default in
    let edits = only_edits c.args.request other.not-State other.not-Report other.not-Faults other.not-Cost other.not-Program other.not-Listing other.not-Run other.not-Why other.not-Undo other.not-Redo other.not-Begin other.not-Step other.not-Cancel in
    absurd (edits_not_filled c.args.request edits fills)
