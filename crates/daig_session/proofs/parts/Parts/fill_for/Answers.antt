use Rattle.std.proofs.Common.{suc, ◌+◌, ◌*◌, ◌≤◌, ◌≡◌, length, map, sym, ap, subst, ◌∙◌}
use Rattle.std.specs.Prelude.{IfErr, IfOk}
use Rattle.imp_flow.specs.Reached.{target_of}
use Rattle.daig_query.specs.Answered.{AreFilled}
use Rattle.daig_query.specs.Filled.{cells_added}
use Rattle.daig_query.proofs.Sweeps.{filled-bounded, right-in-tables}
use Rattle.daig_machine.specs.Turns.{after_question, missing_at, IsBetween}
use Rattle.daig_query.specs.Swept.{IsBounded}
use Rattle.daig_session.specs.Books.{flow_in}
use Rattle.daig_session.specs.Holds.{Holds}
use Rattle.daig_session.specs.Turns.{Fails}
use Rattle.daig_session.proofs.Swept.{behind-holds, behind-ready, swept-added}
use Rattle.daig_session.proofs.parts.Parts.fill_for.Goals as goal

pub sweep-requires : goal.sweep-requires
sweep-requires g c =
    let s = c.args.self.now in
    record { held = right-in-tables (g.D.Domain.operations s.engine.domain) (flow_in s.book) s.engine.store c.requires.ready.right }

pub fill_now-requires : goal.fill_now-requires
fill_now-requires g c =
    let s = c.args.self.now in
    let ops = g.D.Domain.operations in
    let mid = c.sweep.new.self in
    record { ready = behind-ready (ops s.engine.domain) (ops mid.domain) (ap ops c.sweep.ensures.domain) s.engine.store mid.store c.sweep.ensures.swept s.book c.sweep.ensures.right c.requires.ready }

pub returns-clause-bounded : goal.returns-clause-bounded
returns-clause-bounded g c =
    let new = c.fill_now.new.self.engine in
    subst (λ n. IsBounded n new.store) (sym (c.fill_now.ensures.setup.1 ∙ c.sweep.ensures.spare))
    (filled-bounded c.args.self.now.engine.spare c.sweep.new.self.store new.store c.sweep.ensures.bounded c.fill_now.ensures.adds_few)

pub returns-clause-filled : goal.returns-clause-filled
returns-clause-filled g c =
    subst (λ d. IfOk c.fill_now.result (λ f. AreFilled (g.D.Domain.operations d) c.fill_now.new.self.engine.store f.going.walk (flow_in c.args.self.now.book) (map target_of f.going.targets))) c.sweep.ensures.domain c.fill_now.ensures.filled

pub returns-clause-counted : goal.returns-clause-counted
returns-clause-counted g c =
    subst (λ n. IfOk c.fill_now.result (λ f. f.count ≡ n)) (swept-added c.args.self.now.engine.store c.sweep.new.self.store c.fill_now.new.self.engine.store c.sweep.ensures.swept) c.fill_now.ensures.counted

pub returns-clause-missing : goal.returns-clause-missing
returns-clause-missing g c = λ m h.
    let s = c.args.self.now in
    let ops = g.D.Domain.operations in
    let mid = c.sweep.new.self in
    let stood = behind-holds (ops s.engine.domain) (ops mid.domain) (ap ops c.sweep.ensures.domain) s.engine.store mid.store c.sweep.ensures.swept s.book in
    subst (λ d. IfOk c.fill_now.result (λ f. f.count ≡ length (missing_at (g.D.Domain.operations d) c.args.at.now c.args.string.now m))) c.sweep.ensures.domain
    (c.fill_now.ensures.missing m (stood m h))

pub returns-clause-answered : goal.returns-clause-answered
returns-clause-answered g c = λ m h.
    let s = c.args.self.now in
    let ops = g.D.Domain.operations in
    let mid = c.sweep.new.self in
    let stood = behind-holds (ops s.engine.domain) (ops mid.domain) (ap ops c.sweep.ensures.domain) s.engine.store mid.store c.sweep.ensures.swept s.book in
    subst (λ d. IfOk c.fill_now.result (λ f. Holds (ops d) c.fill_now.new.self.engine.store (record s.book { cost = f.count }) (after_question (ops d) c.args.at.now c.args.string.now m))) c.sweep.ensures.domain
    (c.fill_now.ensures.answered m (stood m h))

pub returns-clause-unanswered : goal.returns-clause-unanswered
returns-clause-unanswered g c = λ m h.
    let s = c.args.self.now in
    let ops = g.D.Domain.operations in
    let mid = c.sweep.new.self in
    let stood = behind-holds (ops s.engine.domain) (ops mid.domain) (ap ops c.sweep.ensures.domain) s.engine.store mid.store c.sweep.ensures.swept s.book in
    let new = c.fill_now.new.self in
    subst (λ d. IfOk c.fill_now.result (λ _. IsBetween (missing_at (ops d) c.args.at.now c.args.string.now m) m (Holds (ops new.engine.domain) new.engine.store new.book))) c.sweep.ensures.domain
    (c.fill_now.ensures.unanswered m (stood m h))

pub returns-clause-fails : goal.returns-clause-fails
returns-clause-fails g c = λ m h.
    let s = c.args.self.now in
    let ops = g.D.Domain.operations in
    let mid = c.sweep.new.self in
    let stood = behind-holds (ops s.engine.domain) (ops mid.domain) (ap ops c.sweep.ensures.domain) s.engine.store mid.store c.sweep.ensures.swept s.book in
    let new = c.fill_now.new.self in
    subst (λ d. IfErr c.fill_now.result (Fails (ops d) m (Holds (ops new.engine.domain) new.engine.store new.book) c.args.at.now c.args.string.now)) c.sweep.ensures.domain
    (c.fill_now.ensures.fails m (stood m h))

pub returns-clause-ticked : goal.returns-clause-ticked
returns-clause-ticked g c =
    subst (λ d. IfOk c.fill_now.result (λ f. c.fill_now.new.steps ≤ c.args.steps.now + g.D.Domain.counted d * f.count)) c.sweep.ensures.domain c.fill_now.ensures.ticked

pub returns-clause-ticked_filled : goal.returns-clause-ticked_filled
returns-clause-ticked_filled g c =
    let new = c.fill_now.new.self.engine.store in
    let same = swept-added c.args.self.now.engine.store c.sweep.new.self.store new c.sweep.ensures.swept in
    subst (λ d. c.fill_now.new.steps ≤ c.args.steps.now + g.D.Domain.counted d * suc (cells_added c.args.self.now.engine.store new)) c.sweep.ensures.domain
    (subst (λ n. c.fill_now.new.steps ≤ c.args.steps.now + g.D.Domain.counted c.sweep.new.self.domain * suc n) same c.fill_now.ensures.ticked_filled)
