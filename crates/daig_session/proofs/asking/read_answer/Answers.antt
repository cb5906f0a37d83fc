use Rattle.std.proofs.Common.{Some, sym, subst}
use Rattle.imp_words.specs.declared.refusal.QueryRefusal.TheVariants.{NoChain}
use Rattle.batch_meaning.specs.Answers.{In, answer_in}
use Rattle.daig_query.specs.Answered.{Covers, Says}
use Rattle.daig_session.proofs.Asked.{asked_is, not_refused}
use Rattle.daig_session.proofs.asking.read_answer.Goals as goal

pub unreachable-requires : goal.unreachable-requires
unreachable-requires g c =
    let dom = g.D.Domain.operations c.args.engine.now.domain in
    let f = c.requires.filled in
    not_refused dom f.0.engine f.0.program f.1 f.2 f.3 NoChain f.5.right.checked f.4 (subst (Says (answer_in dom f.0.engine f.0.program f.1 f.2 (In f.4.place))) c.in-None.is (c.in_ok-value.ensures.batch f.0 f.3 f.1 f.2 f.4.place f.5 f.4.are))

pub returns-clause-says : goal.returns-clause-says
returns-clause-says g c = λ plan l string ts a f.
    let dom = g.D.Domain.operations c.args.engine.now.domain in
    subst (λ x. Says x (Some c.in-Some.value)) (sym (asked_is dom plan.engine plan.program l string ts a)) (subst (Says (answer_in dom plan.engine plan.program l string (In a.place))) c.in-Some.is (c.in_ok-value.ensures.batch plan ts l string a.place f a.are))

pub returns-clause-sound : goal.returns-clause-sound
returns-clause-sound g c = λ plan l string ts a f.
    subst (Covers (g.D.Domain.covers c.args.engine.now.domain) plan.program l string) c.in-Some.is (c.in_ok-value.ensures.sound plan ts l string a.place f a.short a.there a.are)
