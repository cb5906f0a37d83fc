use Rattle.std.proofs.Common.{◌+◌, ◌*◌, ◌≤◌, Bool, length, map, sym, ap, subst, ◌∙◌, if◌then◌else◌}
use Rattle.std.specs.Prelude.{IfOk}
use Rattle.imp_words.specs.declared.refusal.QueryRefusal.TheVariants.{LongString}
use Rattle.batch_meaning.specs.Answers.{In, Refuses, answer_in, procedure_of}
use Rattle.cell_rows.specs.Targets.{value_of_target}
use Rattle.daig_query.specs.Right.{found}
use Rattle.daig_query.specs.Answered.{HoldValues, Says}
use Rattle.daig_query.proofs.Reading.{done_holds, done_count, batch_is, covers_by}
use Rattle.daig_query.proofs.engine.Engine.read.Goals as goal

pub read_cells-requires : goal.read_cells-requires
read_cells-requires g c =
    let dom = g.D.Domain.operations c.args.self.now.domain in
    let store = c.args.self.now.store in
    let f = c.requires.filled in
    record {
      there = (
        map (value_of_target (found dom f.0)) f.1,
        subst (λ cells. HoldValues store cells (map (value_of_target (found dom f.0)) f.1)) (sym c.as_slice.ensures.value) (done_holds dom f.0 store f.2.right f.1 c.args.walk.now f.2.done),
      );
    }

pub returns-clause-read : goal.returns-clause-read
returns-clause-read g c = λ plan ts f.
    let dom = g.D.Domain.operations c.args.self.now.domain in
    let store = c.args.self.now.store in
    let vs = map (value_of_target (found dom plan)) ts in
    c.read_cells.ensures.says plan.engine vs (subst (λ cells. HoldValues store cells vs) (sym c.as_slice.ensures.value) (done_holds dom plan store f.right ts c.args.walk.now f.done))

pub returns-clause-batch : goal.returns-clause-batch
returns-clause-batch g c = λ plan ts at string p f e.
    let dom = g.D.Domain.operations c.args.self.now.domain in
    let store = c.args.self.now.store in
    let vs = map (value_of_target (found dom plan)) ts in
    subst (λ a. IfOk c.read_cells.result (Says a)) (batch_is dom plan ts at string p f.right.checked e) (
    c.read_cells.ensures.says plan.engine vs (subst (λ cells. HoldValues store cells vs) (sym c.as_slice.ensures.value) (done_holds dom plan store f.right ts c.args.walk.now f.done))
    )

pub returns-clause-sound : goal.returns-clause-sound
returns-clause-sound g c = λ plan ts at string p f short place e.
    let dom = g.D.Domain.operations c.args.self.now.domain in
    let store = c.args.self.now.store in
    let vs = map (value_of_target (found dom plan)) ts in
    covers_by (g.D.Domain.covers c.args.self.now.domain) plan.program at string (answer_in dom plan.engine plan.program at string (In p)) c.read_cells.result
    (λ s cf is reach.
    c.answers_are_sound.ensures.sound c.args.self.now.domain plan.engine plan.program at string s cf f.right.checked
    (ap (λ (b : Bool). if b then Refuses LongString else answer_in dom plan.engine plan.program at string (procedure_of plan.program at)) short ∙ (ap (answer_in dom plan.engine plan.program at string) place ∙ is)) reach)
    (subst (λ a. IfOk c.read_cells.result (Says a)) (batch_is dom plan ts at string p f.right.checked e) (
    c.read_cells.ensures.says plan.engine vs (subst (λ cells. HoldValues store cells vs) (sym c.as_slice.ensures.value) (done_holds dom plan store f.right ts c.args.walk.now f.done))
    ))

pub returns-clause-ticked : goal.returns-clause-ticked
returns-clause-ticked g c = λ plan ts f.
    let dom = g.D.Domain.operations c.args.self.now.domain in
    let each = g.D.Domain.counted c.args.self.now.domain in
    subst (λ n. c.read_cells.new.steps ≤ c.args.steps.now + each * (2 * n)) (ap length c.as_slice.ensures.value ∙ done_count dom plan c.args.self.now.store f.right ts c.args.walk.now f.done) c.read_cells.ensures.most
