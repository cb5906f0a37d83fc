use Rattle.std.proofs.Common.{sym, ap, ◌∙◌, Some}
use Rattle.batch_meaning.specs.Places.{if_some}
use Rattle.batch_interp.specs.Answered.{value_of}
use Rattle.batch_interp.specs.Seeking.{head_at}
use Rattle.batch_interp.proofs.values.head_of_seen.Goals as goal

pub returns-in_ok-head-in-While : goal.returns-in_ok-head-in-While
returns-in_ok-head-in-While g c =
    let interpreter = c.args.interpreter.now in
    record {
      is =
          ap Some c.in_ok-head-in-While.ensures.is
          ∙ ap (λ s. if_some (head_at (g.D.Domain.operations interpreter.dom.now) interpreter.plan.now interpreter.frame.now.place interpreter.frame.now.sites s (value_of c.args.seen.before)) (λ h. Some h.value)) (sym c.in-While.is);
    }

pub head_answer-requires : goal.head_answer-requires
head_answer-requires g c = record { right = c.new-remembered.ensures.right (g.D.Domain.operations c.args.interpreter.now.dom.now) c.args.interpreter.now.plan.now }
