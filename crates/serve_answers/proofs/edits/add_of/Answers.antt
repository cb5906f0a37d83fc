use Rattle.serve_answers.proofs.Continued.{add_continues}
use Rattle.serve_answers.proofs.edits.add_of.Goals as goal

pub returns-in-Ok-clause-continues : goal.returns-in-Ok-clause-continues
returns-in-Ok-clause-continues c = add_continues c.args.next c.args.before c.args.text.now _ (c.in-Ok.ensures {u = tt}).parsed
