use Rattle.serve_answers.proofs.Continued.{insert_continues}
use Rattle.serve_answers.proofs.edits.insert_of.Goals as goal

pub returns-in-Ok-clause-continues : goal.returns-in-Ok-clause-continues
returns-in-Ok-clause-continues c = insert_continues c.args.next c.args.place c.args.text.now _ (c.in-Ok.ensures {u = tt}).parsed
