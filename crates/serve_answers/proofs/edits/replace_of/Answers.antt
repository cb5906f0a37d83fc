use Rattle.serve_answers.proofs.Continued.{replace_continues}
use Rattle.serve_answers.proofs.edits.replace_of.Goals as goal

pub returns-in-Ok-clause-continues : goal.returns-in-Ok-clause-continues
returns-in-Ok-clause-continues c = replace_continues c.args.next c.args.id c.args.text.now _ (c.in-Ok.ensures {u = tt}).parsed
