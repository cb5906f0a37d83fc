use Rattle.serve_answers.proofs.Sources.{tree_numbered}
use Rattle.serve_output.proofs.source.read_program.Goals as goal

pub returns-in-Ok-clause-numbered : goal.returns-in-Ok-clause-numbered
returns-in-Ok-clause-numbered c = tree_numbered c.args.source.now c.in-Ok.program (c.in-Ok.ensures {u = tt}).parsed
