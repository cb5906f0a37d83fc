use Rattle.serve_answers.specs.Fine.{opening}
use Rattle.serve_output.specs.Jobs.{engine_of}
use Rattle.daig_server.proofs.work.serve_by.Goals as goal

pub returns-in-Ok-clause-wrote : goal.returns-in-Ok-clause-wrote
returns-in-Ok-clause-wrote g c = rw c.requires.named (λ readings.
    c.serve_lines-status.ensures.wrote (opening readings (engine_of c.args.settings.now) c.args.table.program) (c.in-Ok.ensures {u = tt}).begins)
