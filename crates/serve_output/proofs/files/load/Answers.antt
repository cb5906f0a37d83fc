use Rattle.serve_output.proofs.GivenLemmas.{told_bytes}
use Rattle.serve_output.proofs.files.load.Goals as goal

pub returns-in-Ok-clause-bytes : goal.returns-in-Ok-clause-bytes
returns-in-Ok-clause-bytes g c = told_bytes _ _ _ (c.in-Ok.ensures {u = tt}).bytes
