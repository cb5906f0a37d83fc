use Rattle.serve_command.proofs.BoundLemmas.{met_bounded}
use Rattle.serve_command.proofs.reading.read_words.Goals as goal

pub returns-in-Some-clause-bounded : goal.returns-in-Some-clause-bounded
returns-in-Some-clause-bounded c = met_bounded _ c.in-Some.job (rw c.in-Some.is at c.in_ok-job.ensures.job)
