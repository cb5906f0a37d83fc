use Rattle.serve_output.specs.Output.{usage}
use Rattle.daig_server.proofs.run.refuse_words.Goals as goal

pub returns-in-Err-clause-wrote : goal.returns-in-Err-clause-wrote
unfolding usage
returns-in-Err-clause-wrote g c = λ text taken rest told. (c.in-Err.ensures {u = tt}).prefix taken told
