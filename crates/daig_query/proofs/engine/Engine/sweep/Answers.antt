use Rattle.daig_query.proofs.Sweeps.{swept-refl}
use Rattle.daig_query.proofs.engine.Engine.sweep.Goals as goal

pub returns-else-len-most-2-clause-swept : goal.returns-else-len-most-2-clause-swept
returns-else-len-most-2-clause-swept g c = swept-refl c.args.self.now.store
