use Rattle.daig_query.proofs.Renames.{renames-refl}
use Rattle.daig_query.proofs.engine.Engine.rename.Goals as goal

pub returns-in_default-clause-renames : goal.returns-in_default-clause-renames
returns-in_default-clause-renames g c = renames-refl c.args.self.now.store

pub returns-in_default-clause-right : goal.returns-in_default-clause-right
returns-in_default-clause-right g c = λ plan right. right

pub returns-in-Some-clause-right : goal.returns-in-Some-clause-right
returns-in-Some-clause-right g c = c.rename_cells.ensures.right (g.D.Domain.operations c.args.self.now.domain)
