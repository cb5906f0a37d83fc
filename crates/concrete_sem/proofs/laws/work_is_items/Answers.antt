use Rattle.concrete_sem.proofs.Flat.{pushes_items, break_leaves_items}
use Rattle.concrete_sem.proofs.laws.work_is_items.Goals as goal

pub returns-clause-pushes : goal.returns-clause-pushes
returns-clause-pushes c = pushes_items

pub returns-clause-leaves : goal.returns-clause-leaves
returns-clause-leaves c = break_leaves_items
