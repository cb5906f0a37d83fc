use Rattle.std.proofs.Common.{◌∙◌}
use Rattle.daig_query.proofs.Growing.{names_trans}
use Rattle.daig_query.proofs.walk.next_demanded.Goals as goal

pub returns-in_err-entry-clause-names : goal.returns-in_err-entry-clause-names
returns-in_err-entry-clause-names g c = names_trans c.args.store.now c.targets.store c.step.new.store c.targets.invariant.names c.step.ensures.names

pub returns-in_err-entry-clause-right : goal.returns-in_err-entry-clause-right
returns-in_err-entry-clause-right g c = c.step.ensures.right

pub returns-in_err-entry-clause-placed : goal.returns-in_err-entry-clause-placed
returns-in_err-entry-clause-placed g c = c.step.ensures.placed

pub returns-in_err-entry-clause-stack : goal.returns-in_err-entry-clause-stack
returns-in_err-entry-clause-stack g c = c.step.ensures.stack ∙ c.targets.invariant.stack

pub returns-in-Some-2-clause-names : goal.returns-in-Some-2-clause-names
returns-in-Some-2-clause-names g c = names_trans c.args.store.now c.targets.store c.step.new.store c.targets.invariant.names c.step.ensures.names

pub returns-in-Some-2-clause-right : goal.returns-in-Some-2-clause-right
returns-in-Some-2-clause-right g c = c.step.ensures.right

pub returns-in-Some-2-clause-placed : goal.returns-in-Some-2-clause-placed
returns-in-Some-2-clause-placed g c = c.step.ensures.placed

pub returns-in-Some-2-clause-stack : goal.returns-in-Some-2-clause-stack
returns-in-Some-2-clause-stack g c = c.step.ensures.stack ∙ c.targets.invariant.stack

pub targets-preserved : goal.targets-preserved
targets-preserved g c = record {
  names = names_trans c.args.store.now c.targets.store c.step.new.store c.targets.invariant.names c.step.ensures.names;
  right = c.step.ensures.right;
  placed = c.step.ensures.placed;
  stack = c.step.ensures.stack ∙ c.targets.invariant.stack;
}
