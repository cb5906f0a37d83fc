use Rattle.std.proofs.Common.{◌≡◌, ap, ◌∙◌}
use Rattle.daig_graph.specs.Threads.{first_at}
use Rattle.daig_graph.proofs.UseWalk.{whole-uses, once-uses, items-uses}
use Rattle.daig_graph.proofs.uses.Uses.uses.Goals as goal

first-is : (c : goal.After-first_use) → c.first_use.result ≡ first_at c.self.inside.links.items c.args.cell
first-is c = c.first_use.ensures.first ∙ ap (λ f. first_at f c.args.cell) c.as_slice-2.ensures.value

pub invariant_of-result : goal.invariant_of-result
invariant_of-result c = whole-uses c.self.inside.inputs.items c.self.inside.links.items c.self.invariant c.args.cell c.as_slice.result.now c.first_use.result c.as_slice.ensures.value (first-is c)

pub returns-clause-once : goal.returns-clause-once
returns-clause-once c = once-uses c.self.inside.inputs.items c.self.inside.links.items c.self.invariant c.args.cell c.as_slice.result.now c.first_use.result c.as_slice.ensures.value (first-is c)

pub returns-clause-uses : goal.returns-clause-uses
returns-clause-uses c = items-uses c.self.inside.inputs.items c.self.inside.links.items c.self.invariant c.args.cell c.as_slice.result.now c.first_use.result c.as_slice.ensures.value (first-is c) c.args.self.now c.self.view_is
