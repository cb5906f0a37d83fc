use Rattle.std.proofs.Common.{◌≡◌, ap, ◌∙◌}
use Rattle.daig_graph.specs.Owners.{first_owned}
use Rattle.daig_graph.proofs.OwnedWalk.{whole-owned, once-owned, items-owned}
use Rattle.daig_graph.proofs.owned.Owned.items.Goals as goal

first-is : (c : goal.After-first_cell) → c.first_cell.result ≡ first_owned c.self.inside.firsts.items c.args.list
first-is c = c.first_cell.ensures.first ∙ ap (λ f. first_owned f c.args.list) c.as_slice-2.ensures.value

pub invariant_of-result : goal.invariant_of-result
invariant_of-result c = whole-owned c.self.inside.members.items c.self.inside.firsts.items c.self.invariant c.args.list c.as_slice.result.now c.first_cell.result c.as_slice.ensures.value (first-is c)

pub returns-clause-once : goal.returns-clause-once
returns-clause-once c = once-owned c.self.inside.members.items c.self.inside.firsts.items c.self.invariant c.args.list c.as_slice.result.now c.first_cell.result c.as_slice.ensures.value (first-is c)

pub returns-clause-items : goal.returns-clause-items
returns-clause-items c = items-owned c.self.inside.members.items c.self.inside.firsts.items c.self.invariant c.args.list c.as_slice.result.now c.first_cell.result c.as_slice.ensures.value (first-is c) c.args.self.now.of (ap (λ v. v.of) c.self.view_is)
