use Rattle.std.proofs.Common.{◌≡◌, ℕ, ◌≤◌, length, max, suc, ◌-◌}
use Rattle.daig_graph.specs.Owners.{owned_at, AreOwned}
use Rattle.daig_graph.proofs.owned.Owned.reserve.Given as goal

abbrev pub invariant-loop-self : goal.invariant-loop-self
invariant-loop-self l = record {
  inv : AreOwned l.self-inside.members.items l.self-inside.firsts.items;
  same : (n : ℕ) → owned_at l.self-inside.members.items n ≡ owned_at l.initial.self-inside.members.items n;
  lists : l.self-inside.firsts.items ≡ l.initial.self-inside.firsts.items;
  kept : length l.initial.self-inside.members.items ≤ length l.self-inside.members.items;
  most : length l.self-inside.members.items ≤ max (length l.initial.self-inside.members.items) (suc l.cell);
}

abbrev pub decreases-loop-self : goal.decreases-loop-self
decreases-loop-self l = suc l.cell - length l.self-inside.members.items

abbrev pub invariant-loop-self-2 : goal.invariant-loop-self-2
invariant-loop-self-2 l = record {
  inv : AreOwned l.self-inside.members.items l.self-inside.firsts.items;
  members : l.self-inside.members.items ≡ l.initial.self-inside.members.items;
}

abbrev pub decreases-loop-self-2 : goal.decreases-loop-self-2
decreases-loop-self-2 l = suc l.list - length l.self-inside.firsts.items
