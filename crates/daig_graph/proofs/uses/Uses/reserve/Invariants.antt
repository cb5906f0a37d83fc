use Rattle.std.proofs.Common.{◌≡◌, ℕ, suc, ◌+◌, ◌-◌, ◌≤◌, max, length}
use Rattle.daig_graph.specs.Threads.{inputs_at, AreThreaded}
use Rattle.daig_graph.proofs.uses.Uses.reserve.Given as goal

abbrev pub invariant-loop-alloc : goal.invariant-loop-alloc
invariant-loop-alloc l = record {
  threaded : AreThreaded l.self-inside.inputs.items l.self-inside.links.items;
  same : (n : ℕ) → inputs_at l.self-inside.inputs.items n ≡ inputs_at l.initial.self-inside.inputs.items n;
  kept : length l.initial.self-inside.inputs.items ≤ length l.self-inside.inputs.items;
  most : length l.self-inside.inputs.items ≤ max (length l.initial.self-inside.inputs.items) (suc l.cell);
}

abbrev pub decreases-loop-alloc : goal.decreases-loop-alloc
decreases-loop-alloc l = l.cell + 1 - length l.self-inside.inputs.items
