use Rattle.std.proofs.Common.{◌≡◌, ℕ, ◌+◌, ◌≤◌, length, take}
use Rattle.daig_graph.specs.Threads.{HasRoom, Threads}
use Rattle.daig_graph.proofs.uses.unlink_all.Given as goal

abbrev pub invariant-loop-place : goal.invariant-loop-place
invariant-loop-place l = record {
  within : l.place ≤ length l.inputs;
  threads : Threads l.initial.links.items l.links.items l.cell l.inputs (take l.place l.inputs);
  room : (count more : ℕ) → l.place + more ≡ length l.inputs → HasRoom l.initial.links.items l.cell count → HasRoom l.links.items l.cell (count + more);
}

abbrev pub decreases-loop-place : goal.decreases-loop-place
decreases-loop-place l = l.place
