use Rattle.std.proofs.Common.{◌≡◌, ℕ, ◌+◌, [], length, take}
use Rattle.daig_graph.specs.Threads.{HasRoom, Threads}
use Rattle.daig_graph.proofs.uses.link_all.Given as goal

abbrev pub invariant-loop-place : goal.invariant-loop-place
invariant-loop-place l = record {
  threads : Threads l.initial.links.items l.links.items l.cell [] (take l.place l.inputs);
  room : (more : ℕ) → l.place + more ≡ length l.inputs → HasRoom l.links.items l.cell more;
}
