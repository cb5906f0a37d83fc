use Rattle.std.proofs.Common.{◌≡◌, ◌≤◌, ◌-◌}
use Rattle.imp_check.specs.Slots.{routines_of}
use Rattle.imp_chains.specs.Chains.{chains}
use Rattle.call_contexts.specs.Tables.{chains_up}
use Rattle.call_contexts.specs.Marks.{chains_marked}
use Rattle.call_contexts.proofs.table.chains_to.Given as goal

-- the chains to the procedure at this place, and those to the later ones, where they are marked
abbrev pub invariant-loop-k : goal.invariant-loop-k
invariant-loop-k l = record {
  from : l.place ≤ l.k;
  to : l.k ≤ l.main;
  here : l.found ≡ chains_marked l.marks (chains (routines_of l.prog)) l.k;
  later : l.table.items ≡ chains_up (chains_marked l.marks (chains (routines_of l.prog))) l.main (l.main - l.k);
}
