use Rattle.std.proofs.Common.{◌≡◌, ◌≤◌, length}
use Rattle.state_table.proofs.MarkLemmas.{Numbers}
use Rattle.state_table.proofs.sweep.number_marked.Given as goal

abbrev pub invariant-loop-place : goal.invariant-loop-place
invariant-loop-place g l = record {
  numbers : Numbers l.initial.states.entries l.states.entries l.place l.next;
  low : l.next ≤ l.place;
  same : length l.states.entries ≡ length l.initial.states.entries;
}
