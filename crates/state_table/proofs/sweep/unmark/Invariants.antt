use Rattle.std.proofs.Common.{◌≡◌, length}
use Rattle.state_table.specs.Marks.{rank, states_in}
use Rattle.state_table.proofs.sweep.unmark.Given as goal

abbrev pub invariant-loop-place : goal.invariant-loop-place
invariant-loop-place g l = record {
  states : states_in l.states.entries ≡ states_in l.initial.states.entries;
  none : rank l.states.entries l.place ≡ 0;
  same : length l.states.entries ≡ length l.initial.states.entries;
}
