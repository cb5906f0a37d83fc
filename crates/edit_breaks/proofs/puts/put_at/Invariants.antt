use Rattle.std.proofs.Common.{◌≤◌, length}
use Rattle.imp_table.proofs.FallingLemmas.{AreLess}
use Rattle.edit_breaks.proofs.puts.put_at.Given as goal

-- those from the place on have less numbers
abbrev pub invariant-loop-at : goal.invariant-loop-at
invariant-loop-at l = record {
  within : l.at ≤ length l.puts.items;
  less : AreLess l.puts.items l.number l.at;
}

abbrev pub decreases-loop-at : goal.decreases-loop-at
decreases-loop-at l = l.at
