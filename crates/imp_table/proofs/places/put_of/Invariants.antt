use Rattle.std.proofs.Common.{◌≤◌, ◌-◌, length}
use Rattle.imp_table.proofs.FallingLemmas.{AreGreater, AreLess}
use Rattle.imp_table.proofs.places.put_of.Given as goal

-- the number is not among those before the one place, nor among those from the other on
abbrev pub invariant-loop-low : goal.invariant-loop-low
invariant-loop-low l = record {
  order : l.low ≤ l.high;
  within : l.high ≤ length l.puts;
  greater : AreGreater l.puts l.number l.low;
  less : AreLess l.puts l.number l.high;
}

abbrev pub decreases-loop-low : goal.decreases-loop-low
decreases-loop-low l = l.high - l.low
