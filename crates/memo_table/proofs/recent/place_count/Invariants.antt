use Rattle.std.proofs.Common.{◌-◌, ◌<◌, ◌≤◌}
use Rattle.memo_table.proofs.recent.place_count.Given as goal

abbrev pub decreases-doubling : goal.decreases-doubling
decreases-doubling l = 4096 - l.count

abbrev pub invariant-doubling : goal.invariant-doubling
invariant-doubling l = record {
  some : 0 < l.count;
  most : l.count ≤ l.most;
}
