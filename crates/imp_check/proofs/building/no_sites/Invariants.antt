use Rattle.std.proofs.Common.{◌≡◌, ◌≤◌, ◌-◌, length}
use Rattle.imp_check.specs.Puts.{no_sites}
use Rattle.imp_check.proofs.building.no_sites.Given as goal

abbrev pub invariant-loop-alloc : goal.invariant-loop-alloc
invariant-loop-alloc l = record {
  few : length l.sites.items ≤ l.count;
  none : l.sites.items ≡ no_sites (length l.sites.items);
}

abbrev pub decreases-loop-alloc : goal.decreases-loop-alloc
decreases-loop-alloc l = l.count - length l.sites.items
