use Rattle.std.proofs.Common.{◌≡◌, length, drop}
use Rattle.imp_flow.specs.Changed.{same_leaves}
use Rattle.imp_flow_rows.specs.Entered.{leaves_now}
use Rattle.imp_flow.proofs.changed.same_leaves.Given as goal

-- the breaks so far are the same
abbrev pub invariant-loop-i : goal.invariant-loop-i
invariant-loop-i l = record {
  as_many : length (leaves_now l.others) ≡ length (leaves_now l.leaves);
  told : same_leaves (drop l.i (leaves_now l.leaves)) (drop l.i (leaves_now l.others)) ≡ same_leaves (leaves_now l.leaves) (leaves_now l.others);
}
