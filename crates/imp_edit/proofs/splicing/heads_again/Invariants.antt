use Rattle.std.proofs.Common.{◌≡◌, take}
use Rattle.imp_edit.proofs.splicing.heads_again.Given as goal

-- the procedures so far are copied
abbrev pub invariant-loop-head : goal.invariant-loop-head
invariant-loop-head l = l.copies.items ≡ take l.head-index l.heads
