use Rattle.std.proofs.Common.{length}
use Rattle.cell_removal.specs.Marks.{HasMark}
use Rattle.cell_removal.proofs.Users.{IsBehind}
use Rattle.cell_removal.proofs.planning.next_user.Given as goal

abbrev pub invariant-users : goal.invariant-users
invariant-users l = IsBehind (HasMark l.marks) l.initial.users l.users

abbrev pub decreases-users : goal.decreases-users
decreases-users l = length l.users
