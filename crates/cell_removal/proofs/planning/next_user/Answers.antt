use Rattle.std.proofs.Common.{refl}
use Rattle.cell_removal.specs.Marks.{HasMark}
use Rattle.cell_removal.proofs.Users.{behind_next, behind_all}
use Rattle.cell_removal.proofs.planning.next_user.Goals as goal

pub users-preserved : goal.users-preserved
users-preserved c = behind_next (HasMark c.args.marks.now) c.args.users.now c.users.users c.next.new.self c.in-Some.user c.users.invariant c.in-Some.ensures.steps (c.if-not-has.ensures.marked.0 refl)

pub returns : goal.returns
returns c = record { next = behind_all (HasMark c.args.marks.now) c.args.users.now c.users.users c.users.invariant c.in_default.ensures.steps.0 }
