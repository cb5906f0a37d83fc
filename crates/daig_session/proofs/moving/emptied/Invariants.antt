use Rattle.edit_history.specs.After.{changed_program}
use Rattle.daig_session.proofs.moving.emptied.Given as goal

-- the program that the change makes
abbrev pub ghost-points_changed : goal.ghost-points_changed
ghost-points_changed g a = changed_program a.table.now.program a.change.now

abbrev pub ghost-changed : goal.ghost-changed
ghost-changed g a = changed_program a.self.now.program a.change.now
