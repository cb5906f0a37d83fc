use Rattle.edit_history.specs.After.{changed_program}
use Rattle.daig_session.proofs.moving.planned_move.Given as goal

-- the program that the change makes
abbrev pub ghost-after : goal.ghost-after
ghost-after g a = changed_program a.table.now.program a.change.now
