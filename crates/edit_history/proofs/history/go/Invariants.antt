use Rattle.edit_history.specs.After.{changed_program}
use Rattle.edit_history.proofs.history.go.Given as goal

-- the change leads to the program that it makes
abbrev pub ghost-exchange : goal.ghost-exchange
ghost-exchange a = changed_program a.self.now.program a.change.now
