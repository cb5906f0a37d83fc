use Rattle.edit_history.proofs.history.History.remember.Given as goal

abbrev pub ghost-exchange : goal.ghost-exchange
ghost-exchange g a = g.program
