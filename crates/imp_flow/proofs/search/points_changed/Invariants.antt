use Rattle.imp_flow.proofs.search.points_changed.Given as goal

abbrev pub ghost-changed : goal.ghost-changed
ghost-changed g a = g.program
