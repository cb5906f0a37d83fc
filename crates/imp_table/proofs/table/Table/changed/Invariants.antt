use Rattle.imp_table.proofs.table.Table.changed.Given as goal

abbrev pub ghost-new : goal.ghost-new
ghost-new g a = g.program
