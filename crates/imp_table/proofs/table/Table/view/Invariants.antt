use Rattle.imp_table.proofs.table.Table.view.Given as goal

abbrev pub ghost-new : goal.ghost-new
ghost-new a = a.table.now.program
