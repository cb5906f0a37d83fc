use Rattle.dbm_incremental.proofs.ends.go_over.Goals as goal

pub returns-clause-kept : goal.returns-clause-kept
returns-clause-kept c = λ i j l w. (c.update.ensures.kept i j l w).1
