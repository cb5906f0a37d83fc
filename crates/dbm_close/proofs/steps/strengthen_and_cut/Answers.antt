use Rattle.dbm_close.proofs.steps.strengthen_and_cut.Goals as goal

pub returns-clause-kept : goal.returns-clause-kept
returns-clause-kept c = λ i j l w. (c.update.ensures.kept i j l w).1
