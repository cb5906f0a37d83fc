use Rattle.std.proofs.Common.{arith, ◌∙◌}
use Rattle.dbm_close.proofs.MiddleLemmas.{middle_entry-round}
use Rattle.dbm_close.proofs.walks.round.Goals as goal

pub returns-clause-kept : goal.returns-clause-kept
returns-clause-kept c = λ i j l w.
    c.go_through.ensures.kept i j l w ∙ middle_entry-round c.args.d.now c.args.q c.middle_of-middle.result c.kinds-slots.ensures.matrix c.middle_of-middle.ensures.bounds i j l (omega arith)
