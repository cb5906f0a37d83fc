use Rattle.std.proofs.Common.{◌∙◌, ◌*◌, ◌+◌, sym}
use Rattle.dbm_close.proofs.MiddleLemmas.{middle_entry-slot}
use Rattle.dbm_core.specs.Half.{entry}
use Rattle.dbm_close.proofs.walks.go_through.Goals as goal

pub update-requires-clause-diagonal : goal.update-requires-clause-diagonal
update-requires-clause-diagonal c = λ h a b l p q.
    p.1 ∙ middle_entry-slot c.args.middle.now h (entry c.args.d.now (2 * h) (2 * h)) (entry c.args.d.now (2 * h + 1) (2 * h + 1)) (c.kinds-slots.ensures.matrix.diagonal h l) ∙ sym q.1

pub returns-clause-kept : goal.returns-clause-kept
returns-clause-kept c = λ i j l w. (c.update.ensures.kept i j l w).1
