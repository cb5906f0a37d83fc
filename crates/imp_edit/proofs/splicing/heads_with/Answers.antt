use Rattle.imp_check.specs.Entries.{heads_of}
use Rattle.edit_entries.specs.Gaps.{ends_with}
use Rattle.imp_edit.proofs.SpliceLemmas.{heads_same}
use Rattle.imp_edit.proofs.splicing.heads_with.Goals as goal

pub returns-then-ends_stay : goal.returns-then-ends_stay
returns-then-ends_stay c =
    let g = c.args.gap.now in
    record { are = heads_same g.context.around (heads_of c.args.table.now.program) g.context.proc (ends_with g.front g.next c.args.news.now) (c.ends_stay.ensures.stay c.if-ends_stay.true c.args.news.now) }
