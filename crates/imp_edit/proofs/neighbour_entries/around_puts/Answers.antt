use Rattle.imp_edit.proofs.SpliceLemmas.{around_below}
use Rattle.imp_edit.proofs.neighbour_entries.around_puts.Goals as goal

pub returns-then-ends_stay-clause-within : goal.returns-then-ends_stay-clause-within
returns-then-ends_stay-clause-within c b i j = c.in_ok-puts.ensures.within b i

pub returns-in_ok-put_at-in-Some-clause-within : goal.returns-in_ok-put_at-in-Some-clause-within
returns-in_ok-put_at-in-Some-clause-within c b i j =
    c.in_ok-put_at-in-Some.ensures.within b (around_below b c.args.gap.now.context.around c.in-Some.around c.in-Some.is j) (c.in_ok-puts.ensures.within b i)

pub returns-in-None-clause-within : goal.returns-in-None-clause-within
returns-in-None-clause-within c b i j = c.in_ok-puts.ensures.within b i
