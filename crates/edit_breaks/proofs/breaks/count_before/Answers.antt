use Rattle.std.proofs.Common.{◌∙◌, sym}
use Rattle.imp_check.specs.Parts.{leaving}
use Rattle.edit_entries.proofs.Closed.{closed_leaving}
use Rattle.edit_breaks.proofs.BreakLemmas.{none_come, none_left}
use Rattle.edit_breaks.proofs.breaks.count_before.Goals as goal

pub returns-then-is_empty : goal.returns-then-is_empty
returns-then-is_empty c = record { is = none_left _ (leaving c.args.news.now) c.args.left.now (sym c.is_empty.ensures ∙ c.if-is_empty.true) }

pub returns-then-are_closed : goal.returns-then-are_closed
returns-then-are_closed c = record { is = none_come _ (leaving c.args.news.now) c.args.left.now (closed_leaving c.args.news.now (sym c.are_closed.ensures.is ∙ c.if-are_closed.true)) }
