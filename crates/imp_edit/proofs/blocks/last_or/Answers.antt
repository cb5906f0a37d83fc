use Rattle.std.proofs.Common.{ℕ, Some, ap, ◌∙◌, arith}
use Rattle.imp_edit.proofs.SpliceLemmas.{last_there, last_gone}
use Rattle.imp_edit.proofs.blocks.last_or.Goals as goal

pub returns-in-Some : goal.returns-in-Some
returns-in-Some c = record { is = ap (λ (n : ℕ). Some n) c.id.ensures.is ∙ last_there c.args.block.now c.args.front c.saturating_sub.result c.in-Some.stmt.now (omega (arith, c.saturating_sub.ensures, c.len.ensures.count)) c.in-Some.ensures.item }

pub returns-in-None : goal.returns-in-None
returns-in-None c = record { is = last_gone c.args.block.now c.args.front c.saturating_sub.result (omega (arith, c.saturating_sub.ensures, c.len.ensures.count)) c.in-None.ensures.item }
