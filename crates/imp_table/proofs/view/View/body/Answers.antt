use Rattle.std.proofs.Common.{option_map, ap, ◌∙◌}
use Rattle.imp_check.specs.declared.entry.ProcHeader.{ProcHeader}
use Rattle.imp_check.proofs.TableLemmas.{body_at}
use Rattle.imp_table.proofs.view.View.body.Goals as goal

pub returns-in-Some : goal.returns-in-Some
returns-in-Some c = record { is = ap (option_map (λ (h : ProcHeader). h.body)) c.in-Some.ensures.is ∙ body_at c.args.self.now c.args.proc }

pub returns-in-None : goal.returns-in-None
returns-in-None c = record { is = ap (option_map (λ (h : ProcHeader). h.body)) c.in-None.ensures.is ∙ body_at c.args.self.now c.args.proc }
