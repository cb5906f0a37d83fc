use Rattle.std.proofs.Common.{◌∙◌}
use Rattle.gen_summary.proofs.KindTexts.{kind_told}
use Rattle.gen_summary.proofs.kind.kind_of.Goals as goal

pub returns : goal.returns
returns c = record { is = λ reply is. c.kind_in.ensures.is ∙ kind_told c.args.line.now reply is }
