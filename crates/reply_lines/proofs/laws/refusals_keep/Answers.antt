use Rattle.reply_lines.proofs.Refused.{refusals_keep}
use Rattle.reply_lines.proofs.laws.refusals_keep.Goals as goal

pub returns : goal.returns
returns g c = record { keeps = λ d. refusals_keep (g.D.Domain.operations d) }
