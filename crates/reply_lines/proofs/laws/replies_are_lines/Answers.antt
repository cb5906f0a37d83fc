use Rattle.reply_lines.proofs.OneLine.{replies_are_lines}
use Rattle.reply_lines.proofs.laws.replies_are_lines.Goals as goal

pub returns : goal.returns
returns c = record { line = replies_are_lines }
