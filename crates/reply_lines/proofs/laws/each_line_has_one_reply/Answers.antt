use Rattle.reply_lines.proofs.Replied.{one_for_each, replies_are_told}
use Rattle.reply_lines.proofs.laws.each_line_has_one_reply.Goals as goal

pub returns : goal.returns
returns g c = record {
  one = λ d. one_for_each (g.D.Domain.operations d);
  told = λ d e. replies_are_told (g.D.Domain.operations d) (g.E.Domain.operations e);
}
