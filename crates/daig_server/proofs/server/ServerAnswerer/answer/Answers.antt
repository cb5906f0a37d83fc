use Rattle.std.proofs.Common.{arith}
use Rattle.daig_server.proofs.ServedLemmas.{reply_by, next_by, lasts_by}
use Rattle.daig_server.proofs.server.ServerAnswerer.answer.Goals as goal

pub answer_line-requires : goal.answer_line-requires
answer_line-requires g c = record { room = omega (arith, c.requires.lasts.1) }

pub returns : goal.returns
returns g c = record {
  reply = reply_by (λ v. v.items) (g.D.Domain.operations c.args.self.now.session.engine.domain) g.D.Named.name c.args.line.now _ _ (g.met.D.Named.answers c.args.self.now.session.engine.domain) c.answer_line.result c.answer_line.ensures.turn;
  next = next_by (λ v. v.items) (g.D.Domain.operations c.args.self.now.session.engine.domain) g.D.Named.name c.args.line.now _ _ (g.met.D.Named.answers c.args.self.now.session.engine.domain) c.answer_line.result c.answer_line.ensures.turn;
  lasts = lasts_by c.answer_line.result c.args.self.now.session.book.tickets.next _ c.answer_line.ensures.rises;
}
