use Rattle.serve_script.proofs.LastLemmas.{one_more_line, answered_less}
use Rattle.serve_script.proofs.read.reply_to.Goals as goal

pub answer-requires : goal.answer-requires
answer-requires g c = record { lasts = one_more_line c.requires.lasts }

pub returns-in-Some-clause-lasts : goal.returns-in-Some-clause-lasts
returns-in-Some-clause-lasts g c = answered_less (g.A.Answerer.lasts c.args.answerer.now) (g.A.Answerer.lasts c.answer.new.self) c.answer.result c.answer.ensures.lasts
