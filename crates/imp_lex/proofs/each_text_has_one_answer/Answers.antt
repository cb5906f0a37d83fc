use Rattle.imp_lex.proofs.Laws.{one_answer}
use Rattle.imp_lex.proofs.each_text_has_one_answer.Goals as goal

pub returns : goal.returns
returns c = record { one = one_answer }
