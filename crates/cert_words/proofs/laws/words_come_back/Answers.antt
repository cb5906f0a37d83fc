use Rattle.cert_words.proofs.Back.{words_back, reading_exact}
use Rattle.cert_words.proofs.laws.words_come_back.Goals as goal

pub returns : goal.returns
returns c = record { back = words_back; exact = reading_exact }
