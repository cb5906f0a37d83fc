use Rattle.imp_round_trip.proofs.ReadAgain.{printable, procedure_printable, body_printable, simple_printable, condition_printable, same_again}
use Rattle.imp_round_trip.proofs.what_is_read_is_read_back.Goals as goal

pub returns : goal.returns
returns c = record { printable = printable; procedure = procedure_printable; body = body_printable; simple = simple_printable; condition = condition_printable; same = same_again }
