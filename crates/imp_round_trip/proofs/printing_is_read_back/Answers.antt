use Rattle.imp_round_trip.proofs.ReadBack.{read_back}
use Rattle.imp_round_trip.proofs.Numbers.{counts, trees_kept, texts_kept}
use Rattle.imp_round_trip.proofs.printing_is_read_back.Goals as goal

pub returns : goal.returns
returns c = record { read_back = read_back; same_tree = trees_kept; in_order = counts; same_text = texts_kept }
