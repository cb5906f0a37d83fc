use Rattle.dom_octagon_words.proofs.Upper.{octagon_bounds}
use Rattle.dom_octagon_words.proofs.laws.octagons_have_upper_bounds.Goals as goal

pub returns : goal.returns
returns c = record { upper = octagon_bounds }
