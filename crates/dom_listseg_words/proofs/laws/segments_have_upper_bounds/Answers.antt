use Rattle.dom_listseg_words.proofs.Upper.{segment_bounds}
use Rattle.dom_listseg_words.proofs.laws.segments_have_upper_bounds.Goals as goal

pub returns : goal.returns
returns c = record { upper = segment_bounds }
