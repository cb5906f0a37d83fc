use Rattle.dom_listseg_words.proofs.Portable.{segment_portable}
use Rattle.dom_listseg_words.proofs.laws.segments_are_portable.Goals as goal

pub returns : goal.returns
returns c = record { portable = segment_portable }
