use Rattle.dom_octagon_words.proofs.Portable.{octagon_portable}
use Rattle.dom_octagon_words.proofs.laws.octagons_are_portable.Goals as goal

pub returns : goal.returns
returns c = record { portable = octagon_portable }
