use Rattle.dom_interval_words.proofs.Portable.{interval_portable}
use Rattle.dom_interval_words.proofs.laws.intervals_are_portable.Goals as goal

pub returns : goal.returns
returns c = record { portable = interval_portable }
