use Rattle.dom_interval_words.proofs.Ordered.{interval_bounds}
use Rattle.dom_interval_words.proofs.laws.intervals_have_upper_bounds.Goals as goal

pub returns : goal.returns
returns c = record { upper = interval_bounds }
