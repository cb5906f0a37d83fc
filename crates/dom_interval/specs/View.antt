use Rattle.dom_interval_meaning.specs.State.{Intervals, Empty, Within}
use Rattle.dom_interval.specs.declared.state.Kept.{Kept}
use Rattle.dom_interval.specs.declared.state.Kept.TheVariants as kept

-- what a state says of its slots
abbrev pub intervals_of : Kept → Intervals
intervals_of kept.Empty = Empty
intervals_of (kept.Within v) = Within v.items
