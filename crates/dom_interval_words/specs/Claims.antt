-- What is claimed of the order of intervals.
use Rattle.cert_meaning.specs.Portable.{PortableLaws, HasUpperBounds}
use Rattle.dom_interval_meaning.specs.Covers.{covers}
use Rattle.dom_interval_meaning.specs.Domain.{intervals}
use Rattle.dom_interval_words.specs.Words.{interval_port, leq}

-- intervals are put and taken back, and their order is sound
abbrev pub IntervalsArePortable : Type 0
IntervalsArePortable = PortableLaws intervals covers interval_port

-- joins and widenings are above both sides
abbrev pub IntervalsHaveUpperBounds : Type 0
IntervalsHaveUpperBounds = HasUpperBounds intervals leq
