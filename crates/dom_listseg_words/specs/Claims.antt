-- What is claimed of list segments as words.
use Rattle.cert_meaning.specs.Portable.{PortableLaws, HasUpperBounds}
use Rattle.dom_listseg_meaning.specs.Covers.{covers}
use Rattle.dom_listseg_meaning.specs.Domain.{segments}
use Rattle.dom_listseg_words.specs.Words.{segment_port, leq}

-- list segments are put and taken back, and their order is sound
abbrev pub SegmentsArePortable : Type 0
SegmentsArePortable = PortableLaws segments covers segment_port

-- joins and widenings are above both sides
abbrev pub SegmentsHaveUpperBounds : Type 0
SegmentsHaveUpperBounds = HasUpperBounds segments leq
