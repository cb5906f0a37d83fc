-- What is claimed of octagons as words.
use Rattle.cert_meaning.specs.Portable.{PortableLaws, HasUpperBounds}
use Rattle.dom_octagon_meaning.specs.Covers.{covers}
use Rattle.dom_octagon_meaning.specs.Domain.{octagons}
use Rattle.dom_octagon_words.specs.Words.{octagon_port, leq}

-- octagons are put and taken back, and their order is sound
abbrev pub OctagonsArePortable : Type 0
OctagonsArePortable = PortableLaws octagons covers octagon_port

-- joins and widenings are above both sides
abbrev pub OctagonsHaveUpperBounds : Type 0
OctagonsHaveUpperBounds = HasUpperBounds octagons leq
